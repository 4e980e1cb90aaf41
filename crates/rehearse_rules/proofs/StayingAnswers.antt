-- The answers that stay in the log of a run are answers to different words; all others were given again.
use Rattle.std.proofs.Common.{◌≡◌, ◌∙◌, Bool, true, false, not, ◌&&◌, cond, List, [], ◌∷◌, ◌++◌, length, map, filter, Option, Some, None, refl, sym, ap, subst, nat_lt, append_assoc}
use Rattle.std.proofs.lemmas.List.{map-append, append-nil}
use Rattle.std.proofs.lemmas.List.Elements.{filter-append}
use Rattle.std.proofs.lemmas.Slice.Eq.{bytes_eq-Decides}
use Rattle.std.specs.Map.{lookup}
use Rattle.device_list.specs.declared.finish.BoardEnd.{BoardEnd}
use Rattle.device_list.specs.Called.{sets_in}
use Rattle.rehearse_terms.specs.Outcomes.{Outcome, OutcomeWord, Success, Failure}
use Rattle.rehearse_terms.specs.State.{Text, LoggedCommand, State, asked_of, answers_in, same_words, answer_in, start}
use Rattle.rehearse_rules.specs.Execution.{Limits, Answer, Ended, CutDevices, Request, succeeds, outcome_when, told, told_again, tell_or_take, take_outcome, with_outcome, device, logged, set_environment, finish}
use Rattle.rehearse_rules.specs.Laws.{AnswersStay}
use Rattle.rehearse_rules.specs.Runs.{Task, run_on, state_of}
use Rattle.rehearse_rules.proofs.KeptLogs.{KeepsLog, run-keeps}

-- ---- answers in a log

lookup_in_front : {K V : Type 0} (test : K → Bool) (front behind : List (K × V)) (v : V) → lookup test front ≡ Some v → lookup test (front ++ behind) ≡ Some v
lookup_in_front test [] behind v e = cc
lookup_in_front {K} {V} test (x ∷ front) behind v e = by (test x.0) e (lookup_in_front test front behind v)
  where
    by : (here : Bool) → cond here (Some x.1) (lookup test front) ≡ Some v → (lookup test front ≡ Some v → lookup test (front ++ behind) ≡ Some v) → cond here (Some x.1) (lookup test (front ++ behind)) ≡ Some v
    by true f later = f
    by false f later = later f

lookup_behind : {K V : Type 0} (test : K → Bool) (front behind : List (K × V)) → lookup test front ≡ None → lookup test (front ++ behind) ≡ lookup test behind
lookup_behind test [] behind e = refl
lookup_behind {K} {V} test (x ∷ front) behind e = by (test x.0) e (lookup_behind test front behind)
  where
    by : (here : Bool) → cond here (Some x.1) (lookup test front) ≡ None → (lookup test front ≡ None → lookup test (front ++ behind) ≡ lookup test behind) → cond here (Some x.1) (lookup test (front ++ behind)) ≡ lookup test behind
    by true f later = cc
    by false f later = later f

pub words_same : (ws : List Text) → same_words ws ws ≡ true
words_same [] = refl
words_same (w ∷ ws) = ap (λ (b : Bool). b && same_words ws ws) ((bytes_eq-Decides w w).1 refl) ∙ words_same ws

answers-append : (front behind : List LoggedCommand) → answers_in (front ++ behind) ≡ answers_in front ++ answers_in behind
answers-append front behind =
    ap (λ (l : List LoggedCommand). map (λ e. (e.words, e.success)) (filter (λ e. e.stays) l)) (filter-append (λ e. not e.again) front behind)
    ∙ ap (map (λ e. (e.words, e.success))) (filter-append (λ e. e.stays) (asked_of front) (asked_of behind))
    ∙ map-append (λ e. (e.words, e.success)) (filter (λ e. e.stays) (asked_of front)) (filter (λ e. e.stays) (asked_of behind))

-- an answer is that of the whole log
pub answer_stays : (front behind : List LoggedCommand) (call : List Text) (success : Bool) → answer_in front call ≡ Some success → answer_in (front ++ behind) call ≡ Some success
answer_stays front behind call success e =
    ap (lookup (same_words call)) (answers-append front behind) ∙ lookup_in_front (same_words call) (answers_in front) (answers_in behind) success e

-- one that was asked is the answer of the log from then on
pub answer_begins : (front behind : List LoggedCommand) (one : LoggedCommand) → answer_in front one.words ≡ None → one.stays ≡ true → one.again ≡ false → answer_in (front ++ one ∷ behind) one.words ≡ Some one.success
answer_begins front behind one none stays fresh =
    ap (lookup (same_words one.words)) (answers-append front (one ∷ behind))
    ∙ lookup_behind (same_words one.words) (answers_in front) (answers_in (one ∷ behind)) none
    ∙ first one.again one.stays fresh stays
  where
    first : (again stays : Bool) → again ≡ false → stays ≡ true
        → lookup (same_words one.words) (map (λ e. (e.words, e.success)) (filter (λ e. e.stays) (cond (not again) (record one { again = again; stays = stays } ∷ asked_of behind) (asked_of behind)))) ≡ Some one.success
    first true stays f s = cc
    first false false f s = cc
    first false true f s = ap (λ (b : Bool). cond b (Some one.success) (lookup (same_words one.words) (answers_in behind))) (words_same one.words)

-- ---- each command by the log before it

-- it was given the answer that the log has, or it was asked
abbrev pub Fits : Option Bool → LoggedCommand → Type 0
Fits (Some success) one = (one.success ≡ success) × (one.again ≡ true)
Fits None one = one.again ≡ false

abbrev pub FitsBehind : List LoggedCommand → LoggedCommand → Type 0
FitsBehind front one = one.stays ≡ true → Fits (answer_in front one.words) one

abbrev pub AllFit : List LoggedCommand → List LoggedCommand → Type 0
AllFit front [] = Unit {0}
AllFit front (one ∷ log) = FitsBehind front one × AllFit (front ++ one ∷ []) log

one_more : (front log : List LoggedCommand) (one : LoggedCommand) → AllFit front log → FitsBehind (front ++ log) one → AllFit front (log ++ one ∷ [])
one_more front [] one h fits = (subst (λ (l : List LoggedCommand). FitsBehind l one) (append-nil front) fits, tt)
one_more front (first ∷ log) one h fits =
    (h.0, one_more (front ++ first ∷ []) log one h.1 (subst (λ (l : List LoggedCommand). FitsBehind l one) (sym (append_assoc front (first ∷ []) log)) fits))

pub one_of : (front before behind : List LoggedCommand) (one : LoggedCommand) → AllFit front (before ++ one ∷ behind) → FitsBehind (front ++ before) one
one_of front [] behind one h = subst (λ (l : List LoggedCommand). FitsBehind l one) (sym (append-nil front)) h.0
one_of front (first ∷ before) behind one h =
    subst (λ (l : List LoggedCommand). FitsBehind l one) (append_assoc front (first ∷ []) before) (one_of (front ++ first ∷ []) before behind one h.1)

-- ---- a device command keeps it

abbrev pub Fitting : List LoggedCommand → Type 0
Fitting log = AllFit [] log

abbrev FittingAnswer : Answer → Type 0
FittingAnswer a = Fitting (state_of a).log

finish-fits : (ends : Option BoardEnd) (name : Text) (s : State) → Fitting s.log → FittingAnswer (finish ends name s)
finish-fits (Some finish) name s h = h
finish-fits None name s h = h

-- what is logged
abbrev entry : Outcome → Request → LoggedCommand
entry outcome r = record { success = succeeds outcome; words = r.name ∷ r.words; stays = r.effect.stays; again = r.again }

outcome-fits : (outcome : Outcome) (r : Request) (s : State) → Fitting s.log → FitsBehind s.log (entry outcome r) → FittingAnswer (with_outcome outcome r s)
outcome-fits Success r s h fits = finish-fits r.effect.ends r.name (set_environment (sets_in r.words r.effect.sets) (logged Success r s)) (one_more [] s.log (entry Success r) h fits)
outcome-fits Failure r s h fits = one_more [] s.log (entry Failure r) h fits

takes-fits : (r : Request) (w : OutcomeWord) (s : State) → Fitting s.log → ((outcome : Outcome) → FitsBehind s.log (entry outcome r)) → FittingAnswer (take_outcome r w s)
takes-fits r [] s h fits = h
takes-fits r (outcome ∷ rest) s h fits = outcome-fits outcome r (record s { word = rest }) h (fits outcome)

was_told : (success : Bool) → succeeds (outcome_when success) ≡ success
was_told true = refl
was_told false = refl

-- the answer is what the log has, if the command is steady
asked_by : (r : Request) (s : State) (o : Option Bool) → told r s.log ≡ o → r.effect.stays ≡ true → answer_in s.log (r.name ∷ r.words) ≡ o
asked_by r s o e stays = sym (ap (λ (b : Bool). cond b (answer_in s.log (r.name ∷ r.words)) r.effect.always) stays) ∙ e

tells-fits : (r : Request) (s : State) (o : Option Bool) → told r s.log ≡ o → r.again ≡ false → Fitting s.log → FittingAnswer (tell_or_take o r s)
tells-fits r s None e fresh h =
    takes-fits r s.word s h (λ outcome stays. subst (λ (o : Option Bool). Fits o (entry outcome r)) (sym (asked_by r s None e stays)) fresh)
tells-fits r s (Some success) e fresh h =
    outcome-fits (outcome_when success) (told_again r) s h
    (λ stays. subst (λ (o : Option Bool). Fits o (entry (outcome_when success) (told_again r))) (sym (asked_by r s (Some success) e stays)) (was_told success, refl))

device-fits : (limits : Limits) (r : Request) → r.again ≡ false → Unit {0} → KeepsLog Fitting (device limits r)
device-fits limits r fresh any s h = by (nat_lt (length s.log) limits.device_bound)
  where
    by : (room : Bool) → FittingAnswer (elim room [ true ↦ tell_or_take (told r s.log) r s | false ↦ Ended CutDevices s ])
    by true = tells-fits r s (told r s.log) refl fresh h
    by false = h

-- ---- of a run

pub all-fit : (task : Task) (w : OutcomeWord) → Fitting (state_of (run_on task w)).log
all-fit task w =
    run-keeps Fitting task.limits (λ log name words effect. Unit {0}) (λ name named log words. tt) (λ name words effect e log. tt) (λ r fresh s any h. device-fits task.limits r fresh tt s h) task.limits.step_bound task.name task.text (start task.written task.environment w) tt

-- the later of two with the same words
later : (front between : List LoggedCommand) (one other : LoggedCommand) (o : Option Bool) → answer_in front one.words ≡ o → Fits o one → one.stays ≡ true → one.words ≡ other.words
    → Fits (answer_in (front ++ one ∷ between) other.words) other → (other.success ≡ one.success) × (other.again ≡ true)
later front between one other o e fits stays same h = subst (λ (p : Option Bool). Fits p other) (has o e fits) h
  where
    at_other : answer_in (front ++ one ∷ between) other.words ≡ answer_in (front ++ one ∷ between) one.words
    at_other = ap (answer_in (front ++ one ∷ between)) (sym same)

    has : (o : Option Bool) → answer_in front one.words ≡ o → Fits o one → answer_in (front ++ one ∷ between) other.words ≡ Some one.success
    has None none fresh = at_other ∙ answer_begins front between one none stays fresh
    has (Some success) some told = at_other ∙ answer_stays front (one ∷ between) one.words success some ∙ ap (λ (b : Bool). Some b) (sym told.0)

pub answers_stay : AnswersStay
answers_stay task w front between behind one other e stays other_stays same =
    let all : Fitting ((front ++ one ∷ between) ++ other ∷ behind) = subst Fitting e (all-fit task w) in
    let regrouped : (front ++ one ∷ between) ++ other ∷ behind ≡ front ++ one ∷ (between ++ other ∷ behind) = append_assoc front (one ∷ between) (other ∷ behind) in
    let first : Fits (answer_in front one.words) one = one_of [] front (between ++ other ∷ behind) one (subst Fitting regrouped all) stays in
    later front between one other (answer_in front one.words) refl first stays same (one_of [] (front ++ one ∷ between) behind other all other_stays)
