-- A run asks at most once of a file whether it runs, and so at most as often as the list has such files.
use Rattle.std.proofs.Common.{◌≡◌, ◌≤◌, ◌∙◌, ℕ, suc, Bool, true, false, not, ◌&&◌, ◌||◌, cond, List, [], ◌∷◌, ◌++◌, length, map, filter, Option, Some, None, refl, sym, ap, subst, nat_lt, append_assoc}
use Rattle.std.proofs.lemmas.Bool.{and_parts}
use Rattle.std.specs.Prelude.{codes}
use Rattle.std.specs.Cmp.{IsEquivalence}
use Rattle.std.specs.List.{AllByRecursion, IsDistinct, list_any}
use Rattle.std.specs.Str.{bytes_eq}
use Rattle.std.proofs.lemmas.List.{append-nil}
use Rattle.std.proofs.lemmas.Map.Made.{length-le_from_is_member}
use Rattle.std.proofs.lemmas.Slice.Eq.{bytes_eq-Decides}
use Rattle.builtins.specs.Builtins.{builtin_of}
use Rattle.device_list.specs.declared.finish.BoardEnd.{BoardEnd}
use Rattle.device_list.specs.Called.{sets_in}
use Rattle.device_list.specs.DeviceList.{Effect, Devices, effect_of, asked_about, is_choice, stays_in}
use Rattle.rehearse_terms.specs.Outcomes.{Outcome, OutcomeWord, Success, Failure}
use Rattle.rehearse_terms.specs.State.{Text, LoggedCommand, State, asked_of, answer_in, start}
use Rattle.rehearse_rules.specs.Expected.{Answered, asked_in, choices_of}
use Rattle.rehearse_rules.specs.Needs.{can_succeed, effect_now}
use Rattle.rehearse_rules.specs.Execution.{Limits, Answer, Ended, CutDevices, Request, succeeds, told, told_again, tell_or_take, take_outcome, with_outcome, device, logged, set_environment, finish}
use Rattle.rehearse_rules.specs.Runs.{Task, run_on, state_of}
use Rattle.rehearse_rules.proofs.KeptLogs.{run-keeps}
use Rattle.rehearse_rules.proofs.StayingAnswers.{AllFit, Fits, Fitting, answer_stays, answer_begins, all-fit}

effect_same : (effect listed : Effect) → Some effect ≡ Some listed → effect ≡ listed
effect_same effect listed e = cc

-- ---- texts by their bytes

bytes_same : IsEquivalence bytes_eq
bytes_same = record { refl = λ x. (bytes_eq-Decides x x).1 refl; symm = λ x y. either x y (bytes_eq x y) (bytes_eq y x) refl refl; congr = λ x y z e. ap (λ (t : Text). bytes_eq t z) ((bytes_eq-Decides x y).0 e) }
  where
    either : (x y : Text) (b c : Bool) → bytes_eq x y ≡ b → bytes_eq y x ≡ c → bytes_eq x y ≡ bytes_eq y x
    either x y true c e f = e ∙ sym ((bytes_eq-Decides y x).1 (sym ((bytes_eq-Decides x y).0 e)))
    either x y false true e f = absurd (let g = (bytes_eq-Decides x y).1 (sym ((bytes_eq-Decides y x).0 f)) in cc)
    either x y false false e f = e ∙ sym f

-- the file of a choice
abbrev file_of : (call : List Text) → Text
file_of [] = []
file_of (name ∷ []) = []
file_of (name ∷ file ∷ words) = file

module _ (devices : Devices) where
  choice_words : (call : List Text) → is_choice devices call ≡ true → call ≡ codes "runs" ∷ file_of call ∷ []
  choice_words [] e = absurd (let f = e in cc)
  choice_words (name ∷ []) e = absurd (let f = e in cc)
  choice_words (name ∷ file ∷ second ∷ words) e = absurd (let f = e in cc)
  choice_words (name ∷ file ∷ []) e = ap (λ (n : Text). n ∷ file ∷ []) ((bytes_eq-Decides name (codes "runs")).0 (and_parts (bytes_eq name (codes "runs")) _ e).0)

  choice_among : (call : List Text) → is_choice devices call ≡ true → list_any (bytes_eq (file_of call)) (asked_about devices) ≡ true
  choice_among [] e = absurd (let f = e in cc)
  choice_among (name ∷ []) e = absurd (let f = e in cc)
  choice_among (name ∷ file ∷ second ∷ words) e = absurd (let f = e in cc)
  choice_among (name ∷ file ∷ []) e = (and_parts (list_any (bytes_eq file) (asked_about devices)) _ (and_parts (bytes_eq name (codes "runs")) _ e).1).0

  -- ---- its answer stays

  abbrev Listed : (name : Text) → (words : List Text) → Type 0
  Listed name words = (builtin_of name ≡ None) × ((listed : Effect) × ((effect_of devices name words ≡ Some listed) × (listed.stays ≡ true)))

  staying : (words : List Text) (o : Option Effect) → effect_of devices (codes "runs") words ≡ o → elim o [ Some effect ↦ effect.stays | None ↦ false ] ≡ true → Listed (codes "runs") words
  staying words (Some listed) e stays = (refl, (listed, (e, stays)))
  staying words None e stays = absurd (let f = stays in cc)

  listed_choice : (name : Text) (words : List Text) → is_choice devices (name ∷ words) ≡ true → Listed name words
  listed_choice name [] e = absurd (let f = e in cc)
  listed_choice name (file ∷ second ∷ words) e = absurd (let f = e in cc)
  listed_choice name (file ∷ []) e =
      let named = (bytes_eq-Decides name (codes "runs")).0 (and_parts (bytes_eq name (codes "runs")) _ e).0 in
      let stays : stays_in devices (codes "runs") (file ∷ []) ≡ true = (and_parts (list_any (bytes_eq file) (asked_about devices)) _ (and_parts (bytes_eq name (codes "runs")) _ e).1).1 in
      subst (λ (n : Text). Listed n (file ∷ [])) (sym named) (staying (file ∷ []) (effect_of devices (codes "runs") (file ∷ [])) refl stays)

  abbrev StaysIf : LoggedCommand → Type 0
  StaysIf one = is_choice devices one.words ≡ true → one.again ≡ false → one.stays ≡ true

  abbrev AllStay : List LoggedCommand → Type 0
  AllStay [] = Unit {0}
  AllStay (one ∷ log) = StaysIf one × AllStay log

  one_more : (log : List LoggedCommand) (one : LoggedCommand) → AllStay log → StaysIf one → AllStay (log ++ one ∷ [])
  one_more [] one h stays = (stays, tt)
  one_more (first ∷ log) one h stays = (h.0, one_more log one h.1 stays)

  abbrev StayAnswer : Answer → Type 0
  StayAnswer a = AllStay (state_of a).log

  -- the effect of a call is what the list says of it, in this state
  abbrev AsSaid : Option ℕ → State → (name : Text) → (words : List Text) → Effect → Type 0
  AsSaid room s name words effect = (listed : Effect) → builtin_of name ≡ None → effect_of devices name words ≡ Some listed → effect ≡ effect_now room s listed

  abbrev entry : Outcome → Request → LoggedCommand
  entry outcome r = record { success = succeeds outcome; words = r.name ∷ r.words; stays = r.effect.stays; again = r.again }

  asked_stays : (room : Option ℕ) (r : Request) (s : State) → told r s.log ≡ None → AsSaid room s r.name r.words r.effect → is_choice devices (r.name ∷ r.words) ≡ true → r.effect.stays ≡ true
  asked_stays room r s none said choice = by (listed_choice r.name r.words choice)
    where
      by : Listed r.name r.words → r.effect.stays ≡ true
      by l = when (can_succeed room s listed) refl
        where
          listed : Effect
          listed = l.1.0

          now : r.effect ≡ effect_now room s listed
          now = said listed l.0 l.1.1.0

          when : (b : Bool) → can_succeed room s listed ≡ b → r.effect.stays ≡ true
          when true met = ap (λ (x : Effect). x.stays) (now ∙ ap (λ (b : Bool). cond b listed (record listed { stays = false; always = Some false })) met) ∙ l.1.1.1
          when false unmet =
              absurd (let fails : told r s.log ≡ Some false = ap (λ (x : Effect). cond x.stays (answer_in s.log (r.name ∷ r.words)) x.always) (now ∙ ap (λ (b : Bool). cond b listed (record listed { stays = false; always = Some false })) unmet) in
              let other = sym none ∙ fails in cc)

  finish-stays : (ends : Option BoardEnd) (name : Text) (s : State) → AllStay s.log → StayAnswer (finish ends name s)
  finish-stays (Some finish) name s h = h
  finish-stays None name s h = h

  outcome-stays : (outcome : Outcome) (r : Request) (s : State) → AllStay s.log → StaysIf (entry outcome r) → StayAnswer (with_outcome outcome r s)
  outcome-stays Success r s h stays = finish-stays r.effect.ends r.name (set_environment (sets_in r.words r.effect.sets) (logged Success r s)) (one_more s.log (entry Success r) h stays)
  outcome-stays Failure r s h stays = one_more s.log (entry Failure r) h stays

  takes-stays : (r : Request) (w : OutcomeWord) (s : State) → AllStay s.log → ((outcome : Outcome) → StaysIf (entry outcome r)) → StayAnswer (take_outcome r w s)
  takes-stays r [] s h stays = h
  takes-stays r (outcome ∷ rest) s h stays = outcome-stays outcome r (record s { word = rest }) h (stays outcome)

  tells-stays : (room : Option ℕ) (r : Request) (s : State) (o : Option Bool) → told r s.log ≡ o → AsSaid room s r.name r.words r.effect → AllStay s.log → StayAnswer (tell_or_take o r s)
  tells-stays room r s None e said h = takes-stays r s.word s h (λ outcome choice fresh. asked_stays room r s e said choice)
  tells-stays room r s (Some true) e said h = outcome-stays Success (told_again r) s h (λ choice fresh. absurd (let f = fresh in cc))
  tells-stays room r s (Some false) e said h = outcome-stays Failure (told_again r) s h (λ choice fresh. absurd (let f = fresh in cc))

  device-stays : (limits : Limits) (r : Request) (s : State) → AsSaid limits.room s r.name r.words r.effect → AllStay s.log → StayAnswer (device limits r s)
  device-stays limits r s said h = by (nat_lt (length s.log) limits.device_bound)
    where
      by : (room : Bool) → StayAnswer (elim room [ true ↦ tell_or_take (told r s.log) r s | false ↦ Ended CutDevices s ])
      by true = tells-stays limits.room r s (told r s.log) refl said h
      by false = h

  -- ---- the files of the choices in a log that took an outcome

  abbrev has_asked : LoggedCommand → Bool
  has_asked one = not one.again && is_choice devices one.words

  abbrev files : List LoggedCommand → List Text
  files [] = []
  files (one ∷ log) = cond (has_asked one) (file_of one.words ∷ files log) (files log)

  as_many : (log : List LoggedCommand) → length (choices_of devices (asked_in log)) ≡ length (files log)
  as_many [] = refl
  as_many (one ∷ log) = by one.again (as_many log)
    where
      inner : (choice : Bool) → length (choices_of devices (asked_in log)) ≡ length (files log)
          → length (cond choice ((one.success, one.words) ∷ choices_of devices (asked_in log)) (choices_of devices (asked_in log))) ≡ length (cond choice (file_of one.words ∷ files log) (files log))
      inner true h = ap suc h
      inner false h = h

      by : (again : Bool) → length (choices_of devices (asked_in log)) ≡ length (files log)
          → length (choices_of devices (map (λ e. (e.success, e.words)) (cond (not again) (one ∷ asked_of log) (asked_of log)))) ≡ length (cond (not again && is_choice devices one.words) (file_of one.words ∷ files log) (files log))
      by true h = h
      by false h = inner (is_choice devices one.words) h

  -- each of them is one of the list
  among : (log : List LoggedCommand) (q : Text) → list_any (bytes_eq q) (files log) ≡ true → list_any (bytes_eq q) (asked_about devices) ≡ true
  among [] q e = absurd (let f = e in cc)
  among (one ∷ log) q e = by one.again (is_choice devices one.words) refl (among log q) e
    where
      here : (b : Bool) → bytes_eq q (file_of one.words) ≡ b → is_choice devices one.words ≡ true → (list_any (bytes_eq q) (files log) ≡ true → list_any (bytes_eq q) (asked_about devices) ≡ true)
          → (b || list_any (bytes_eq q) (files log)) ≡ true → list_any (bytes_eq q) (asked_about devices) ≡ true
      here true is choice later f = ap (λ (t : Text). list_any (bytes_eq t) (asked_about devices)) ((bytes_eq-Decides q (file_of one.words)).0 is) ∙ choice_among one.words choice
      here false is choice later f = later f

      by : (again choice : Bool) → is_choice devices one.words ≡ choice → (list_any (bytes_eq q) (files log) ≡ true → list_any (bytes_eq q) (asked_about devices) ≡ true)
          → list_any (bytes_eq q) (cond (not again && choice) (file_of one.words ∷ files log) (files log)) ≡ true → list_any (bytes_eq q) (asked_about devices) ≡ true
      by true choice is later f = later f
      by false false is later f = later f
      by false true is later f = here (bytes_eq q (file_of one.words)) refl is later f

  -- none is asked about again
  none_later : (log front : List LoggedCommand) (call : List Text) (success : Bool) → is_choice devices call ≡ true → answer_in front call ≡ Some success → AllFit front log → AllStay log → AllByRecursion (λ g. bytes_eq (file_of call) g ≡ false) (files log)
  none_later [] front call success choice has fit stay = tt
  none_later (other ∷ log) front call success choice has fit stay = by other.again (is_choice devices other.words) refl refl (none_later log (front ++ other ∷ []) call success choice (answer_stays front (other ∷ []) call success has) fit.1 stay.1)
    where
      apart : other.again ≡ false → is_choice devices other.words ≡ true → bytes_eq (file_of call) (file_of other.words) ≡ false
      apart fresh is = either (bytes_eq (file_of call) (file_of other.words)) refl
        where
          same : bytes_eq (file_of call) (file_of other.words) ≡ true → call ≡ other.words
          same e = choice_words call choice ∙ ap (λ (f : Text). codes "runs" ∷ f ∷ []) ((bytes_eq-Decides (file_of call) (file_of other.words)).0 e) ∙ sym (choice_words other.words is)

          either : (b : Bool) → bytes_eq (file_of call) (file_of other.words) ≡ b → bytes_eq (file_of call) (file_of other.words) ≡ false
          either false e = e
          either true e =
              let told : Fits (Some success) other = subst (λ (o : Option Bool). Fits o other) (ap (answer_in front) (sym (same e)) ∙ has) (fit.0 (stay.0 is fresh)) in
              absurd (let f = told.1 in let g = fresh in cc)

      by : (again choice : Bool) → other.again ≡ again → is_choice devices other.words ≡ choice → AllByRecursion (λ g. bytes_eq (file_of call) g ≡ false) (files log)
          → AllByRecursion (λ g. bytes_eq (file_of call) g ≡ false) (cond (not again && choice) (file_of other.words ∷ files log) (files log))
      by true c a is rest = rest
      by false false a is rest = rest
      by false true a is rest = (apart a is, rest)

  distinct : (front log : List LoggedCommand) → AllFit front log → AllStay log → IsDistinct bytes_eq (files log)
  unfolding IsDistinct
  distinct front [] fit stay = tt
  distinct front (one ∷ log) fit stay = by one.again (is_choice devices one.words) refl refl (distinct (front ++ one ∷ []) log fit.1 stay.1)
    where
      has : one.again ≡ false → is_choice devices one.words ≡ true → answer_in (front ++ one ∷ []) one.words ≡ Some one.success
      has fresh is = known (answer_in front one.words) refl (fit.0 (stay.0 is fresh))
        where
          known : (o : Option Bool) → answer_in front one.words ≡ o → Fits o one → answer_in (front ++ one ∷ []) one.words ≡ Some one.success
          known None e fits = answer_begins front [] one e (stay.0 is fresh) fresh
          known (Some success) e fits = absurd (let f = fits.1 in let g = fresh in cc)

      by : (again choice : Bool) → one.again ≡ again → is_choice devices one.words ≡ choice → IsDistinct bytes_eq (files log) → IsDistinct bytes_eq (cond (not again && choice) (file_of one.words ∷ files log) (files log))
      by true c a is rest = rest
      by false false a is rest = rest
      by false true a is rest = (none_later log (front ++ one ∷ []) one.words one.success is (has a is) fit.1 stay.1, rest)

-- ---- of a run

all-stay : (task : Task) (w : OutcomeWord) → AllStay task.limits.devices (state_of (run_on task w)).log
all-stay task w =
    let devices = task.limits.devices in
    run-keeps (AllStay devices) task.limits (AsSaid devices task.limits.room)
    (λ name named s words listed free found. absurd (let g = sym free ∙ named in cc))
    (λ name words effect e s listed free found. ap (effect_now task.limits.room s) (effect_same effect listed (sym e ∙ found)))
    (λ r fresh s said h. device-stays devices task.limits r s said h)
    task.limits.step_bound task.name task.text (start task.written task.environment w) tt

-- it asks no more choices than the list has files
pub choices_within : (task : Task) (w : OutcomeWord) → length (choices_of task.limits.devices (asked_in (state_of (run_on task w)).log)) ≤ length (asked_about task.limits.devices)
choices_within task w =
    let devices = task.limits.devices in
    let log : List LoggedCommand = (state_of (run_on task w)).log in
    subst (λ (n : ℕ). n ≤ length (asked_about devices)) (sym (as_many devices log))
    (length-le_from_is_member bytes_same (files devices log) (asked_about devices) (distinct devices [] log (all-fit task w) (all-stay task w)) (among devices log))
