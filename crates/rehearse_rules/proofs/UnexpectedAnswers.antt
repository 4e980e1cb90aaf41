-- How many answers of a run are unexpected: where a device command asks, one outcome counts, and the other one does not; or none
-- does.
use Rattle.std.proofs.Common.{ℕ, suc, ◌+◌, ◌≤◌, ◌<◌, Bool, ◌&&◌, true, false, not, cond, List, [], ◌∷◌, ◌++◌, length, map, Option, Some, None, refl, sym, ap, ◌∙◌, ◌≡◌, ◌⊎◌, inl, inr, length-append, arith}
use Rattle.std.specs.Prelude.{nat_le, codes, take}
use Rattle.std.specs.Str.{bytes_eq}
use Rattle.std.specs.List.{list_any}
use Rattle.std.proofs.Math.Dec.{leb-zero}
use Rattle.std.proofs.lemmas.Bool.{and_parts, le-leb, leb-true}
use Rattle.std.proofs.lemmas.List.{length-map}
use Rattle.std.proofs.lemmas.List.Elements.{filter-append}
use Rattle.device_list.specs.DeviceList.{Devices, Effect, call_effect, line_effect, fails_normally, most_choices, asked_about, is_choice, expected}
use Rattle.device_list.specs.Kinds.{EachCall}
use Rattle.rehearse_terms.specs.Outcomes.{OutcomeWord, Outcome, Success, Failure, Run, Short, Long, failures}
use Rattle.rehearse_terms.specs.State.{Text, State, LoggedCommand, Variables, start, asked_of}
use Rattle.rehearse_terms.specs.declared.written.Written.{Written}
use Rattle.rehearse_rules.specs.Execution.{Answer, Normal, Exit, Ended, Dry, succeeds, outcome_when, exec, run_text}
use Rattle.rehearse_rules.specs.Expected.{Answered, asked_in, is_other, is_unexpected, unexpected_of, choices_of}
use Rattle.rehearse_rules.specs.Laws.{IsExpected, NeitherCounts, OneIsExpected}
use Rattle.rehearse_rules.specs.Runs.{Task, run_on, kind, kind_of, taken_kind, state_of, unexpected, is_at_most, is_allowed}
use Rattle.rehearse_rules.proofs.ChoiceTreeLemmas.{Kinds, IsPruned}
use Rattle.rehearse_rules.proofs.TakenOutcomes.{more, answers, GoesTo, Track, Track-of, Keeps, AsksOne, Keeps-text, Keeps-exec}

-- every digit of the word on which a task runs is taken, or its run ends
pub Keeps-run_on : (task : Task) (s : State) → Keeps task.limits.device_bound s (run_text task.limits (exec task.limits task.limits.step_bound) task.name task.text)
Keeps-run_on task s = Keeps-text task.limits (exec task.limits task.limits.step_bound) (Keeps-exec task.limits task.limits.step_bound) task.name task.text s

-- ---- one more command has taken an outcome

taken_not_short : (u : OutcomeWord) (t : State) → t.word ≡ u → taken_kind t ≡ Short → ⊥
taken_not_short [] t e k = let r : taken_kind t ≡ Run = rw e refl in absurd cc
taken_not_short (c ∷ u) t e k = let r : taken_kind t ≡ Long = rw e refl in absurd cc

as_many : (log : List LoggedCommand) → length (answers log) ≡ length (asked_in log)
as_many log = length-map (asked_of log) (λ e. e.success) ∙ sym (length-map (asked_of log) (λ e. (e.success, e.words)))

no_more_asked : (written : Written) (environment : Variables) (w : OutcomeWord) (t : State) → GoesTo (start written environment w) t → length (asked_in t.log) + length t.word ≡ length w
no_more_asked written environment w t g =
    let a = as_many t.log in
    let b = ap length g.outcomes in
    let c = length-map g.taken succeeds in
    let d = ap length g.word in
    let e = length-append g.taken t.word in
    omega arith

none_further : (l further : List Answered) (one : Answered) (more : List Answered) → more ≡ l ++ one ∷ further → length more ≤ length l + 1 → further ≡ []
none_further l [] one more e h = refl
none_further l (other ∷ further) one more e h = absurd (let a = ap length e in let b = length-append l (one ∷ other ∷ further) in omega arith)

-- the words of the command that asks after p, whatever it is answered
pub record AsksAt (task : Task) (p : OutcomeWord) : Type 0 where
  pub call : List Text
  pub grows : (d : Outcome) → asked_in (state_of (run_on task (p ++ d ∷ []))).log ≡ asked_in (state_of (run_on task p)).log ++ (succeeds d, call) ∷ []

-- the same, of an answer and of the runs that go on
abbrev AsksHere : (run : OutcomeWord → Answer) → Answer → Type 0
AsksHere run a = (call : List Text) × ((d : Outcome) → asked_in (state_of (run (d ∷ []))).log ≡ asked_in (state_of a).log ++ (succeeds d, call) ∷ [])

asks_here : (bound : ℕ) (written : Written) (environment : Variables) (p : OutcomeWord) (run : OutcomeWord → Answer) (a : Answer) → Track bound (start written environment p) a → AsksOne run a → kind_of a ≡ Short
    → ((d : Outcome) → GoesTo (start written environment (p ++ d ∷ [])) (state_of (run (d ∷ [])))) → AsksHere run a
asks_here bound written environment p run (Normal t) h asks k g = absurd (taken_not_short t.word t refl k)
asks_here bound written environment p run (Exit t) h asks k g = absurd (taken_not_short t.word t refl k)
asks_here bound written environment p run (Ended ending t) h asks k g = absurd (taken_not_short t.word t refl k)
asks_here bound written environment p run (Dry t) h asks k g = (asks.0, λ d. one d)
  where
    one : (d : Outcome) → asked_in (state_of (run (d ∷ []))).log ≡ asked_in t.log ++ (succeeds d, asks.0) ∷ []
    one d =
        let u : State = state_of (run (d ∷ [])) in
        let has = asks.1 d [] in
        let here = no_more_asked written environment p t h.0 in
        let there = no_more_asked written environment (p ++ d ∷ []) u (g d) in
        let taken = ap length h.1 in
        let longer = length-append p (d ∷ []) in
        let none = none_further (asked_in t.log) has.further (succeeds d, asks.0) (asked_in u.log) has.grows (omega arith) in
        has.grows ∙ ap (λ (l : List Answered). asked_in t.log ++ (succeeds d, asks.0) ∷ l) none

pub asks_at : (task : Task) (p : OutcomeWord) → kind task p ≡ Short → AsksAt task p
asks_at task p k =
    let keeps = Keeps-run_on task (start task.written task.environment p) in
    let asks = asks_here task.limits.device_bound task.written task.environment p (λ x. run_on task (p ++ x)) (run_on task p) keeps.0 keeps.2 k
    (λ d. Track-of task.limits.device_bound (start task.written task.environment (p ++ d ∷ [])) (run_on task (p ++ d ∷ [])) (Keeps-run_on task (start task.written task.environment (p ++ d ∷ []))).0) in
    record { call = asks.0; grows = asks.1 }

-- ---- it counts, or it does not

counted_one : (devices : Devices) (l : List Answered) (one : Answered) (b : Bool) → is_unexpected devices one ≡ b → length (unexpected_of devices (l ++ one ∷ [])) ≡ length (unexpected_of devices l) + cond b 1 0
counted_one devices l one b e =
    let split = filter-append (is_unexpected devices) l (one ∷ []) in
    let one_more : unexpected_of devices (one ∷ []) ≡ cond b (one ∷ []) [] = ap (λ (c : Bool). cond c (one ∷ []) []) e in
    ap length (split ∙ ap (λ (m : List Answered). unexpected_of devices l ++ m) one_more) ∙ length-append (unexpected_of devices l) (cond b (one ∷ []) []) ∙ ap (λ (n : ℕ). length (unexpected_of devices l) + n) (few b)
  where
    few : (c : Bool) → length (cond c (one ∷ []) []) ≡ cond c 1 0
    few true = refl
    few false = refl

-- of both outcomes, one is as expected, or both are
expected_of : (devices : Devices) (call : List Text) (o : Option Bool) → expected devices call ≡ o → (success : Bool) → is_unexpected devices (success, call) ≡ is_other o success
expected_of devices call o e success = ap (λ (x : Option Bool). is_other x success) e

counts : (task : Task) (p : OutcomeWord) (asks : AsksAt task p) (d : Outcome) (b : Bool) → is_unexpected task.limits.devices (succeeds d, asks.call) ≡ b → unexpected task (p ++ d ∷ []) ≡ unexpected task p + cond b 1 0
counts task p asks d b e =
    ap (λ (l : List Answered). length (unexpected_of task.limits.devices l)) (asks.grows d)
    ∙ counted_one task.limits.devices (asked_in (state_of (run_on task p)).log) (succeeds d, asks.call) b e

-- which of the two outcomes counts then
abbrev pub ExpectedAs : Task → (p : OutcomeWord) → Option Bool → Type 0
ExpectedAs task p None = NeitherCounts task p
ExpectedAs task p (Some success) = IsExpected task p (outcome_when success) (outcome_when (not success))

pub expected_at : (task : Task) (p : OutcomeWord) (asks : AsksAt task p) (o : Option Bool) → expected task.limits.devices asks.call ≡ o → ExpectedAs task p o
expected_at task p asks None e = λ d. one d (counts task p asks d false (expected_of task.limits.devices asks.call None e (succeeds d)))
  where
    one : (d : Outcome) → unexpected task (p ++ d ∷ []) ≡ unexpected task p + 0 → unexpected task (p ++ d ∷ []) ≡ unexpected task p
    one d h = omega (arith, h)
expected_at task p asks (Some false) e =
    let f = counts task p asks Failure false (expected_of task.limits.devices asks.call (Some false) e false) in
    (f ∙ (let z : unexpected task p + 0 ≡ unexpected task p = omega arith in z), counts task p asks Success true (expected_of task.limits.devices asks.call (Some false) e true))
expected_at task p asks (Some true) e =
    let s = counts task p asks Success false (expected_of task.limits.devices asks.call (Some true) e true) in
    (s ∙ (let z : unexpected task p + 0 ≡ unexpected task p = omega arith in z), counts task p asks Failure true (expected_of task.limits.devices asks.call (Some true) e false))

-- a choice is one of a list that has some
some_among : (file : Text) (files : List Text) → list_any (bytes_eq file) files ≡ true → 0 < length files
some_among file [] e = absurd (let f = e in cc)
some_among file (f ∷ files) e = omega arith

choice_among : (devices : Devices) (call : List Text) → is_choice devices call ≡ true → 0 < length (asked_about devices)
choice_among devices [] e = absurd (let f = e in cc)
choice_among devices (name ∷ []) e = absurd (let f = e in cc)
choice_among devices (name ∷ file ∷ second ∷ words) e = absurd (let f = e in cc)
choice_among devices (name ∷ file ∷ []) e =
    some_among file (asked_about devices) (and_parts _ _ (and_parts (bytes_eq name (codes "runs")) _ e).1).0

-- neither answer is expected of a choice alone
pub is_choice_if : (devices : Devices) (call : List Text) → expected devices call ≡ None → is_choice devices call ≡ true
is_choice_if devices call = by (is_choice devices call)
  where
    by : (b : Bool) → cond b None (Some (not (fails_normally devices call))) ≡ None → b ≡ true
    by true e = refl
    by false e = absurd (let f = e in cc)

pub no_choice_if : (devices : Devices) (call : List Text) (success : Bool) → expected devices call ≡ Some success → is_choice devices call ≡ false
no_choice_if devices call success = by (is_choice devices call)
  where
    by : (b : Bool) → cond b None (Some (not (fails_normally devices call))) ≡ Some success → b ≡ false
    by true e = absurd (let f = e in cc)
    by false e = refl

pub one_is_expected : OneIsExpected
one_is_expected task p k =
    let asks = asks_at task p k in
    by asks (expected task.limits.devices asks.call) refl
  where
    by : (asks : AsksAt task p) (o : Option Bool) → expected task.limits.devices asks.call ≡ o
        → IsExpected task p Success Failure ⊎ (IsExpected task p Failure Success ⊎ (NeitherCounts task p × (0 < length (asked_about task.limits.devices))))
    by asks (Some false) e = inr (inl (expected_at task p asks (Some false) e))
    by asks (Some true) e = inl (expected_at task p asks (Some true) e)
    by asks None e = inr (inr (expected_at task p asks None e, choice_among task.limits.devices asks.call (is_choice_if task.limits.devices asks.call e)))

-- ---- what is counted so

abbrev pub CountsOne : (cost : OutcomeWord → ℕ) → (p : OutcomeWord) → (expected other : Outcome) → Type 0
CountsOne cost p expected other = (cost (p ++ expected ∷ []) ≡ cost p) × (cost (p ++ other ∷ []) ≡ cost p + 1)

abbrev pub CountsNone : (cost : OutcomeWord → ℕ) → (p : OutcomeWord) → Type 0
CountsNone cost p = (d : Outcome) → cost (p ++ d ∷ []) ≡ cost p

abbrev pub CountsAt : (cost : OutcomeWord → ℕ) → (p : OutcomeWord) → Type 0
CountsAt cost p = CountsOne cost p Success Failure ⊎ (CountsOne cost p Failure Success ⊎ CountsNone cost p)

abbrev pub IsCounted : Kinds → (cost : OutcomeWord → ℕ) → Type 0
IsCounted kind cost = (p : OutcomeWord) → kind p ≡ Short → CountsAt cost p

pub task_counted : (task : Task) → IsCounted (kind task) (unexpected task)
task_counted task p k = by (one_is_expected task p k)
  where
    by : IsExpected task p Success Failure ⊎ (IsExpected task p Failure Success ⊎ (NeitherCounts task p × (0 < length (asked_about task.limits.devices)))) → CountsAt (unexpected task) p
    by (inl h) = inl h
    by (inr (inl h)) = inr (inl h)
    by (inr (inr h)) = inr (inr h.0)

abbrev pub up_to : (cost : OutcomeWord → ℕ) → (most : Option ℕ) → OutcomeWord → Bool
up_to cost most w = is_at_most most (cost w)

-- no longer word counts less
pub no_less : (cost : OutcomeWord → ℕ) (p : OutcomeWord) (d : Outcome) → CountsAt cost p → (cost p ≤ cost (p ++ d ∷ [])) × (cost (p ++ d ∷ []) ≤ cost p + 1)
no_less cost p Success (inl h) = let e = h.0 in (omega arith, omega arith)
no_less cost p Failure (inl h) = let e = h.1 in (omega arith, omega arith)
no_less cost p Success (inr (inl h)) = let e = h.1 in (omega arith, omega arith)
no_less cost p Failure (inr (inl h)) = let e = h.0 in (omega arith, omega arith)
no_less cost p d (inr (inr h)) = let e = h d in (omega arith, omega arith)

pub is_pruned : (most : Option ℕ) (kind : Kinds) (cost : OutcomeWord → ℕ) → IsCounted kind cost → IsPruned kind (up_to cost most)
is_pruned None kind cost counted = record { before = λ p d asked h. refl; goes_on = λ p asked h over. refl }
is_pruned (Some most) kind cost counted = record {
  before = λ p d asked h. le-leb (cost p) most (let l = leb-true (cost (p ++ d ∷ [])) most h in let k = (no_less cost p d (counted p asked)).0 in omega arith);
  goes_on = λ p asked h over. on p (leb-true (cost p) most h) over (counted p asked);
}
  where
    on : (p : OutcomeWord) → cost p ≤ most → nat_le (cost (p ++ Success ∷ [])) most ≡ false → CountsAt cost p → nat_le (cost (p ++ Failure ∷ [])) most ≡ true
    on p l over (inl h) = absurd (let e = h.0 in let yes : nat_le (cost (p ++ Success ∷ [])) most ≡ true = le-leb (cost (p ++ Success ∷ [])) most (omega arith) in cc)
    on p l over (inr (inl h)) = let e = h.0 in le-leb (cost (p ++ Failure ∷ [])) most (omega arith)
    on p l over (inr (inr h)) = let e = h Failure in le-leb (cost (p ++ Failure ∷ [])) most (omega arith)

pub task_pruned : (task : Task) → IsPruned (kind task) (is_allowed task)
task_pruned task = is_pruned task.failures (kind task) (unexpected task) (task_counted task)

-- ---- nothing counts where nothing has taken an outcome

none_asked : (l : List Answered) → length l ≤ 0 → l ≡ []
none_asked [] h = refl
none_asked (one ∷ l) h = absurd (omega arith)

pub none_unexpected : (task : Task) → unexpected task [] ≡ 0
none_unexpected task =
    let t : State = state_of (run_on task []) in
    let g = Track-of task.limits.device_bound (start task.written task.environment []) (run_on task []) (Keeps-run_on task (start task.written task.environment [])).0 in
    let n = no_more_asked task.written task.environment [] t g in
    ap (λ (l : List Answered). length (unexpected_of task.limits.devices l)) (none_asked (asked_in t.log) (omega arith))

pub empty_allowed : (task : Task) → is_allowed task [] ≡ true
empty_allowed task = by task.failures
  where
    by : (most : Option ℕ) → is_at_most most (unexpected task []) ≡ true
    by None = refl
    by (Some most) = ap (λ (n : ℕ). nat_le n most) (none_unexpected task) ∙ leb-zero most

-- ---- where the list expects no failure

not_normal : (devices : Devices) → EachCall (λ effect. effect.normal ≡ false) devices → (call : List Text) → fails_normally devices call ≡ false
not_normal devices each [] = refl
not_normal devices each (name ∷ words) = by (call_effect devices name words) refl
  where
    by : (o : Option Effect) → call_effect devices name words ≡ o → elim o [ Some effect ↦ effect.normal | None ↦ false ] ≡ false
    by None e = refl
    by (Some effect) e = each name words effect (ap (λ (found : Option Effect). let r : Option Effect = elim found [ Some one ↦ Some one | None ↦ line_effect devices name words ] in r) e)

-- nor asks about a file
no_choice : (devices : Devices) → devices.choices ≡ [] → (call : List Text) → is_choice devices call ≡ false
no_choice devices none call = by (is_choice devices call) refl
  where
    by : (b : Bool) → is_choice devices call ≡ b → is_choice devices call ≡ false
    by true e = absurd (let some = choice_among devices call e in let l = ap (λ (files : List Text). length (take most_choices files)) none in omega (arith, some, l))
    by false e = e

success_expected : (devices : Devices) → EachCall (λ effect. effect.normal ≡ false) devices → devices.choices ≡ [] → (call : List Text) → expected devices call ≡ Some true
success_expected devices each none call =
    ap (λ (b : Bool). cond b None (Some (not (fails_normally devices call)))) (no_choice devices none call)
    ∙ ap (λ (b : Bool). Some (not b)) (not_normal devices each call)

count_failures : (devices : Devices) → ((call : List Text) → expected devices call ≡ Some true) → (answered : List Answered) (w : OutcomeWord) → map (λ (a : Answered). a.0) answered ≡ map succeeds w → length (unexpected_of devices answered) ≡ failures w
count_failures devices each [] [] e = refl
count_failures devices each [] (d ∷ w) e = absurd cc
count_failures devices each (a ∷ answered) [] e = absurd cc
count_failures devices each (a ∷ answered) (Success ∷ w) e =
    let one : a.0 ≡ true = cc in
    let more : map (λ (b : Answered). b.0) answered ≡ map succeeds w = cc in
    let none : is_unexpected devices a ≡ false = expected_of devices a.1 (Some true) (each a.1) a.0 ∙ ap not one in
    ap (λ (b : Bool). length (cond b (a ∷ unexpected_of devices answered) (unexpected_of devices answered))) none ∙ count_failures devices each answered w more
count_failures devices each (a ∷ answered) (Failure ∷ w) e =
    let one : a.0 ≡ false = cc in
    let more : map (λ (b : Answered). b.0) answered ≡ map succeeds w = cc in
    let some : is_unexpected devices a ≡ true = expected_of devices a.1 (Some true) (each a.1) a.0 ∙ ap not one in
    ap (λ (b : Bool). length (cond b (a ∷ unexpected_of devices answered) (unexpected_of devices answered))) some ∙ ap suc (count_failures devices each answered w more)

answers_asked : (asked : List LoggedCommand) → map (λ (a : Answered). a.0) (map (λ (e : LoggedCommand). (e.success, e.words)) asked) ≡ map (λ (e : LoggedCommand). e.success) asked
answers_asked [] = refl
answers_asked (e ∷ asked) = ap (λ (l : List Bool). e.success ∷ l) (answers_asked asked)

-- if the outcomes in the log are the word
pub failures_are_counted : (task : Task) (w : OutcomeWord) → EachCall (λ effect. effect.normal ≡ false) task.limits.devices → task.limits.devices.choices ≡ [] → map (λ (e : LoggedCommand). e.success) (asked_of (state_of (run_on task w)).log) ≡ map succeeds w → unexpected task w ≡ failures w
failures_are_counted task w each none e = count_failures task.limits.devices (success_expected task.limits.devices each none) (asked_in (state_of (run_on task w)).log) w (answers_asked (asked_of (state_of (run_on task w)).log) ∙ e)

-- ---- no more are unexpected than were asked for

asked_all : (bound : ℕ) (written : Written) (environment : Variables) (p : OutcomeWord) (a : Answer) → Track bound (start written environment p) a → kind_of a ≡ Short → length (asked_in (state_of a).log) ≡ length p
asked_all bound written environment p (Normal t) h k = absurd (taken_not_short t.word t refl k)
asked_all bound written environment p (Exit t) h k = absurd (taken_not_short t.word t refl k)
asked_all bound written environment p (Ended ending t) h k = absurd (taken_not_short t.word t refl k)
asked_all bound written environment p (Dry t) h k = let n = no_more_asked written environment p t h.0 in let none = ap length h.1 in omega arith

pub asked_many : (task : Task) (p : OutcomeWord) → kind task p ≡ Short → length (asked_in (state_of (run_on task p)).log) ≡ length p
asked_many task p k = asked_all task.limits.device_bound task.written task.environment p (run_on task p) (Keeps-run_on task (start task.written task.environment p)).0 k

few_unexpected : (devices : Devices) (answered : List Answered) → length (unexpected_of devices answered) ≤ length answered
few_unexpected devices [] = omega arith
few_unexpected devices (a ∷ answered) = by (is_unexpected devices a) (few_unexpected devices answered)
  where
    by : (b : Bool) → length (unexpected_of devices answered) ≤ length answered → length (cond b (a ∷ unexpected_of devices answered) (unexpected_of devices answered)) ≤ suc (length answered)
    by true h = omega (arith, h)
    by false h = omega (arith, h)

pub unexpected_within : (task : Task) (p : OutcomeWord) → kind task p ≡ Short → unexpected task p ≤ length p
unexpected_within task p k = let f = few_unexpected task.limits.devices (asked_in (state_of (run_on task p)).log) in let n = asked_many task p k in omega (arith, f, n)

-- ---- choices

-- one more command asks which file runs, if the one that asks does
pub choices_more : (task : Task) (p : OutcomeWord) (asks : AsksAt task p) (d : Outcome) (b : Bool) → is_choice task.limits.devices asks.call ≡ b
    → length (choices_of task.limits.devices (asked_in (state_of (run_on task (p ++ d ∷ []))).log)) ≡ length (choices_of task.limits.devices (asked_in (state_of (run_on task p)).log)) + cond b 1 0
choices_more task p asks d b e =
    let devices = task.limits.devices in
    let before : List Answered = asked_in (state_of (run_on task p)).log in
    let one : Answered = (succeeds d, asks.call) in
    let split = filter-append (λ (a : Answered). is_choice devices a.1) before (one ∷ []) in
    let one_more : choices_of devices (one ∷ []) ≡ cond b (one ∷ []) [] = ap (λ (c : Bool). cond c (one ∷ []) []) e in
    ap (λ (l : List Answered). length (choices_of devices l)) (asks.grows d)
    ∙ ap length (split ∙ ap (λ (m : List Answered). choices_of devices before ++ m) one_more)
    ∙ length-append (choices_of devices before) (cond b (one ∷ []) [])
    ∙ ap (λ (n : ℕ). length (choices_of devices before) + n) (few b one)
  where
    few : (c : Bool) (one : Answered) → length (cond c (one ∷ []) []) ≡ cond c 1 0
    few true one = refl
    few false one = refl

pub no_choices_yet : (task : Task) → length (choices_of task.limits.devices (asked_in (state_of (run_on task [])).log)) ≡ 0
no_choices_yet task =
    let t : State = state_of (run_on task []) in
    let g = Track-of task.limits.device_bound (start task.written task.environment []) (run_on task []) (Keeps-run_on task (start task.written task.environment [])).0 in
    let n = no_more_asked task.written task.environment [] t g in
    ap (λ (l : List Answered). length (choices_of task.limits.devices l)) (none_asked (asked_in t.log) (omega (arith, n)))
