-- Runs of which few answers are unexpected.
use Rattle.std.proofs.Common.{◌≡◌, ℕ, zero, suc, ◌+◌, ◌*◌, ◌^◌, ◌≤◌, ◌<◌, ◌⊎◌, Bool, true, false, cond, List, [], ◌∷◌, ◌++◌, filter, length, Option, Some, None, refl, sym, ap, ◌∙◌, inl, inr, arith}
use Rattle.std.specs.Prelude.{nat_le, take}
use Rattle.std.proofs.Math.Nat.{mul-add, mul-le-mul, mul-le-mul_left, mul-le-mul_right, mul_assoc, mul-suc, one-le-mul, one-le-pow, pow-suc, pow-zero}
use Rattle.std.proofs.lemmas.Bool.{le-leb, leb-true}
use Rattle.device_list.specs.DeviceList.{most_choices, asked_about, expected, is_choice}
use Rattle.device_list.specs.Kinds.{EachCall}
use Rattle.rehearse_terms.specs.Outcomes.{OutcomeWord, Outcome, Success, Failure, Run, Short, failures, is_run_kind, words, IsChoice, beyond}
use Rattle.rehearse_rules.specs.Choosing.{first_run}
use Rattle.rehearse_terms.specs.State.{Text}
use Rattle.rehearse_rules.specs.Expected.{asked_in, choices_of}
use Rattle.rehearse_rules.specs.Runs.{Task, run_on, state_of, kind, all_runs, runs, unexpected, is_allowed, rest, IsListed}
use Rattle.rehearse_rules.specs.Laws.{failing}
use Rattle.rehearse_rules.proofs.ChoiceTreeLemmas.{Kinds, pruned_beyond, allowed_within, allowed_here, none_allowed, behind, beyond-length}
use Rattle.rehearse_rules.proofs.NextRunLemmas.{no_longer}
use Rattle.rehearse_rules.proofs.ChoicesAsked.{choices_within}
use Rattle.rehearse_rules.proofs.UnexpectedAnswers.{AsksAt, CountsAt, CountsNone, IsCounted, CountsOne, asks_at, expected_at, is_choice_if, no_choice_if, choices_more, no_choices_yet, up_to, no_less, is_pruned, task_counted, none_unexpected, failures_are_counted}
use Rattle.rehearse_rules.proofs.TaskChoices.{AllPass, passes_run, task_begins, task_chooses, log_is_word}

-- ---- where the list expects no failure

pub failures_count : (task : Task) (w : OutcomeWord) → EachCall (λ effect. effect.normal ≡ false) task.limits.devices → task.limits.devices.choices ≡ [] → kind task w ≡ Run → unexpected task w ≡ failures w
failures_count task w each none run = failures_are_counted task w each none (log_is_word task w run)

-- ---- if as many may be as a run may ask

counted_beyond : (d : Outcome) (kind : Kinds) (cost : OutcomeWord → ℕ) → IsCounted kind cost → IsCounted (beyond d kind) (λ w. cost (d ∷ w))
counted_beyond d kind cost counted p = counted (d ∷ p)

cost_within : (kind : Kinds) (cost : OutcomeWord → ℕ) (n : ℕ) → IsChoice n kind → IsCounted kind cost → (w : OutcomeWord) → kind w ≡ Run → cost w ≤ cost [] + length w
cost_within kind cost n c counted [] r = omega arith
cost_within kind cost zero c counted (d ∷ w) r = absurd (let x = c.1 d w in cc)
cost_within kind cost (suc n) (inl c) counted (d ∷ w) r = absurd (let x = c.1 d w in cc)
cost_within kind cost (suc n) (inr c) counted (d ∷ w) r =
    let ih = cost_within (beyond d kind) (λ v. cost (d ∷ v)) n (c.1 d) (counted_beyond d kind cost counted) w r in
    let one = (no_less cost [] d (counted [] c.0)).1 in
    omega (arith, ih, one)

passes_all : (p : OutcomeWord → Bool) (ws : List OutcomeWord) → AllPass p ws → filter p ws ≡ ws
passes_all p [] h = refl
passes_all p (w ∷ ws) h = ap (λ (b : Bool). cond b (w ∷ filter p ws) (filter p ws)) h.0 ∙ ap (λ (vs : List OutcomeWord). w ∷ vs) (passes_all p ws h.1)

run_passes : (task : Task) (w : OutcomeWord) → kind task w ≡ Run → is_allowed (failing task task.limits.device_bound) w ≡ true
run_passes task w r =
    let n = task.limits.device_bound in
    let l = no_longer (kind task) n (task_chooses task) w r in
    let f = cost_within (kind task) (unexpected task) n (task_chooses task) (task_counted task) w r in
    let z = none_unexpected task in
    le-leb (unexpected task w) n (omega (arith, l, f, z))

runs_pass : (task : Task) (ws : List OutcomeWord) → AllPass (is_allowed (failing task task.limits.device_bound)) (filter (λ w. is_run_kind (kind task w)) ws)
runs_pass task [] = tt
runs_pass task (w ∷ ws) = by (is_run_kind (kind task w)) refl (runs_pass task ws)
  where
    by : (b : Bool) → is_run_kind (kind task w) ≡ b → AllPass (is_allowed (failing task task.limits.device_bound)) (filter (λ v. is_run_kind (kind task v)) ws) → AllPass (is_allowed (failing task task.limits.device_bound)) (cond b (w ∷ filter (λ v. is_run_kind (kind task v)) ws) (filter (λ v. is_run_kind (kind task v)) ws))
    by true e h = (run_passes task w (passes_run (kind task w) e), h)
    by false e h = h

pub all_may_fail : (task : Task) → runs (failing task task.limits.device_bound) ≡ all_runs task
all_may_fail task = passes_all (is_allowed (failing task task.limits.device_bound)) (all_runs task) (runs_pass task (words task.limits.device_bound))

-- ---- if one more may be

within_more : (task : Task) (most : ℕ) (w : OutcomeWord) → is_allowed (failing task most) w ≡ true → is_allowed (failing task (most + 1)) w ≡ true
within_more task most w h = let l = leb-true (unexpected task w) most h in le-leb (unexpected task w) (most + 1) (omega (arith, l))

filter-twice : (p q : OutcomeWord → Bool) (ws : List OutcomeWord) → ((w : OutcomeWord) → p w ≡ true → q w ≡ true) → filter p ws ≡ filter p (filter q ws)
filter-twice p q [] h = refl
filter-twice p q (w ∷ ws) h = by (p w) (q w) refl refl (filter-twice p q ws h)
  where
    by : (b c : Bool) → p w ≡ b → q w ≡ c → filter p ws ≡ filter p (filter q ws) → cond b (w ∷ filter p ws) (filter p ws) ≡ filter p (cond c (w ∷ filter q ws) (filter q ws))
    by true true e f ih = ap (λ (vs : List OutcomeWord). w ∷ vs) ih ∙ ap (λ (b : Bool). cond b (w ∷ filter p (filter q ws)) (filter p (filter q ws))) (sym e)
    by true false e f ih = absurd (let g = h w e in cc)
    by false true e f ih = ih ∙ ap (λ (b : Bool). cond b (w ∷ filter p (filter q ws)) (filter p (filter q ws))) (sym e)
    by false false e f ih = ih

pub fewer_among_more : (task : Task) (most : ℕ) → runs (failing task most) ≡ filter (is_allowed (failing task most)) (runs (failing task (most + 1)))
fewer_among_more task most = filter-twice (is_allowed (failing task most)) (is_allowed (failing task (most + 1))) (all_runs task) (within_more task most)

pub fewer_are_more : (task : Task) (most : ℕ) (w : OutcomeWord) → IsListed (failing task most) w → IsListed (failing task (most + 1)) w
fewer_are_more task most w h = record { run = h.run; few = within_more task most w h.few }

-- ---- how many runs there are then

pub power-le : (a b : ℕ) → a ≤ b → (n : ℕ) → a ^ n ≤ b ^ n
power-le a b h zero = let e = pow-zero a in let f = pow-zero b in omega (arith, e, f)
power-le a b h (suc n) =
    let e = pow-suc a n in
    let f = pow-suc b n in
    let l : a ^ n * a ≤ b ^ n * b = mul-le-mul (power-le a b h n) h in
    omega (arith, e, f, l)

one_power : (k n : ℕ) → 1 ≤ (k + 1) ^ n
one_power k n = one-le-pow n (k + 1) (omega arith)

-- after the expected answer there are so many, and after the other one so many with one less
powers : (k n : ℕ) → (k + 1) ^ suc n + (k + 1) ^ n ≤ (suc k + 1) ^ suc n
powers k n =
    let x = (k + 1) ^ n in
    let e : (k + 1) ^ suc n ≡ x * (k + 1) = pow-suc (k + 1) n in
    let f : (suc k + 1) ^ suc n ≡ (suc k + 1) ^ n * (suc k + 1) = pow-suc (suc k + 1) n in
    let l : x * (suc k + 1) ≤ (suc k + 1) ^ n * (suc k + 1) = mul-le-mul_right (suc k + 1) (power-le (k + 1) (suc k + 1) (omega arith) n) in
    let g : x * suc (k + 1) ≡ x * (k + 1) + x = mul-suc x (k + 1) in
    let i : x * (suc k + 1) ≡ x * suc (k + 1) = ap (λ (m : ℕ). x * m) (let j : suc k + 1 ≡ suc (k + 1) = omega arith in j) in
    omega (arith, e, f, l, g, i)

-- after an answer that counts
abbrev with_one_less : (n most : ℕ) → ℕ
with_one_less n zero = 0
with_one_less n (suc most) = (n + 1) ^ most

both_within : (n most : ℕ) (one other : ℕ) → one ≤ (n + 1) ^ most → other ≤ with_one_less n most → one + other ≤ (suc n + 1) ^ most
both_within n zero one other h k = let a = pow-zero (n + 1) in let b = pow-zero (suc n + 1) in omega (arith, h, k, a, b)
both_within n (suc most) one other h k = let p = powers n most in omega (arith, h, k, p)

-- a common factor
scaled : (a x y z one other : ℕ) → one ≤ a * x → other ≤ a * y → x + y ≤ z → one + other ≤ a * z
scaled a x y z one other h k l =
    let e : a * (x + y) ≡ a * x + a * y = mul-add a x y in
    let m : a * (x + y) ≤ a * z = mul-le-mul_left a l in
    omega (arith, h, k, e, m)

-- up to m
abbrev no_more : (cost : OutcomeWord → ℕ) → (m : ℕ) → OutcomeWord → Bool
no_more cost m = up_to cost (Some m)

-- the same, if `free` counts the questions of which neither outcome counts
abbrev CountsFree : (cost free : OutcomeWord → ℕ) → (p : OutcomeWord) → Type 0
CountsFree cost free p = (CountsOne cost p Success Failure × CountsNone free p)
    ⊎ ((CountsOne cost p Failure Success × CountsNone free p) ⊎ (CountsNone cost p × ((d : Outcome) → free (p ++ d ∷ []) ≡ free p + 1)))

abbrev IsCountedFree : Kinds → (cost free : OutcomeWord → ℕ) → Type 0
IsCountedFree kind cost free = (p : OutcomeWord) → kind p ≡ Short → CountsFree cost free p

counted_so : (kind : Kinds) (cost free : OutcomeWord → ℕ) → IsCountedFree kind cost free → IsCounted kind cost
counted_so kind cost free counted p k = by (counted p k)
  where
    by : CountsFree cost free p → CountsAt cost p
    by (inl h) = inl h.0
    by (inr (inl h)) = inr (inl h.0)
    by (inr (inr h)) = inr (inr h.0)

other_side : (kind : Kinds) (cost : OutcomeWord → ℕ) (n m a : ℕ) (d : Outcome) → IsChoice n (beyond d kind) → IsCounted kind cost → cost (d ∷ []) ≡ cost [] + 1 → (most : ℕ) → cost [] + most ≡ m
    → ((less : ℕ) → cost (d ∷ []) + less ≡ m → length (behind d (no_more cost m) kind n) ≤ a * (n + 1) ^ less) → length (behind d (no_more cost m) kind n) ≤ a * with_one_less n most
other_side kind cost n m a d c counted one zero e ih =
    let none = none_allowed (λ w. no_more cost m (d ∷ w)) (beyond d kind) n c (pruned_beyond d kind (no_more cost m) (is_pruned (Some m) kind cost counted)) (too_many (cost (d ∷ [])) m (omega (arith, one, e))) in
    let l = ap length none in
    omega (arith, l)
  where
    too_many : (a b : ℕ) → b < a → nat_le a b ≡ false
    too_many a b l = by (nat_le a b) refl
      where
        by : (x : Bool) → nat_le a b ≡ x → nat_le a b ≡ false
        by true is = absurd (let le = leb-true a b is in omega (arith, l, le))
        by false is = is
other_side kind cost n m a d c counted one (suc most) e ih = ih most (omega (arith, one, e))

-- what is to be shown of each side of a question
abbrev Sides : Kinds → (cost free : OutcomeWord → ℕ) → (n m cap : ℕ) → Type 0
Sides kind cost free n m cap = (d : Outcome) (less left : ℕ) → cost (d ∷ []) + less ≡ m → free (d ∷ []) + left ≡ cap → length (behind d (no_more cost m) kind n) ≤ 2 ^ left * (n + 1) ^ less

-- neither outcome counts: twice as many
few_twice : (kind : Kinds) (cost free : OutcomeWord → ℕ) (n : ℕ) → kind [] ≡ Short → CountsNone cost [] → ((d : Outcome) → free (d ∷ []) ≡ free [] + 1) → (most m : ℕ) → cost [] + most ≡ m → (left cap : ℕ) → free [] + left ≡ cap
    → free (Success ∷ []) ≤ cap → Sides kind cost free n m cap → length (allowed_within (no_more cost m) kind (suc n)) ≤ 2 ^ left * (suc n + 1) ^ most
few_twice kind cost free n asked none more most m e zero cap f within side = absurd (let one = more Success in omega (arith, one, f, within))
few_twice kind cost free n asked none more most m e (suc left) cap f within side =
    let x = (n + 1) ^ most in
    let z = (suc n + 1) ^ most in
    let sum = beyond-length (no_more cost m) kind n asked in
    let won = side Success most left (let s = none Success in omega (arith, s, e)) (let s = more Success in omega (arith, s, f)) in
    let lost = side Failure most left (let s = none Failure in omega (arith, s, e)) (let s = more Failure in omega (arith, s, f)) in
    let l : x ≤ z = power-le (n + 1) (suc n + 1) (omega arith) most in
    let both = scaled (2 ^ left) x x (2 * z) _ _ won lost (let g : x + x ≤ 2 * z = omega (arith, l) in g) in
    let twice : 2 ^ suc left * z ≡ 2 ^ left * (2 * z) = ap (λ (k : ℕ). k * z) (pow-suc 2 left) ∙ mul_assoc (2 ^ left) 2 z in
    omega (arith, sum, both, twice)

-- at a question, if after each outcome are so few
few_beyond : (kind : Kinds) (cost free : OutcomeWord → ℕ) (n : ℕ) → kind [] ≡ Short → ((d : Outcome) → IsChoice n (beyond d kind)) → IsCountedFree kind cost free → (most m : ℕ) → cost [] + most ≡ m → (left cap : ℕ) → free [] + left ≡ cap
    → ((w : OutcomeWord) → free w ≤ cap) → Sides kind cost free n m cap → length (allowed_within (no_more cost m) kind (suc n)) ≤ 2 ^ left * (suc n + 1) ^ most
few_beyond kind cost free n asked c counted most m e left cap f within side = by (counted [] asked)
  where
    first : (d : Outcome) → cost (d ∷ []) ≡ cost [] → free (d ∷ []) ≡ free [] → length (behind d (no_more cost m) kind n) ≤ 2 ^ left * (n + 1) ^ most
    first d one none = side d most left (omega (arith, one, e)) (omega (arith, none, f))

    second : (d : Outcome) → cost (d ∷ []) ≡ cost [] + 1 → free (d ∷ []) ≡ free [] → length (behind d (no_more cost m) kind n) ≤ 2 ^ left * with_one_less n most
    second d one none = other_side kind cost n m (2 ^ left) d (c d) (counted_so kind cost free counted) one most e (λ less g. side d less left g (omega (arith, none, f)))

    together : (one other : ℕ) → one ≤ 2 ^ left * (n + 1) ^ most → other ≤ 2 ^ left * with_one_less n most → one + other ≤ 2 ^ left * (suc n + 1) ^ most
    together one other h k = scaled (2 ^ left) ((n + 1) ^ most) (with_one_less n most) ((suc n + 1) ^ most) one other h k (both_within n most ((n + 1) ^ most) (with_one_less n most) (omega arith) (omega arith))

    by : CountsFree cost free [] → length (allowed_within (no_more cost m) kind (suc n)) ≤ 2 ^ left * (suc n + 1) ^ most
    by (inl h) =
        let sum = beyond-length (no_more cost m) kind n asked in
        let all = together _ _ (first Success h.0.0 (h.1 Success)) (second Failure h.0.1 (h.1 Failure)) in
        omega (arith, sum, all)
    by (inr (inl h)) =
        let sum = beyond-length (no_more cost m) kind n asked in
        let all = together _ _ (first Failure h.0.0 (h.1 Failure)) (second Success h.0.1 (h.1 Success)) in
        omega (arith, sum, all)
    by (inr (inr h)) = few_twice kind cost free n asked h.0 h.1 most m e left cap f (within (Success ∷ [])) side

some_product : (left k most : ℕ) → 1 ≤ 2 ^ left * (k + 1) ^ most
some_product left k most = one-le-mul (one-le-pow left 2 (omega arith)) (one_power k most)

pub few_length : (kind : Kinds) (cost free : OutcomeWord → ℕ) (n : ℕ) → IsChoice n kind → IsCountedFree kind cost free → (most m : ℕ) → cost [] + most ≡ m → (left cap : ℕ) → free [] + left ≡ cap → ((w : OutcomeWord) → free w ≤ cap)
    → length (allowed_within (no_more cost m) kind n) ≤ 2 ^ left * (n + 1) ^ most
few_length kind cost free zero c counted most m e left cap f within = let l = ap length (allowed_here (no_more cost m) kind zero c.0 c.1 (le-leb (cost []) m (omega (arith, e)))) in let p = some_product left 0 most in omega (arith, l, p)
few_length kind cost free (suc n) (inl c) counted most m e left cap f within = let l = ap length (allowed_here (no_more cost m) kind (suc n) c.0 c.1 (le-leb (cost []) m (omega (arith, e)))) in let p = some_product left (suc n) most in omega (arith, l, p)
few_length kind cost free (suc n) (inr c) counted most m e left cap f within =
    few_beyond kind cost free n c.0 c.1 counted most m e left cap f within
    (λ d less l g h. few_length (beyond d kind) (λ w. cost (d ∷ w)) (λ w. free (d ∷ w)) n (c.1 d) (λ p. counted (d ∷ p)) less m g l cap h (λ w. within (d ∷ w)))

-- how many choices a run has asked
abbrev choices_asked : Task → OutcomeWord → ℕ
choices_asked task w = length (choices_of task.limits.devices (asked_in (state_of (run_on task w)).log))

task_free : (task : Task) → IsCountedFree (kind task) (unexpected task) (choices_asked task)
task_free task p k = let asks = asks_at task p k in by asks (expected task.limits.devices asks.call) refl
  where
    none : (asks : AsksAt task p) → is_choice task.limits.devices asks.call ≡ false → CountsNone (choices_asked task) p
    none asks isnt d = let more = choices_more task p asks d false isnt in omega (arith, more)

    by : (asks : AsksAt task p) (o : Option Bool) → expected task.limits.devices asks.call ≡ o → CountsFree (unexpected task) (choices_asked task) p
    by asks (Some false) e = inr (inl (expected_at task p asks (Some false) e, none asks (no_choice_if task.limits.devices asks.call false e)))
    by asks (Some true) e = inl (expected_at task p asks (Some true) e, none asks (no_choice_if task.limits.devices asks.call true e))
    by asks None e = inr (inr (expected_at task p asks None e, λ d. choices_more task p asks d true (is_choice_if task.limits.devices asks.call e)))

pub few_runs : (task : Task) (most : ℕ) → length (runs (failing task most)) ≤ 2 ^ length (asked_about task.limits.devices) * (task.limits.device_bound + 1) ^ most
few_runs task most =
    few_length (kind task) (unexpected task) (choices_asked task) task.limits.device_bound (task_chooses task) (task_free task) most most (let z = none_unexpected task in omega (arith, z))
    (length (asked_about task.limits.devices)) (length (asked_about task.limits.devices)) (let z = no_choices_yet task in omega (arith, z)) (choices_within task)

pub few_runs_if : (task : Task) (most : ℕ) → task.failures ≡ Some most → length (runs task) ≤ 2 ^ length (asked_about task.limits.devices) * (task.limits.device_bound + 1) ^ most
few_runs_if task most e =
    let s : runs task ≡ runs (failing task most) = ap (λ (m : Option ℕ). filter (up_to (unexpected task) m) (all_runs task)) e in
    let l = few_runs task most in
    let n = ap length s in
    omega (arith, l, n)

-- ---- if none may be

none_else : (w : OutcomeWord) (ws all : List OutcomeWord) → all ≡ w ∷ ws → length all ≤ 1 → all ≡ w ∷ []
none_else w [] all e h = e
none_else w (v ∷ ws) all e h = absurd (let l = ap length e in omega (arith, l, h))

pub none_may_fail : (task : Task) → task.limits.devices.choices ≡ [] → runs (failing task 0) ≡ first_run (is_allowed (failing task 0)) (kind task) task.limits.device_bound ∷ []
none_may_fail task none =
    let w : OutcomeWord = first_run (is_allowed (failing task 0)) (kind task) task.limits.device_bound in
    let l = few_runs task 0 in
    let x = (task.limits.device_bound + 1) ^ 0 in
    let z : 2 ^ length (asked_about task.limits.devices) * x ≡ 1 = ap (λ (files : List Text). 2 ^ length (take most_choices files) * x) none ∙ ap (λ (y : ℕ). 1 * y) (pow-zero (task.limits.device_bound + 1)) in
    none_else w (rest (failing task 0) w) (runs (failing task 0)) (task_begins (failing task 0)) (omega (arith, l, z))
