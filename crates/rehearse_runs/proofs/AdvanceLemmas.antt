-- How a rehearsal goes on from run to run.
use Rattle.std.proofs.Common.{◌≡◌, ℕ, zero, suc, ◌+◌, ◌*◌, ◌^◌, ◌≤◌, Bool, true, false, List, [], ◌∷◌, ◌++◌, length, map, Option, Some, None, ◌⊎◌, inl, inr, refl, sym, ap, subst, ◌∙◌, length-append, arith}
use Rattle.std.specs.Prelude.{filter, take, nat_le, ◌&&◌, ◌||◌}
use Rattle.std.proofs.lemmas.List.{length-map}
use Rattle.std.proofs.lemmas.List.Sums.{length-filter, count_by-le-length}
use Rattle.std.proofs.lemmas.Grind.{pow_more}
use Rattle.std.proofs.Math.Pow.{pow_mono}
use Rattle.std.proofs.Math.Nat.{le_trans, mul-le-mul}
use Rattle.device_list.specs.DeviceList.{asked_about}
use Rattle.bootstore_state.specs.Record.{Record, fresh}
use Rattle.rehearse_terms.specs.Bounds.{are_bounds, are_few, few_failures, most_devices, most_run_devices, most_steps}
use Rattle.rehearse_terms.specs.Outcomes.{OutcomeWord, Success, Failure, words, is_run_kind}
use Rattle.rehearse_terms.specs.State.{Text}
use Rattle.rehearse_rules.specs.Runs.{Task, kind, all_runs, runs, steps, is_allowed}
use Rattle.rehearse_runs.specs.Phases.{AreDigits, HasBudget, HasBegun}
use Rattle.std.proofs.lemmas.Bool.{leb-true}
use Rattle.rehearse_rules.proofs.FewFailures.{few_runs_if, power-le}
use Rattle.rehearse_runs.proofs.WorkLemmas.{begun_first}

-- ---- there are few runs

both_length : (ws : List OutcomeWord) → length (map (λ w. Success ∷ w) ws ++ map (λ w. Failure ∷ w) ws) ≡ length ws + length ws
both_length ws =
    length-append (map (λ (w : OutcomeWord). Success ∷ w) ws) (map (λ (w : OutcomeWord). Failure ∷ w) ws)
    ∙ ap (λ (k : ℕ). k + length (map (λ (w : OutcomeWord). Failure ∷ w) ws)) (length-map ws (λ (w : OutcomeWord). Success ∷ w))
    ∙ ap (λ (k : ℕ). length ws + k) (length-map ws (λ (w : OutcomeWord). Failure ∷ w))

words_length : (n : ℕ) → length (words n) + 1 ≡ 2 ^ (n + 1)
words_length zero = refl
words_length (suc n) =
    let l : length (words (suc n)) ≡ suc (length (words n) + length (words n)) = ap suc (both_length (words n)) in
    let h = words_length n in
    let e : suc n + 1 ≡ (n + 1) + 1 = omega arith in
    let p : 2 ^ (suc n + 1) ≡ 2 ^ (n + 1) * 2 = ap (λ (k : ℕ). 2 ^ k) e ∙ pow_more 2 (n + 1) in
    omega arith

filter_less : (p : OutcomeWord → Bool) (ws : List OutcomeWord) → length (filter p ws) ≤ length ws
filter_less p ws = rw (length-filter p ws) (count_by-le-length p ws)

-- ---- what the bounds of a listing say

abbrev pub AreBounds : Task → Type 0
AreBounds task = are_bounds task.limits.device_bound task.limits.step_bound task.failures ≡ true

both_true : (b c : Bool) → (b && c) ≡ true → (b ≡ true) × (c ≡ true)
both_true true c e = (refl, e)
both_true false c e = absurd (let f = e in cc)

either_true : (b c : Bool) → (b || c) ≡ true → (b ≡ true) ⊎ (c ≡ true)
either_true true c e = inl refl
either_true false c e = inr e

-- few devices, or few failures of more
fit : (devices steps : ℕ) (failures : Option ℕ) → are_bounds devices steps failures ≡ true → (devices ≤ most_devices) ⊎ ((are_few failures ≡ true) × (devices ≤ most_run_devices))
fit devices steps failures e =
    let b = both_true (nat_le devices most_devices || are_few failures && nat_le devices most_run_devices) (nat_le steps most_steps) e in
    elim (either_true (nat_le devices most_devices) (are_few failures && nat_le devices most_run_devices) b.0) [
      | inl l ↦ inl (leb-true devices most_devices l)
      | inr r ↦ let c = both_true (are_few failures) (nat_le devices most_run_devices) r in inr (c.0, leb-true devices most_run_devices c.1)
    ]

within_if : (devices : ℕ) (failures : Option ℕ) → (devices ≤ most_devices) ⊎ ((are_few failures ≡ true) × (devices ≤ most_run_devices)) → devices ≤ most_run_devices
within_if devices failures (inl l) = omega arith
within_if devices failures (inr r) = r.1

pub are_within : (task : Task) → AreBounds task → task.limits.device_bound ≤ most_run_devices
are_within task h = within_if task.limits.device_bound task.failures (fit task.limits.device_bound task.limits.step_bound task.failures h)

-- a task whose bounds are those of another
pub bounds_in : (task other : Task) → task ≡ other → AreBounds other → AreBounds task
bounds_in task other e h = subst AreBounds (sym e) h

few_devices : (task : Task) → task.limits.device_bound ≤ most_devices → length (runs task) ≤ 274877906943
few_devices task h =
    let g = filter_less (is_allowed task) (all_runs task) in
    let f = filter_less (λ w. is_run_kind (kind task w)) (words task.limits.device_bound) in
    let l = words_length task.limits.device_bound in
    let k : task.limits.device_bound + 1 ≤ 33 = omega arith in
    let m : 2 ^ (task.limits.device_bound + 1) ≤ 8589934592 = pow_mono {i = task.limits.device_bound + 1} {j = 33} k in
    omega (arith, g, f, l, m)

thousands : (most : ℕ) → most ≤ 3 → 1001 ^ most ≤ 1003003001
thousands zero h = omega arith
thousands (suc zero) h = omega arith
thousands (suc (suc zero)) h = omega arith
thousands (suc (suc (suc zero))) h = omega arith
thousands (suc (suc (suc (suc most)))) h = absurd (omega arith)

take_within : {A : Type 0} (n : ℕ) (l : List A) → length (take n l) ≤ n
take_within zero [] = omega arith
take_within zero (x ∷ l) = omega arith
take_within (suc n) [] = omega arith
take_within (suc n) (x ∷ l) = let h = take_within n l in omega (arith, h)

few_failing : (task : Task) (failures : Option ℕ) → task.failures ≡ failures → are_few failures ≡ true → task.limits.device_bound ≤ most_run_devices → length (runs task) ≤ 274877906943
few_failing task None e f h = absurd (let g = f in cc)
few_failing task (Some most) e f h =
    let l = few_runs_if task most e in
    let n : most ≤ 3 = leb-true most few_failures f in
    let b : task.limits.device_bound + 1 ≤ 1001 = omega (arith, h) in
    let p : (task.limits.device_bound + 1) ^ most ≤ 1001 ^ most = power-le (task.limits.device_bound + 1) 1001 b most in
    let q : (task.limits.device_bound + 1) ^ most ≤ 1003003001 = le_trans p (thousands most n) in
    let c : 2 ^ length (asked_about task.limits.devices) ≤ 2 ^ 8 = pow_mono {i = length (asked_about task.limits.devices)} {j = 8} (take_within 8 task.limits.devices.choices) in
    let r : 2 ^ length (asked_about task.limits.devices) * (task.limits.device_bound + 1) ^ most ≤ 256 * 1003003001 = mul-le-mul c q in
    omega (arith, l, r)

few_if : (task : Task) → (task.limits.device_bound ≤ most_devices) ⊎ ((are_few task.failures ≡ true) × (task.limits.device_bound ≤ most_run_devices)) → length (runs task) ≤ 274877906943
few_if task (inl l) = few_devices task l
few_if task (inr r) = few_failing task task.failures refl r.0 r.1

pub few_runs : (task : Task) → AreBounds task → length (runs task) ≤ 274877906943
few_runs task h = few_if task (fit task.limits.device_bound task.limits.step_bound task.failures h)

-- no run was found yet
pub stands_fresh : (task : Task) (digits : Text) (r : Record) → digits ≡ [] → r ≡ fresh → AreBounds task
    → AreDigits digits × Unit {0} × ((false ≡ false) × HasBudget r.begun (runs task)) × HasBegun task None None (runs task) r.begun × (task.limits.device_bound ≤ most_run_devices)
stands_fresh task digits r d e h =
    let k = few_runs task h in
    let b = ap (λ (x : Record). x.begun) e in
    (subst AreDigits (sym d) refl, tt, (refl, omega arith), begun_first task r.begun b, are_within task h)
