-- A run that is given, and what the rehearsal then keeps.
use Rattle.std.proofs.Common.{◌≡◌, ℕ, ◌+◌, ◌≤◌, Bool, true, false, [], ◌∷◌, length, Option, Some, refl, sym, ap, subst, ◌∙◌, arith}
use Rattle.bootstore_state.specs.Record.{Record}
use Rattle.rehearse_terms.specs.Bounds.{most_run_devices}
use Rattle.rehearse_terms.specs.Outcomes.{OutcomeWord, common_prefix}
use Rattle.rehearse_terms.specs.State.{Text, State}
use Rattle.rehearse_rules.specs.Runs.{Task, runs, IsListed, rest, steps, asked}
use Rattle.rehearse_rules.specs.declared.halt.Halt.{Halt}
use Rattle.rehearse_runs.specs.declared.runs.Phase.{Phase}
use Rattle.rehearse_runs.specs.declared.runs.Phase.TheVariants.{Fresh, At}
use Rattle.rehearse_runs.specs.RunsShown.{outcomes, given_if, to_come_after, steps_shared}
use Rattle.rehearse_runs.specs.Phases.{AreDigits, HasBudget, StandsOn, StandsAt, IsRunIf, HasBegun, HasBegunIf, is_failed, shown_at}
use Rattle.rehearse_runs.specs.Searching.{FoundFirst, FoundBehind, FoundNext}
use Rattle.rehearse_runs.specs.Giving.{GivesWord}
use Rattle.rehearse_runs.proofs.WorkLemmas.{answers_more, begun_more}
use Rattle.rehearse_rules.proofs.TaskChoices.{rest_is_listed, runs_are_runs}

module _ (task : Task) (start : Option OutcomeWord) (has : Bool) (u : OutcomeWord) (phase : Phase) (halt : Halt) (w : OutcomeWord) (begun begun' : ℕ) (live : is_failed phase ≡ false) (has_begun : HasBegun task start (given_if has u) (to_come_after has task u) begun) (first : to_come_after has task u ≡ w ∷ rest task w) (e : begun' + steps_shared task (given_if has u) w ≡ begun + steps task w) (l : steps_shared task (given_if has u) w ≤ steps task w) where
  gives : GivesWord (shown_at task start has u begun phase) (shown_at task start true w begun' (At halt))
  gives = record {
    sound = live;
    first = first;
    given = refl;
    still = refl;
    task = refl;
    start = refl;
    answers = answers_more task start (given_if has u) (to_come_after has task u) (rest task w) w begun begun' has_begun first;
    work = e;
  }

  given_begun : HasBegun task start (Some w) (rest task w) begun'
  given_begun = begun_more task start (given_if has u) (to_come_after has task u) (rest task w) w begun begun' has_begun first e l

-- ---- the first run

module _ (task : Task) (start : Option OutcomeWord) (has : Bool) (u : OutcomeWord) (phase : Phase) (r r' : Record) (digits : Text) (halt : Halt) (fresh : phase ≡ Fresh) (stands : StandsAt task has u r phase) (begun : HasBegunIf phase task start (given_if has u) (to_come_after has task u) r.begun) (found : FoundFirst task (outcomes digits) halt r r') where
  stands_fresh : (has ≡ false) × HasBudget r.begun (runs task)
  stands_fresh = subst (λ (p : Phase). StandsAt task has u r p) fresh stands

  begun_fresh : HasBegun task start (given_if has u) (to_come_after has task u) r.begun
  begun_fresh = subst (λ (p : Phase). HasBegunIf p task start (given_if has u) (to_come_after has task u) r.begun) fresh begun

  first_word : to_come_after has task u ≡ outcomes digits ∷ rest task (outcomes digits)
  first_word = ap (λ (b : Bool). to_come_after b task u) stands_fresh.0 ∙ found.begins

  first_steps : r'.present.steps ≡ steps task (outcomes digits)
  first_steps = ap (λ (s : State). s.steps) found.moment

  none_shared : steps_shared task (given_if has u) (outcomes digits) ≡ 0
  none_shared = ap (λ (b : Bool). steps_shared task (given_if b u) (outcomes digits)) stands_fresh.0

  first_work : r'.begun + steps_shared task (given_if has u) (outcomes digits) ≡ r.begun + steps task (outcomes digits)
  first_work = let a = found.begun in let b = first_steps in let n = none_shared in omega (arith, a, b, n)

  first_shared : steps_shared task (given_if has u) (outcomes digits) ≤ steps task (outcomes digits)
  first_shared = let n = none_shared in omega (arith, n)

  pub first_gives : GivesWord (shown_at task start has u r.begun phase) (shown_at task start true (outcomes digits) r'.begun (At halt))
  first_gives = gives task start has u phase halt (outcomes digits) r.begun r'.begun (ap is_failed fresh) begun_fresh first_word first_work first_shared

  first_budget : HasBudget r'.begun (rest task (outcomes digits))
  first_budget =
      let n : length (runs task) ≡ length (outcomes digits ∷ rest task (outcomes digits)) = ap length found.begins in
      let b = stands_fresh.1 in
      let a = found.begun in
      let k = found.within in
      omega arith

  pub first_stands : AreDigits digits → task.limits.device_bound ≤ most_run_devices
      → AreDigits digits × IsListed task (outcomes digits) × ((true ≡ true) × StandsOn task (outcomes digits) halt r') × HasBegun task start (Some (outcomes digits)) (rest task (outcomes digits)) r'.begun × (task.limits.device_bound ≤ most_run_devices)
  first_stands d b = (
    d,
    runs_are_runs task (outcomes digits) [] (rest task (outcomes digits)) found.begins,
    (refl, record { moment = found.moment; ending = found.ending; marks = found.marks; budget = first_budget }),
    given_begun task start has u phase halt (outcomes digits) r.begun r'.begun (ap is_failed fresh) begun_fresh first_word first_work first_shared,
    b,
  )

-- ---- the next run

found_here : (task : Task) (u w : OutcomeWord) (found : Option Halt) (halt : Halt) (r r' : Record) → found ≡ Some halt → FoundNext task u w found r r' → FoundBehind task u w halt r r'
found_here task u w found halt r r' e h = subst (λ (o : Option Halt). FoundNext task u w o r r') e h

module _ (task : Task) (start : Option OutcomeWord) (has : Bool) (all copy : Text) (phase : Phase) (before : Halt) (r r' : Record) (digits : Text) (found : Option Halt) (halt : Halt) (at : phase ≡ At before) (stands : StandsAt task has (outcomes all) r phase) (begun : HasBegunIf phase task start (given_if has (outcomes all)) (to_come_after has task (outcomes all)) r.begun) (same : copy ≡ all) (is : found ≡ Some halt) (next : FoundNext task (outcomes copy) (outcomes digits) found r r') where
  behind : FoundBehind task (outcomes all) (outcomes digits) halt r r'
  behind = subst (λ (t : Text). FoundBehind task (outcomes t) (outcomes digits) halt r r') same (found_here task (outcomes copy) (outcomes digits) found halt r r' is next)

  stands_at : (has ≡ true) × StandsOn task (outcomes all) before r
  stands_at = subst (λ (p : Phase). StandsAt task has (outcomes all) r p) at stands

  begun_at : HasBegun task start (given_if has (outcomes all)) (to_come_after has task (outcomes all)) r.begun
  begun_at = subst (λ (p : Phase). HasBegunIf p task start (given_if has (outcomes all)) (to_come_after has task (outcomes all)) r.begun) at begun

  next_word : to_come_after has task (outcomes all) ≡ outcomes digits ∷ rest task (outcomes digits)
  next_word = ap (λ (b : Bool). to_come_after b task (outcomes all)) stands_at.0 ∙ behind.follows

  next_steps : r'.present.steps ≡ steps task (outcomes digits)
  next_steps = ap (λ (s : State). s.steps) behind.moment

  shared_is : steps_shared task (given_if has (outcomes all)) (outcomes digits) ≡ asked task (common_prefix (outcomes all) (outcomes digits))
  shared_is = ap (λ (b : Bool). steps_shared task (given_if b (outcomes all)) (outcomes digits)) stands_at.0

  next_work : r'.begun + steps_shared task (given_if has (outcomes all)) (outcomes digits) ≡ r.begun + steps task (outcomes digits)
  next_work = let a = behind.begun in let b = next_steps in let n = shared_is in omega (arith, a, b, n)

  next_shared : steps_shared task (given_if has (outcomes all)) (outcomes digits) ≤ steps task (outcomes digits)
  next_shared = let a = behind.shared in let b = next_steps in let n = shared_is in omega (arith, a, b, n)

  pub next_gives : GivesWord (shown_at task start has (outcomes all) r.begun phase) (shown_at task start has (outcomes digits) r'.begun (At halt))
  next_gives =
      subst (λ (b : Bool). GivesWord (shown_at task start has (outcomes all) r.begun phase) (shown_at task start b (outcomes digits) r'.begun (At halt))) (sym stands_at.0)
      (gives task start has (outcomes all) phase halt (outcomes digits) r.begun r'.begun (ap is_failed at) begun_at next_word next_work next_shared)

  next_budget : HasBudget r'.begun (rest task (outcomes digits))
  next_budget =
      let n : length (rest task (outcomes all)) ≡ length (outcomes digits ∷ rest task (outcomes digits)) = ap length behind.follows in
      let b = stands_at.1.budget in
      let a = behind.begun in
      let k = behind.within in
      omega arith

  pub next_stands : AreDigits digits → task.limits.device_bound ≤ most_run_devices
      → AreDigits digits × IsRunIf has task (outcomes digits) × ((has ≡ true) × StandsOn task (outcomes digits) halt r') × HasBegun task start (given_if has (outcomes digits)) (to_come_after has task (outcomes digits)) r'.begun × (task.limits.device_bound ≤ most_run_devices)
  next_stands d b = (
    d,
    subst (λ (x : Bool). IsRunIf x task (outcomes digits)) (sym stands_at.0) (rest_is_listed task (outcomes all) (outcomes digits) (rest task (outcomes digits)) behind.follows),
    (stands_at.0, record { moment = behind.moment; ending = behind.ending; marks = behind.marks; budget = next_budget }),
    subst (λ (x : Bool). HasBegun task start (given_if x (outcomes digits)) (to_come_after x task (outcomes digits)) r'.begun) (sym stands_at.0)
        (given_begun task start has (outcomes all) phase halt (outcomes digits) r.begun r'.begun (ap is_failed at) begun_at next_word next_work next_shared),
    b,
  )
