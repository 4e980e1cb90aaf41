-- A rehearsal and what is shown of it.
use Rattle.std.specs.Prelude.{◌==◌}
use Rattle.rehearse_terms.specs.Outcomes.{Failure}
use Rattle.std.proofs.Common.{◌≡◌, ◌≢◌, ◌≤◌, length, Bool, true, false, not, List, [], ◌∷◌, ◌++◌, map, refl, sym, ap, subst, ◌∙◌, unwrap_or}
use Rattle.bootstore_state.specs.Moment.{Moment}
use Rattle.bootstore_state.specs.Record.{Record}
use Rattle.bootstore_state.specs.declared.store.Store.{Ghosts}
use Rattle.rehearse_terms.specs.Bounds.{most_run_devices}
use Rattle.rehearse_terms.specs.Outcomes.{OutcomeWord}
use Rattle.rehearse_terms.specs.State.{Text}
use Rattle.bootstore_state.specs.StoredState.{state_at}
use Rattle.rehearse_rules.specs.Runs.{Task, IsListed, rest, runs, run_on, state_of, ending_of}
use Rattle.rehearse_rules.specs.Listing.{outcome_digit}
use Rattle.rehearse_runs.specs.RunsShown.{outcomes, given_if, to_come_after, has_words, successes}
use Rattle.rehearse_runs.specs.Searching.{AreMarks}
use Rattle.rehearse_runs.proofs.WorkLemmas.{few_marks, marks_within}
use Rattle.rehearse_rules.specs.EndingsShown.{halt_shown}
use Rattle.rehearse_runs.specs.Phases.{StandsAt, IsRunIf, AreDigits, shows_run}
use Rattle.rehearse_records.specs.RunViewShown.{shown_word, shown_moment, shown_ending, shown_marks}
use Rattle.rehearse_runs.specs.Giving.{ShowsRun}
use Rattle.rehearse_rules.specs.declared.halt.Halt.{Halt}
use Rattle.rehearse_runs.specs.declared.runs.Phase.{Phase}
use Rattle.rehearse_runs.specs.declared.runs.Phase.TheVariants.{Fresh, At, Over}
use Rattle.rehearse_records.specs.declared.run_view.RunView.{RunView}
use Rattle.rehearse_rules.proofs.TaskChoices.{task_ends, task_goes_on, runs_are_there}
use Rattle.rehearse_runs.proofs.SearchLemmas.{some_there}

-- the run in a store is the one that is shown
pub stood : {S : Type 0} (g : Ghosts S) (task : Task) (digits : Text) (has : Bool) (r : Record) (phase : Phase) (halt : Halt) (v : RunView S)
    → phase ≡ At halt → AreDigits digits → StandsAt task has (outcomes digits) r phase → shown_word v ≡ digits → shown_ending v ≡ halt_shown halt → shown_moment g v ≡ r.present → shown_marks g v ≡ r.marked → IsRunIf has task (outcomes digits) → task.limits.device_bound ≤ most_run_devices
    → (shows_run phase ≡ true) × ShowsRun g task (unwrap_or (given_if has (outcomes digits)) []) v
stood g task digits has r phase halt v e d s sw se sm ss run bound =
    let h : StandsAt task has (outcomes digits) r (At halt) = subst (λ (p : Phase). StandsAt task has (outcomes digits) r p) e s in
    let marks : AreMarks task (outcomes digits) (shown_marks g v) = subst (AreMarks task (outcomes digits)) (sym ss) h.1.marks in
    let is_run : IsListed task (outcomes digits) = subst (λ (b : Bool). IsRunIf b task (outcomes digits)) h.0 run in (
      ap shows_run e,
      record {
        word = sw ∙ sym d ∙ ap (λ (b : Bool). map outcome_digit (unwrap_or (given_if b (outcomes digits)) [])) (sym h.0);
        moment = subst (λ (b : Bool). state_at (shown_moment g v) [] ≡ state_of (run_on task (unwrap_or (given_if b (outcomes digits)) []))) (sym h.0) (ap (λ (n : Moment). state_at n []) sm ∙ h.1.moment);
        ending = subst (λ (b : Bool). shown_ending v ≡ ending_of (run_on task (unwrap_or (given_if b (outcomes digits)) []))) (sym h.0) (se ∙ h.1.ending);
        marks = subst (λ (b : Bool). length (shown_marks g v) ≤ successes (unwrap_or (given_if b (outcomes digits)) [])) (sym h.0) (few_marks task (outcomes digits) (shown_marks g v) marks);
        few = marks_within task (outcomes digits) (shown_marks g v) marks is_run.run bound;
      },
    )

-- a word is followed exactly if something is marked
more_marked : (task : Task) (w : OutcomeWord) (ms : List Moment) → IsListed task w → AreMarks task w ms → not (length ms == 0) ≡ has_words (rest task w)
more_marked task w [] is h = sym (ap has_words (task_ends task w is h))
more_marked task w (m ∷ ms) is h = some_there (length ms) ∙ sym (ap has_words (task_goes_on task w (h.0 ++ Failure ∷ []) is h.1))

pub more_behind : (task : Task) (has : Bool) (w : OutcomeWord) (r : Record) (phase : Phase) (halt : Halt) → phase ≡ At halt → IsRunIf has task w → StandsAt task has w r phase → not (length r.marked == 0) ≡ has_words (to_come_after has task w)
more_behind task has w r phase halt e is s =
    let h : StandsAt task has w r (At halt) = subst (λ (p : Phase). StandsAt task has w r p) e s in
    let run : IsListed task w = subst (λ (b : Bool). IsRunIf b task w) h.0 is in
    more_marked task w r.marked run h.1.marks ∙ ap (λ (b : Bool). has_words (to_come_after b task w)) (sym h.0)

-- none follows the last one
pub none_behind : (task : Task) (has : Bool) (w : OutcomeWord) (r : Record) (phase : Phase) → phase ≡ Over → StandsAt task has w r phase → false ≡ has_words (to_come_after has task w)
none_behind task has w r phase e s =
    let h : StandsAt task has w r Over = subst (λ (p : Phase). StandsAt task has w r p) e s in
    sym (ap has_words h.1) ∙ ap (λ (b : Bool). has_words (to_come_after b task w)) (sym h.0)

some_words : (ws : List OutcomeWord) → ws ≢ [] → true ≡ has_words ws
some_words [] h = absurd (h refl)
some_words (w ∷ ws) h = refl

-- and there is a run
pub more_at_first : (task : Task) (has : Bool) (w : OutcomeWord) (r : Record) (phase : Phase) → phase ≡ Fresh → StandsAt task has w r phase → true ≡ has_words (to_come_after has task w)
more_at_first task has w r phase e s =
    let h : StandsAt task has w r Fresh = subst (λ (p : Phase). StandsAt task has w r p) e s in
    some_words (runs task) (runs_are_there task) ∙ ap (λ (b : Bool). has_words (to_come_after b task w)) (sym h.0)
