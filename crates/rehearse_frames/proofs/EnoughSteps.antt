-- Keys that are enough before a step of the machine, and where a device command asks, by what is enough after.
use Rattle.std.proofs.Common.{◌≡◌, ◌∙◌, ap, subst, List, []}
use Rattle.bootstore_state.specs.Moment.{Moment}
use Rattle.bootstore_state.specs.StoredState.{state_at}
use Rattle.rehearse_terms.specs.Outcomes.{Outcome, Success, Failure, OutcomeWord}
use Rattle.rehearse_terms.specs.State.{Text, State}
use Rattle.rehearse_rules.specs.Execution.{Limits, Request}
use Rattle.rehearse_machine.specs.Frames.{Frame, Next, Go, answered, move}
use Rattle.rehearse_machine.specs.Machine.{Asking}
use Rattle.rehearse_machine.specs.MovesShown.{next_shown}
use Rattle.rehearse_machine.specs.Places.{next_of, frames_of, place_answered}
use Rattle.rehearse_machine.specs.declared.ask.Step.{Step}
use Rattle.rehearse_machine.proofs.PlaceMoves.{place_move-is, place_answered-is}
use Rattle.rehearse_reads.specs.Keys.{Key, keys_in_front}
use Rattle.rehearse_reads.specs.Accesses.{outcome_accesses}
use Rattle.rehearse_frames.specs.MoveAccesses.{of_move}
use Rattle.rehearse_frames.specs.KeysToCome.{AreEnough, AreEnoughAfter}
use Rattle.rehearse_frames.specs.Laws.{KeysOfSteps, KeysOfOutcomes}
use Rattle.rehearse_frames.proofs.EnoughKeys.{keys_of_moves, keys_of_answers, keys_of_asking, keys_of_moments, more_keys_are_enough}

pub keys_of_steps : KeysOfSteps
keys_of_steps limits wanted step old new reported later sound shown covers enough =
    let fs : List Frame = frames_of old.frames in
    let s : State = state_at old [] in
    let moved : next_of (next_shown step new []) ≡ move limits fs s = ap next_of (shown []) ∙ place_move-is limits old.frames s in
    let behind : AreEnough limits wanted (move limits fs s) later = subst (λ (next : Next). AreEnough limits wanted next later) moved enough in
    more_keys_are_enough limits wanted (Go fs s) (keys_in_front (of_move limits fs s) later) (keys_in_front reported later)
    (keys_of_moves limits wanted fs s later sound behind) (covers later)

-- what is enough after an outcome
after_outcome : (limits : Limits) (wanted : List Text) (m new : Moment) (asking : Asking limits m) (outcome : Outcome) (step : Step) (later : List Key)
    → ((w : OutcomeWord) → next_shown step new w ≡ place_answered outcome asking.request m.frames (state_at m w)) → AreEnoughAfter limits wanted step new later
    → AreEnough limits wanted (answered outcome asking.request (frames_of m.frames) (state_at m [])) later
after_outcome limits wanted m new asking outcome step later shown enough =
    subst (λ (next : Next). AreEnough limits wanted next later) (ap next_of (shown []) ∙ place_answered-is outcome asking.request m.frames (state_at m [])) enough

pub keys_of_outcomes : KeysOfOutcomes
keys_of_outcomes limits wanted m asking won_step lost_step won lost after_won after_lost shown_won shown_lost enough_won enough_lost =
    let request : Request = asking.request in
    let fs : List Frame = frames_of m.frames in
    let s : State = state_at m [] in
    keys_of_moments limits wanted m _ asking
    (keys_of_asking limits wanted request fs s (keys_in_front (outcome_accesses Success request) after_won) (keys_in_front (outcome_accesses Failure request) after_lost)
    (keys_of_answers limits wanted Success request fs s after_won (after_outcome limits wanted m won asking Success won_step after_won shown_won enough_won))
    (keys_of_answers limits wanted Failure request fs s after_lost (after_outcome limits wanted m lost asking Failure lost_step after_lost shown_lost enough_lost)))
