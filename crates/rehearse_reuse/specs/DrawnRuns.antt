-- What the nodes of a flow draw: the runs that come after a moment, as a walk sees them. Ours.
use Rattle.std.specs.Prelude.{◌≡◌, ℕ, zero, suc, List, [], ◌∷◌, ◌++◌, length}
use Rattle.std.specs.List.{slice_get}
use Rattle.bootstore_state.specs.Moment.{Moment}
use Rattle.rehearse_terms.specs.Outcomes.{OutcomeWord}
use Rattle.rehearse_rules.specs.Execution.{Limits}
use Rattle.rehearse_machine.specs.Came.{Came}
use Rattle.rehearse_machine.specs.Machine.{asked_at}
use Rattle.rehearse_states.specs.Flow.{Node, Answered, asked_in, Seen, walk}
use Rattle.rehearse_reuse.specs.Futures.{came_kind, came_to_end, came_log}

-- the commands after the first n
abbrev pub further : ℕ → List Answered → List Answered
further zero log = log
further (suc n) [] = []
further (suc n) (command ∷ log) = further n log

-- what is seen of the result of a run, after this many device commands that took an outcome
abbrev pub seen_behind : (devices : ℕ) → Came → Seen
seen_behind devices came = record {
  kind = came_kind came;
  ending = came_to_end came;
  log = further devices (asked_in (came_log came));
}

-- the walk from a place by any word sees this, whatever nodes come after
abbrev pub Draws : List Node → (place : ℕ) → (OutcomeWord → Seen) → Type 0
Draws nodes place sees = (more : List Node) (w : OutcomeWord) → walk (slice_get (nodes ++ more)) w place ≡ sees w

-- what is seen of the runs from a moment at which a device command asks
abbrev pub seen_at : Limits → Moment → OutcomeWord → Seen
seen_at limits m w = seen_behind (length (asked_in m.log)) (asked_at limits m w)
