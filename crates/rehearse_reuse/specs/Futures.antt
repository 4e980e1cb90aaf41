-- What is to come after a device command asks, for every rest of the word. Ours.
use Rattle.std.specs.Prelude.{ℕ, List, Option, Some, None}
use Rattle.rehearse_terms.specs.State.{Text, LoggedCommand}
use Rattle.rehearse_rules.specs.Execution.{Ending, End}
use Rattle.rehearse_machine.specs.Came.{Came, Over, Wants}
pub use Rattle.rehearse_frames.specs.AlikeFutures.{came_state, came_kind, came_devices}
use Rattle.rehearse_states.specs.Endings.{RunEnd, end_with}

-- how the run ends
abbrev pub came_ending : Came → Ending
came_ending (Over ending s) = ending
came_ending (Wants s) = End s.memory.status

-- with the values of these variables there
abbrev pub came_end : (names : List Text) → Came → RunEnd
came_end names c = end_with names (came_ending c) (came_state c).memory.environment

-- how the run ended, if it did
abbrev pub came_to_end : Came → Option Ending
came_to_end (Over ending s) = Some ending
came_to_end (Wants s) = None

abbrev pub came_log : Came → List LoggedCommand
came_log c = (came_state c).log

-- how many steps were begun
abbrev pub came_steps : Came → ℕ
came_steps c = (came_state c).steps
