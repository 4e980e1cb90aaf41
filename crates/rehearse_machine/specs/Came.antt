-- The result of a run: its end, or a device command that finds no outcome left. Ours.
use Rattle.rehearse_terms.specs.State.{State}
use Rattle.rehearse_rules.specs.Execution.{Answer, Normal, Exit, Ended, Dry, Ending, End}

-- the run is over, or a device command found no outcome left
pub data Came : Type 0 where
  Over : (ending : Ending) → State → Came
  Wants : State → Came

-- a text that ends, by itself or by an `exit`, ends the run with its status
abbrev pub settled : Answer → Came
settled (Normal s) = Over (End s.memory.status) s
settled (Exit s) = Over (End s.memory.status) s
settled (Ended ending s) = Over ending s
settled (Dry s) = Wants s
