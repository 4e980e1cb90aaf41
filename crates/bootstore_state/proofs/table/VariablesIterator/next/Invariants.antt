use Rattle.std.proofs.Common.{◌≡◌, length}
use Rattle.bootstore_state.specs.Slots.{live}
use Rattle.bootstore_state.proofs.table.VariablesIterator.next.Given as goal

-- the skipped slots had no value
abbrev pub invariant-loop-name : goal.invariant-loop-name
invariant-loop-name l = live l.self-inside.slots ≡ l.fn.self

abbrev pub decreases-loop-name : goal.decreases-loop-name
decreases-loop-name l = length l.self-inside.slots
