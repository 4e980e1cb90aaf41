use Rattle.std.proofs.Common.{◌≡◌, ◌+◌, take, sum_by}
use Rattle.std.specs.FinMap.{entries}
use Rattle.device_list.specs.DevicesShown.{right_shown}
use Rattle.rehearse_rules.specs.Needs.{bytes_copied}
use Rattle.rehearse_machine.proofs.room.are_within.Given as goal

-- the copies so far take what is not left
abbrev pub invariant-loop-set : goal.invariant-loop-set
invariant-loop-set g l = l.left + sum_by (λ set. bytes_copied (entries (g.S.Store.record_of l.store).present.environment) (right_shown set.value)) (take l.set-index l.sets) ≡ l.room
