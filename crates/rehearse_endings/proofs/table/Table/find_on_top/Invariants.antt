use Rattle.std.proofs.Common.{take}
use Rattle.rehearse_endings.specs.Indexed.{AllOf, NoneOnTop}
use Rattle.rehearse_endings.proofs.table.Table.find_on_top.Given as goal

-- none so far
abbrev pub invariant-loop-many : goal.invariant-loop-many
invariant-loop-many g l = AllOf (take l.many-index l.many-items) (NoneOnTop l.bounds.steps l.bounds.devices l.self (g.S.Store.record_of l.store).present)
