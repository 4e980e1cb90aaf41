use Rattle.std.proofs.Common.{take}
use Rattle.rehearse_endings.specs.Indexed.{AllOf, FitsNot}
use Rattle.rehearse_endings.proofs.table.Table.find_alike.Given as goal

-- none so far
abbrev pub invariant-loop-place : goal.invariant-loop-place
invariant-loop-place g l = AllOf (take l.place-index l.place-items) (FitsNot l.bounds.steps l.bounds.devices l.self.entries.items (g.S.Store.record_of l.store).present)
