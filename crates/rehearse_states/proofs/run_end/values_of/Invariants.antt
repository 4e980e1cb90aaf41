use Rattle.std.proofs.Common.{◌≡◌, map, take}
use Rattle.std.specs.FinMap.{entries}
use Rattle.rehearse_states.specs.Endings.{values_in}
use Rattle.rehearse_states.specs.RowsShown.{value_shown}
use Rattle.rehearse_states.proofs.run_end.values_of.Given as goal

-- the values so far
abbrev pub invariant-loop-name : goal.invariant-loop-name
invariant-loop-name g l = map value_shown l.values.items ≡ values_in (entries (g.S.Store.record_of l.store).present.environment) (map (λ n. n.now) (take l.name-index l.names))
