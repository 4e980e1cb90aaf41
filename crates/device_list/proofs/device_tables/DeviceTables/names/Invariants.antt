use Rattle.device_list.specs.NamedPlaces.{ArePlaced}
use Rattle.device_list.proofs.device_tables.DeviceTables.names.Given as goal

-- each name so far is with its places
abbrev pub invariant-loop-name : goal.invariant-loop-name
invariant-loop-name l = ArePlaced l.self l.names.entries
