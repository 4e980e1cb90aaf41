use Rattle.std.proofs.Common.{◌≡◌, ◌++◌, false, drop}
use Rattle.envtools.specs.Importing.{imported_value}
use Rattle.envtools.proofs.importing.imported_value.Given as goal

abbrev pub invariant-loop-byte : goal.invariant-loop-byte
invariant-loop-byte l = l.bytes.items ++ imported_value l.behind (drop l.byte-index l.value) ≡ imported_value false l.value
