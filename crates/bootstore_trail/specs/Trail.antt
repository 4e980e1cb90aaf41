-- What a store with marks and the inverses of its changes holds.
use Rattle.std.specs.Prelude.{reverse}
use Rattle.bootstore_trail.specs.declared.trail.Trail.{Trail}
use Rattle.bootstore_state.specs.Record.{Record}
use Rattle.bootstore_trail.specs.Inverse.{record_with}

abbrev pub record_of_trail : Trail → Record
record_of_trail t = record_with t.present (reverse t.kept.items) t.begun
