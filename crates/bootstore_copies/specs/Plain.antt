-- What a store with copies of the marked states holds.
use Rattle.std.specs.Prelude.{map, reverse}
use Rattle.bootstore_copies.specs.declared.plain.Plain.{Plain}
use Rattle.bootstore_state.specs.Record.{Record}
use Rattle.bootstore_state.specs.Present.{moment_of}

abbrev pub record_of_plain : Plain → Record
record_of_plain s =
    record { present = moment_of s.present; marked = map moment_of (reverse s.marked.items); begun = s.begun }
