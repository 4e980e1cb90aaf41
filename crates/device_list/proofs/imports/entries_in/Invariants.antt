use Rattle.std.proofs.Common.{◌≡◌, ◌-◌, drop}
use Rattle.device_list.specs.Imports.{no_entry, read_from}
use Rattle.device_list.proofs.imports.entries_in.Given as goal

-- the entries so far, and then the bytes left
abbrev pub invariant-loop-at : goal.invariant-loop-at
invariant-loop-at l = read_from l.room no_entry l.text ≡ read_from (l.room - l.at) l.entries (drop l.at l.text)
