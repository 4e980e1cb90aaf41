use Rattle.std.proofs.Common.{◌≡◌, drop}
use Rattle.commands.specs.Hexadecimal.{read_behind}
use Rattle.commands.proofs.hexadecimal.read.Given as goal

-- what is read so far goes on with what is left
abbrev pub invariant-loop-byte : goal.invariant-loop-byte
invariant-loop-byte l = read_behind l.number (drop l.byte-index l.bytes) ≡ read_behind 0 l.bytes
