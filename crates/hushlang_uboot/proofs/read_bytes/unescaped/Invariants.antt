use Rattle.std.proofs.Common.{◌≡◌, ◌++◌, false, drop}
use Rattle.hushlang_uboot.specs.ReadBytes.{unescaped}
use Rattle.hushlang_uboot.proofs.read_bytes.unescaped.Given as goal

abbrev pub invariant-loop-byte : goal.invariant-loop-byte
invariant-loop-byte l = l.bytes.items ++ unescaped l.behind (drop l.byte-index l.word) ≡ unescaped false l.word
