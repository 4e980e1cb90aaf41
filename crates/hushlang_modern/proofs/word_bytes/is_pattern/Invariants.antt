use Rattle.std.proofs.Common.{◌≡◌, false, drop}
use Rattle.hushlang_modern.specs.ModernWords.{is_pattern}
use Rattle.hushlang_modern.proofs.word_bytes.is_pattern.Given as goal

abbrev pub invariant-loop-byte : goal.invariant-loop-byte
invariant-loop-byte l = is_pattern l.behind (drop l.byte-index l.bytes) ≡ is_pattern false l.bytes
