use Rattle.hushlang.proofs.Shortening.{IsShortSoFar}
use Rattle.hushlang.proofs.expanding.shortened.Given as goal

abbrev pub invariant-loop-byte : goal.invariant-loop-byte
invariant-loop-byte l = IsShortSoFar l.value l.short.items l.byte-index l.cut
