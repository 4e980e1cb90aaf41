use Rattle.std.proofs.Common.{◌≡◌, ◌-◌, ◌≤◌, take, length}
use Rattle.hushlang.specs.CuttersShown.{to_come}
use Rattle.hushlang.specs.LexerShown.{parts_of}
use Rattle.hushlang.proofs.ReservedWordLemmas.{fronted}
use Rattle.hushlang.proofs.words.reserved_word.Given as goal

abbrev pub invariant-parts : goal.invariant-parts
invariant-parts l = record {
  same : fronted (take l.size l.bytes) (to_come l.parts) ≡ parts_of l.fn.token;
  held : length l.bytes ≡ 5;
  room : l.size ≤ 5;
  source : l.parts.source ≡ l.fn.token.text.now;
}

abbrev pub decreases-parts : goal.decreases-parts
decreases-parts l = length l.parts.source - l.parts.at
