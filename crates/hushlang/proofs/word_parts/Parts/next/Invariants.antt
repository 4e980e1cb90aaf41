use Rattle.std.proofs.Common.{◌≡◌, ◌≤◌, ◌-◌, length, drop}
use Rattle.hushlang.specs.Tokenizing.{row}
use Rattle.hushlang.specs.CuttersShown.{to_come}
use Rattle.hushlang.proofs.word_parts.Parts.next.Given as goal

abbrev pub invariant-looks : goal.invariant-looks
invariant-looks l = record {
  same : row l.self-inside.mode l.self-inside.stop 0 l.self-inside.at (drop l.self-inside.at l.self-inside.text.now) ≡ to_come l.fn.self;
  source : l.self-inside.text.now ≡ l.fn.self.source;
  starts : l.fn.self.at ≤ l.self-inside.at;
  within : l.self-inside.at ≤ length l.self-inside.text.now;
}

abbrev pub decreases-looks : goal.decreases-looks
decreases-looks l = length l.self-inside.text.now - l.self-inside.at
