use Rattle.std.proofs.Common.{◌≡◌, ◌≤◌, ◌-◌, None, length, drop}
use Rattle.hushlang.specs.Tokenizing.{lexed}
use Rattle.hushlang.specs.LexerShown.{tokens_to_come}
use Rattle.hushlang.proofs.lexer.Lexer.cut_token.Given as goal

abbrev pub invariant-fronts : goal.invariant-fronts
invariant-fronts l = record {
  same : lexed l.self-inside.at (drop l.self-inside.at l.self-inside.text.now) ≡ tokens_to_come l.fn.self;
  source : l.self-inside.text.now ≡ l.fn.self.source;
  starts : l.fn.self.at ≤ l.self-inside.at;
  within : l.self-inside.at ≤ length l.self-inside.text.now;
  unknown : l.self-inside.fault ≡ None;
}

abbrev pub decreases-fronts : goal.decreases-fronts
decreases-fronts l = length l.self-inside.text.now - l.self-inside.at
