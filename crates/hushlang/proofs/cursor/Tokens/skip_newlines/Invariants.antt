use Rattle.std.proofs.Common.{◌≡◌, ◌≤◌, length}
use Rattle.hushlang.specs.Grammar.{is_newline_token}
use Rattle.hushlang.specs.Parsing.{behind}
use Rattle.hushlang.proofs.cursor.Tokens.skip_newlines.Given as goal

abbrev pub invariant-newlines : goal.invariant-newlines
invariant-newlines l = record {
  same : behind is_newline_token l.self ≡ behind is_newline_token l.fn.self;
  within : length l.self.tokens ≤ length l.fn.self.tokens;
}

abbrev pub decreases-newlines : goal.decreases-newlines
decreases-newlines l = length l.self.tokens
