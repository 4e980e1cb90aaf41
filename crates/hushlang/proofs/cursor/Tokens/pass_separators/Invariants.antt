use Rattle.std.proofs.Common.{◌≡◌, ◌≤◌, length}
use Rattle.hushlang.specs.Grammar.{is_separator}
use Rattle.hushlang.specs.Parsing.{behind}
use Rattle.hushlang.proofs.cursor.Tokens.pass_separators.Given as goal

abbrev pub invariant-separators : goal.invariant-separators
invariant-separators l = record {
  same : behind is_separator l.self ≡ behind is_separator l.fn.self;
  within : length l.self.tokens ≤ length l.fn.self.tokens;
}

abbrev pub decreases-separators : goal.decreases-separators
decreases-separators l = length l.self.tokens
