use Rattle.std.proofs.Common.{◌≡◌, ◌-◌, length}
use Rattle.std.specs.List.{fold}
use Rattle.hushlang.specs.CursorShown.{input_in}
use Rattle.hushlang.specs.LexerShown.{tokens_to_come}
use Rattle.hushcheck.specs.Warnings.{after_token, watched}
use Rattle.hushcheck.proofs.watch.warnings_of.Given as goal

-- what was found so far, and what the tokens to come have
abbrev pub invariant-tokens : goal.invariant-tokens
invariant-tokens l =
    (fold (after_token l.fn.text) l.watch (tokens_to_come l.lexer).tokens ≡ watched l.fn.text (input_in l.fn.text).tokens)
    × (l.lexer.source ≡ l.fn.text)

abbrev pub decreases-tokens : goal.decreases-tokens
decreases-tokens l = length l.lexer.source - l.lexer.at
