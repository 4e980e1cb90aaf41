use Rattle.std.proofs.Common.{◌≡◌, ◌-◌, ◌++◌, length}
use Rattle.hushlang.specs.CursorShown.{input_in}
use Rattle.hushlang.specs.LexerShown.{tokens_to_come}
use Rattle.hushcheck.specs.Calls.{word_places}
use Rattle.hushcheck.proofs.reading.word_places.Given as goal

-- the places so far, before those of the tokens to come
abbrev pub invariant-tokens : goal.invariant-tokens
invariant-tokens l = l.places.items ++ word_places (tokens_to_come l.lexer).tokens ≡ word_places (input_in l.fn.text).tokens

abbrev pub decreases-tokens : goal.decreases-tokens
decreases-tokens l = length l.lexer.source - l.lexer.at
