-- The next token of the reader is the next by the rules.
use Rattle.std.proofs.Common.{◌≡◌, [], ◌∷◌, drop, Option, Some, None, Result, Ok, Err, ap, ◌∙◌, subst}
use Rattle.hushlang.specs.Token.{Whole, Refused}
use Rattle.hushlang.specs.Tokenizing.{Lexed}
use Rattle.hushlang.specs.Spelling.{Spells}
use Rattle.hushlang.specs.LexerShown.{Coming, tokens_to_come, token_of, StillSpells, Gives, SpellsNext}
use Rattle.hushlang.proofs.SpellingOfEachText.{each_spelled, spelled_once}
use Rattle.hushlang.specs.declared.token.Token.{Token}
use Rattle.hushlang.specs.declared.token.SyntaxError.{SyntaxError}

-- what is to come is spelled
still : (c : Coming) (all : Lexed) → tokens_to_come c ≡ all → StillSpells c all.tokens all.end
still c all e = subst (λ (x : Lexed). Spells c.at (drop c.at c.source) x.tokens x.end) e (each_spelled c.at (drop c.at c.source))

pub spells_next : (old new : Coming) (result : Result (Option Token) SyntaxError) → Gives old result new → SpellsNext old result new
spells_next old new (Ok (Some t)) given = λ tokens end s.
    let more = spelled_once new.at (drop new.at new.source) tokens end s in
    still old record { tokens = token_of t ∷ tokens; end = end } (given.0 ∙ ap (λ (x : Lexed). record { tokens = token_of t ∷ x.tokens; end = x.end }) more)
spells_next old new (Ok None) given =
    let none : Lexed = record { tokens = []; end = Whole } in
    (still old none given.0, still new none (given.1 ∙ given.0))
spells_next old new (Err error) given =
    let none : Lexed = record { tokens = []; end = Refused error } in
    (still old none given.0, still new none (given.1 ∙ given.0))
