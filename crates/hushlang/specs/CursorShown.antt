-- What the cursor over the tokens of a text shows.
use Rattle.std.specs.Prelude.{◌≡◌, ℕ, List, [], ◌∷◌, Option, Some, None, length}
use Rattle.std.specs.declared.alloc.Global.{Global}
use Rattle.std.specs.declared.vec.Vec.{Vec}
use Rattle.hushlang.specs.Token as spec
use Rattle.hushlang.specs.Token.{End, Whole, Refused}
use Rattle.hushlang.specs.Tokenizing.{Lexed, lexed}
use Rattle.hushlang.specs.LexerShown.{Coming, tokens_to_come, token_of, parts_in, parts_of, IsCut}
use Rattle.hushlang.specs.Grammar.{assignment, reserved_of}
use Rattle.hushlang.specs.declared.token.SyntaxError.TheVariants.{AssignmentBeforeCommand}
use Rattle.hushlang.specs.CuttersShown.{Place, to_come}
use Rattle.hushlang.specs.Parsing.{Input}
use Rattle.hushlang.specs.declared.token.Token.{Token}
use Rattle.hushlang.specs.declared.token.SyntaxError.{SyntaxError}
use Rattle.hushlang.specs.declared.words.Reserved.{Reserved}
use Rattle.hushlang.specs.declared.cursor.Tokens.TheInside.{Inside}

abbrev pub end_of : Option SyntaxError → End
end_of None = Whole
end_of (Some error) = Refused error

-- the token that is held ahead and those to come after it; without one, the text ends or is refused
abbrev pub with_ahead : Option Token → Option SyntaxError → Coming → Lexed
with_ahead (Some t) fault c = record { tokens = token_of t ∷ (tokens_to_come c).tokens; end = (tokens_to_come c).end }
with_ahead None fault c = record { tokens = []; end = end_of fault }

-- the token that is held ahead, with the reserved word that it is
abbrev pub IsAhead : Option Token → Option Reserved → Type 0
IsAhead (Some t) word = IsCut t × (word ≡ reserved_of (token_of t))
IsAhead None word = word ≡ None

abbrev pub input_with : Lexed → ℕ → Input
input_with all size = record { tokens = all.tokens; end = all.end; size = size }

abbrev pub input_of : Inside → Input
input_of c = input_with (with_ahead c.ahead.token c.ahead.fault c.lexer) c.size

-- all tokens of a text
abbrev pub input_in : List ℕ → Input
input_in text = input_with (lexed 0 text) (length text)

-- the name of an assignment, and the parts of its value
abbrev pub name_and_value : Vec ℕ Global × Place → List ℕ × List spec.Part
name_and_value found = (found.0.items, parts_in (to_come found.1))

-- a word that is not an assignment is refused at its place
abbrev pub IsNoAssignment : Token → SyntaxError → Type 0
IsNoAssignment t e = (assignment (parts_of t) ≡ None) × (e ≡ AssignmentBeforeCommand t.start)
