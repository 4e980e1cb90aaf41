-- Where tokens stop being the start of a script.
-- Ours.
use Rattle.std.specs.Prelude.{◌≡◌, ℕ, List, [], ◌∷◌, ◌++◌, Option, Some, None}
use Rattle.hushlang.specs.Token.{Token, End, Whole, Refused}
use Rattle.hushlang.specs.Tree.{Script}
use Rattle.hushlang.specs.Grammar.{IsScript}
use Rattle.hushlang.specs.declared.token.SyntaxError.{SyntaxError}
use Rattle.hushlang.specs.declared.token.SyntaxError.TheVariants as error

-- the tokens start a row that has a tree
abbrev pub IsViable : ℕ → List Token → Type 0
IsViable depth tokens = (more : List Token) × (s : Script) × IsScript depth (tokens ++ more) s

-- the place of a refusal by the grammar
abbrev pub place_of : SyntaxError → Option ℕ
place_of (error.Unexpected place) = Some place
place_of (error.MissingWord place) = Some place
place_of (error.AssignmentBeforeCommand place) = Some place
place_of (error.TooDeep place) = Some place
place_of e = None

-- why tokens, with what ends them, are not a script
pub data IsRefusal : (depth : ℕ) → (tokens : List Token) → (end : End) → (size : ℕ) → (e : SyntaxError) → Type 0 where
  -- the tokens before it start a script, and with it they do not
  at_token : {depth : ℕ} {end : End} {size : ℕ} {e : SyntaxError} (front : List Token) (t : Token) (more : List Token)
      → IsViable depth front → (IsViable depth (front ++ t ∷ []) → ⊥) → place_of e ≡ Some t.start →
      IsRefusal depth (front ++ t ∷ more) end size e
  -- all tokens start a script, and a lexical fault follows
  at_fault : {depth : ℕ} {tokens : List Token} {size : ℕ} {e : SyntaxError} → IsViable depth tokens →
      IsRefusal depth tokens (Refused e) size e
  -- all tokens start a script, but are not one
  at_end : {depth : ℕ} {tokens : List Token} {size : ℕ} {e : SyntaxError} → IsViable depth tokens →
      place_of e ≡ Some size → IsRefusal depth tokens Whole size e
