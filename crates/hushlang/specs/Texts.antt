-- Texts, their trees, and where a text stops being one.
-- Ours.
use Rattle.std.specs.Prelude.{◌≡◌, ◌≢◌, ℕ, List, [], ◌∷◌, ◌++◌, length, Option, Some, None, Result, Ok, Err}
use Rattle.hushlang.specs.Token.{Token, End, Whole, Refused}
use Rattle.hushlang.specs.Spelling.{Spells}
use Rattle.hushlang.specs.Tree.{Script}
use Rattle.hushlang.specs.Grammar.{Derives, max_nesting}
use Rattle.hushlang.specs.RefusalPlaces.{IsViable}
use Rattle.hushlang.specs.declared.token.SyntaxError.{SyntaxError}
use Rattle.hushlang.specs.declared.token.SyntaxError.TheVariants as error

-- the text spells tokens to its end, and they have this tree
abbrev pub IsTreeOf : (text : List ℕ) → Script → Type 0
IsTreeOf text s = (tokens : List Token) × Spells 0 text tokens Whole × Derives tokens s

abbrev pub HasNoTree : (text : List ℕ) → Type 0
HasNoTree text = (s : Script) → IsTreeOf text s → ⊥

-- the place of a fault of the tokens
abbrev pub fault_place : SyntaxError → Option ℕ
fault_place (error.OpenQuote place) = Some place
fault_place (error.LoneBackslash place) = Some place
fault_place (error.OpenBrace place) = Some place
fault_place (error.BadVariable place) = Some place
fault_place (error.SingleAmp place) = Some place
fault_place (error.SinglePipe place) = Some place
fault_place e = None

-- after tokens that all start a script, this fault refuses the text
abbrev pub IsFaultOf : (text : List ℕ) → SyntaxError → Type 0
IsFaultOf text e = (tokens : List Token) × Spells 0 text tokens (Refused e) × IsViable max_nesting tokens

-- no script goes on with what is at this place
pub data IsBlocked : (text : List ℕ) → (place : ℕ) → Type 0 where
  -- the first token with which the tokens do not start a script
  at_token : {text : List ℕ} {end : End} (front : List Token) (t : Token) (more : List Token) →
      Spells 0 text (front ++ t ∷ more) end → IsViable max_nesting front →
      (IsViable max_nesting (front ++ t ∷ []) → ⊥) → IsBlocked text t.start
  -- all tokens start a script; a fault follows them at this place
  at_fault : {text : List ℕ} {place : ℕ} (e : SyntaxError) → IsFaultOf text e → fault_place e ≡ Some place →
      IsBlocked text place
  -- all tokens start a script, and the text ends at this place
  at_end : {text : List ℕ} (tokens : List Token) → Spells 0 text tokens Whole → IsViable max_nesting tokens →
      IsBlocked text (length text)

-- ---- what an answer says of a text

-- a refusal of the grammar is where the text is blocked
abbrev pub IsPlaced : (text : List ℕ) → Option ℕ → Type 0
IsPlaced text None = Unit {0}
IsPlaced text (Some place) = IsBlocked text place

-- a refusal of a token is the text's fault
abbrev pub IsFaultIf : (text : List ℕ) → SyntaxError → Option ℕ → Type 0
IsFaultIf text e None = Unit {0}
IsFaultIf text e (Some place) = IsFaultOf text e

-- the answer is this refusal, unless memory runs out
abbrev pub AnswersFault : {A : Type 0} → Result A SyntaxError → SyntaxError → Type 0
AnswersFault (Ok s) e = ⊥
AnswersFault (Err a) e = a ≢ error.Memory → a ≡ e
