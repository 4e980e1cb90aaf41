-- Tokens, as the language knows them.
-- After the hush shell of the U-Boot documentation, doc/usage/cmdline. Parts and places are ours.
use Rattle.std.specs.Prelude.{ℕ, Bool, List, []}
use Rattle.hushlang.specs.declared.token.Kind.{Kind}
use Rattle.hushlang.specs.declared.token.Kind.TheVariants as kinds
use Rattle.hushlang.specs.declared.token.SyntaxError.{SyntaxError}

-- a part of a word
pub data Part : Type 0 where
  -- a byte that is outside quotes and has no backslash
  Plain : (byte : ℕ) → Part
  -- a byte that quotes or a backslash keep
  Kept : (byte : ℕ) → Part
  -- a pair of quotes
  Mark : Part
  -- a variable, which is split outside double quotes
  Var : (name : List ℕ) → (split : Bool) → Part
  -- `$?`
  Status : Part

-- a token, the bytes from start to stop. Only a word has parts
pub record Token : Type 0 where
  pub kind : Kind
  pub start : ℕ
  pub stop : ℕ
  pub parts : List Part

-- a token that is not a word
abbrev pub sign : Kind → ℕ → ℕ → Token
sign kind start stop = record { kind = kind; start = start; stop = stop; parts = [] }

abbrev pub word : ℕ → ℕ → List Part → Token
word start stop parts = record { kind = kinds.Word; start = start; stop = stop; parts = parts }

-- how the tokens of a text end
pub data End : Type 0 where
  Whole : End
  Refused : (error : SyntaxError) → End
