-- The text that `printenv` prints of an environment, and when `mkenvimage` reads that environment from it. Ours.
use Rattle.std.specs.Prelude.{◌≢◌, ℕ, List, [], ◌∷◌, ◌++◌, Ok}
use Rattle.std.specs.List.{AllByRecursion}
use Rattle.text.specs.Bytes as ascii
use Rattle.envimage.specs.Data.{Pair}
use Rattle.envtools.specs.Environment.{IsEnvironment}
use Rattle.envtools.specs.FromText.{IsReadFromText}
use Rattle.envtools.specs.Printing.{plain, printed_output}

abbrev pub IsLineByte : ℕ → Type 0
IsLineByte b = b ≢ ascii.newline

-- A variable that one line of a text can say: neither its name nor its value has a newline, its name does not begin
-- with the `#` of a comment, and its value does not end with a backslash, which would take in the newline after it.
pub record IsOneLine (p : Pair) : Type 0 where
  pub name : AllByRecursion IsLineByte p.0
  pub value : AllByRecursion IsLineByte p.1
  pub no_comment : (rest : List ℕ) → p.0 ≢ ascii.hash ∷ rest
  pub no_escape : (front : List ℕ) → p.1 ≢ front ++ ascii.backslash ∷ []

-- all variables in order, each a line `name=value`
abbrev pub printed_text : List Pair → List ℕ
printed_text env = printed_output env [] plain

-- What is printed of an environment of such variables is read as the same environment.
abbrev pub PrintedReadsBack : Type 0
PrintedReadsBack = (env : List Pair) → IsEnvironment env → AllByRecursion IsOneLine env →
    IsReadFromText (printed_text env) (Ok env)
