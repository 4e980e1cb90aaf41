-- The environment of a text, as mkenvimage puts it into an image (U-Boot, tools/mkenvimage.c, `main`). What is refused, and
-- by which line, is ours.
use Rattle.std.specs.Prelude.{◌≡◌, ◌≢◌, Bool, true, false, ℕ, ◌+◌, ◌-◌, ◌==◌, nat_lt, List, [], ◌∷◌, ◌++◌, length, Option, None, Some, Result, Ok, Err, if◌then◌else◌}
use Rattle.text.specs.Bytes as ascii
use Rattle.text.specs.Lines.{is_newline}
use Rattle.envimage.specs.Data.{Pair, data_fault, pairs_of}
use Rattle.envimage.specs.declared.content.DataError.{DataError}
use Rattle.envimage.specs.declared.content.DataError.TheVariants as faulty
use Rattle.envtools.specs.Environment.{env_of}
use Rattle.envtools.specs.declared.text_file.Position.{Position}
use Rattle.envtools.specs.declared.text_file.Position.TheVariants.{Escaped, InComment, InLine, LineStart}
use Rattle.envtools.specs.declared.text_file.Step.{Step}
use Rattle.envtools.specs.declared.text_file.TextError.{TextError}
use Rattle.envtools.specs.declared.text_file.TextError.TheVariants.{EmptyName, NoEquals, Memory}

-- ---- the data that mkenvimage makes of a text

-- a byte of a line that is not skipped: a backslash may yet be one before a newline
abbrev pub within : ℕ → Position × List ℕ
within b = if b == ascii.backslash then (Escaped, []) else (InLine, b ∷ [])

-- where the next byte is, and what this one adds to the data: a newline ends an entry, but none in an empty line; after a
-- backslash it belongs to the entry, in place of the backslash; and a line that starts with `#` adds nothing
abbrev pub step : Position → ℕ → Position × List ℕ
step LineStart b =
    if is_newline b then (LineStart, []) else (if b == ascii.hash then (InComment, []) else within b)
step InLine b = if is_newline b then (LineStart, ascii.nul ∷ []) else within b
step InComment b = if is_newline b then (LineStart, []) else (InComment, [])
step Escaped b =
    if is_newline b then (LineStart, ascii.newline ∷ []) else ((within b).0, ascii.backslash ∷ (within b).1)

-- what is added at the end of the text: a NUL that ends the last entry, if its line lacks the newline, and one that ends
-- the data; what follows that one is filling
abbrev pub ending : Position → List ℕ
ending Escaped = ascii.backslash ∷ ascii.nul ∷ ascii.nul ∷ []
ending at = ascii.nul ∷ ascii.nul ∷ []

-- the data of what is left of a text
abbrev pub data_from : Position → List ℕ → List ℕ
data_from at [] = ending at
data_from at (b ∷ bs) = (step at b).1 ++ data_from (step at b).0 bs

abbrev pub data_of : List ℕ → List ℕ
data_of text = data_from LineStart text

-- the data of each text end: a text is refused by a line, or not at all
abbrev pub TextsEnd : Type 0
TextsEnd = (text : List ℕ) → data_fault (data_of text) ≢ Some faulty.NotTerminated

-- ---- the lines of the data

-- the number of the line after this byte
abbrev pub line_after : (line byte : ℕ) → ℕ
line_after line b = if is_newline b then line + 1 else line

-- the number of the line from which the byte at this place of the data comes
abbrev pub line_from : Position → (line place : ℕ) → List ℕ → ℕ
line_from at line place [] = line
line_from at line place (b ∷ bs) =
    if nat_lt place (length (step at b).1) then line
    else line_from (step at b).0 (line_after line b) (place - length (step at b).1) bs

abbrev pub line_of : List ℕ → ℕ → ℕ
line_of text place = line_from LineStart 1 place text

-- ---- the environment

-- what a text is refused for, by the line in which the faulty entry starts
pub record HasFaultyLine (text : List ℕ) (fault : ℕ → DataError) (line : ℕ) : Type 0 where
  pub place : ℕ
  pub refused : data_fault (data_of text) ≡ Some (fault place)
  pub is : line ≡ line_of text place

-- the environment of the text, or the first entry that is no variable; or memory ran out
abbrev pub IsReadFromText : List ℕ → Result (List Pair) TextError → Type 0
IsReadFromText text (Ok env) = (data_fault (data_of text) ≡ None) × (env ≡ env_of (pairs_of (data_of text)))
IsReadFromText text (Err (NoEquals line)) = HasFaultyLine text faulty.NoEquals line
IsReadFromText text (Err (EmptyName line)) = HasFaultyLine text faulty.EmptyName line
IsReadFromText text (Err Memory) = Unit {0}

-- ---- the code's step

-- what a step of the code adds
abbrev pub added : Step → List ℕ
added s = backslashes s.backslash ++ byte_of s.byte
  where
    backslashes : Bool → List ℕ
    backslashes true = ascii.backslash ∷ []
    backslashes false = []

    byte_of : Option ℕ → List ℕ
    byte_of None = []
    byte_of (Some b) = b ∷ []
