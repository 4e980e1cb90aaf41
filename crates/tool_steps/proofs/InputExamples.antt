-- Texts whose last line is cut off, in worked cases.
use Rattle.std.proofs.Common.{◌≡◌, [], ◌∷◌, ◌++◌, None, Some, refl}
use Rattle.std.specs.Prelude.{codes}
use Rattle.text.specs.Bytes as ascii
use Rattle.tool_steps.specs.ReadingFiles.{cut_off_line}

-- nothing is cut off of no text
no_text : cut_off_line [] ≡ None
no_text = refl

ended_line : cut_off_line (codes "a=1" ++ ascii.newline ∷ []) ≡ None
ended_line = refl

one_line : cut_off_line (codes "a=1") ≡ Some 1
one_line = refl

-- the lines before it count
second_line : cut_off_line (codes "a=1" ++ ascii.newline ∷ codes "b") ≡ Some 2
second_line = refl

empty_lines : cut_off_line (ascii.newline ∷ ascii.newline ∷ ascii.newline ∷ []) ≡ None
empty_lines = refl

-- an empty line counts
after_empty_lines : cut_off_line (ascii.newline ∷ ascii.newline ∷ codes " ") ≡ Some 3
after_empty_lines = refl

-- a carriage return ends no line
carriage_return : cut_off_line (codes "a=1" ++ ascii.carriage_return ∷ []) ≡ Some 1
carriage_return = refl
