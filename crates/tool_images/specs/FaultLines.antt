-- The line that reports a fault. Its form is ours.
use Rattle.std.specs.Prelude.{◌⊎◌, ℕ, List, [], ◌∷◌, ◌++◌, codes}
use Rattle.text.specs.Bytes as ascii
use Rattle.output.specs.Sink.{BrokeOff, Sink, Wrote}

-- the name of a program, a colon and a space, the text of a fault, and a newline
abbrev pub line_of : (program text : List ℕ) → List ℕ
line_of program text = program ++ (codes ": " ++ (text ++ ascii.newline ∷ []))

-- one line of the program was written, or a prefix of it, since the output failed
abbrev pub TellsLine : (program : List ℕ) → Sink → Sink → Type 0
TellsLine program old new =
    (text : List ℕ) × (Wrote old new (line_of program text) ⊎ BrokeOff old new (line_of program text))
