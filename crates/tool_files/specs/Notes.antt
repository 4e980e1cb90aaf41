-- The line that a program writes of a call that goes on. Its words are ours.
use Rattle.std.specs.Prelude.{ℕ, List, ◌++◌, codes}
use Rattle.text.specs.Escapes.{word_form}
use Rattle.tool_files.specs.declared.program.Note.{Note}
use Rattle.tool_files.specs.declared.program.Note.TheVariants.{Waiting, InPlace}

-- the line of a note on a path, after the name of the program
abbrev pub note_line : List ℕ → Note → List ℕ → List ℕ
note_line name Waiting path = name ++ codes ": waiting for " ++ word_form path ++ codes "\n"
note_line name InPlace path =
    name ++ codes ": cannot replace " ++ word_form path ++ codes ", writing it in place\n"
