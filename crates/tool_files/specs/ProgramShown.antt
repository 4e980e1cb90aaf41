-- What contracts see of the program that uses the machine's files.
use Rattle.std.specs.Prelude.{ℕ, List}
use Rattle.tool_files.specs.declared.program.Program.{Program}

-- its name
abbrev pub name_of : {W : Type 0} → Program W → List ℕ
name_of p = p.name.now

-- the number of its process
abbrev pub process_of : {W : Type 0} → Program W → ℕ
process_of p = p.process

-- where its notes go
abbrev pub notes_of : {W : Type 0} → Program W → W
notes_of p = p.notes
