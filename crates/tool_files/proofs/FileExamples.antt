-- Worked cases, computed.
use Rattle.std.proofs.Common.{◌≡◌, refl, [], ◌∷◌, None, Some, Ok, Err, codes, false, true}
use Rattle.std.specs.declared.fs.File.{File}
use Rattle.tool_files.specs.CallOrder.{is_read}
use Rattle.tool_files.specs.MachineShown.{is_taken}
use Rattle.tool_files.specs.MemoryFiles.{create_answer}
use Rattle.tool_files.specs.declared.files.Action.TheVariants.{Create}
use Rattle.tool_files.specs.declared.files.FileFault.TheVariants.{Failed}
use Rattle.tool_files.specs.Notes.{note_line}
use Rattle.tool_files.specs.declared.lock.Lock.TheVariants.{Held, Missing, NotTaken}
use Rattle.tool_files.specs.declared.program.Note.TheVariants.{InPlace, Waiting}
use Rattle.tool_files.specs.Told.{file_at, made, overwritten, written}

over_the_end : overwritten (codes "0123456789") 8 (codes "ab") ≡ codes "01234567ab"
over_the_end = refl

second_of_a_pair : written (codes "e") 2 (codes "xy") ((codes "d", codes "1234") ∷ (codes "e", codes "5678") ∷ [])
    ≡ (codes "d", codes "1234") ∷ (codes "e", codes "56xy") ∷ []
second_of_a_pair = refl

no_such_file : file_at (codes "f") ((codes "d", codes "1234") ∷ []) ≡ None
no_such_file = refl

-- a file that is made
one_more : made (codes "e") (codes "56") ((codes "d", codes "1234") ∷ []) ≡ (codes "d", codes "1234") ∷ (codes "e", codes "56") ∷ []
one_more = refl

-- no file is written over
is_there_already : made (codes "d") (codes "56") ((codes "d", codes "1234") ∷ []) ≡ (codes "d", codes "1234") ∷ []
is_there_already = refl

made_new : create_answer false None ≡ Ok true
made_new = refl

found_there : create_answer false (Some (codes "1234")) ≡ Ok false
found_there = refl

fails_making : create_answer true None ≡ Err Failed
fails_making = refl

-- a file that is made is no read
no_read : is_read (Create 2) ≡ false
no_read = refl

-- the lock of the machine's files: not asked for, held, and without a folder
not_asked_for : is_taken NotTaken ≡ false
not_asked_for = refl

held : (file : File) → is_taken (Held file) ≡ true
held file = refl

without_a_folder : is_taken Missing ≡ true
without_a_folder = refl

-- what a program says of a call that goes on
waits : note_line (codes "fw_setenv") Waiting (codes "/var/lock/fw_printenv.lock")
    ≡ codes "fw_setenv: waiting for /var/lock/fw_printenv.lock\n"
waits = refl

in_place : note_line (codes "ubtool") InPlace (codes "a\nb")
    ≡ codes "ubtool: cannot replace a\\nb, writing it in place\n"
in_place = refl
