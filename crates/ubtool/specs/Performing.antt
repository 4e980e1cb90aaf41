-- What is done for what is asked, on files whose contents are known. The subcommands follow fw_printenv and fw_setenv
-- (U-Boot, tools/env README). The rehearsal is ours.
use Rattle.std.specs.Prelude.{◌≡◌, ◌⊎◌, ℕ, Bool, true, false, List, codes, length, map, Option, Result, Ok, Err, string_bytes}
use Rattle.envimage.specs.declared.image.ByteOrder.{ByteOrder}
use Rattle.tool_words.specs.declared.ask.Ask.{Ask}
use Rattle.tool_words.specs.declared.ask.Ask.TheVariants.{Boots, Causes, Endings, Help, Image, Inspect, Print, Rehearse, Setenv, Version}
use Rattle.tool_words.specs.declared.ask.Change.{Change}
use Rattle.tool_words.specs.declared.ask.ImageAsk.{ImageAsk}
use Rattle.tool_words.specs.declared.ask.Origin.{Origin}
use Rattle.tool_words.specs.CommandAnswers.{inputs_shown, origin_shown}
use Rattle.output.specs.Outputs.{Outputs}
use Rattle.output.specs.Sink.{Sink}
use Rattle.tool_files.specs.Told.{IfTold, Told}
use Rattle.tool_images.specs.declared.fault.Fault.{Fault}
use Rattle.tool_images.specs.declared.fault.Fault.TheVariants.{Lock}
use Rattle.tool_files.specs.declared.files.LockFault.{LockFault}
use Rattle.tool_steps.specs.Running.{FilesShown}
use Rattle.ubtool.specs.Locking.{LocksFor}
use Rattle.tool_steps.specs.Builds.{version_line}
use Rattle.tool_steps.specs.Showing.{Shows}
use Rattle.tool_steps.specs.declared.build.Build.{Build}
use Rattle.ubtool.specs.BootsOfFiles.{TellsBootsFrom}
use Rattle.ubtool.specs.CausesOfFiles.{TellsCausesFrom}
use Rattle.ubtool.specs.EndingsOfFiles.{TellsFrom}
use Rattle.tool_steps.specs.PrintingFiles.{LeavesOutputs, PrintsFrom}
use Rattle.ubtool.specs.InspectingFiles.{InspectsFrom, LeavesReport}
use Rattle.ubtool.specs.RehearsingFiles.{LeavesOutput, RehearsesFrom}
use Rattle.tool_images.specs.declared.new_image.Layout.{Layout}
use Rattle.tool_steps.specs.ChangingFiles.{Sets}
use Rattle.tool_steps.specs.NewImageFiles.{Makes}
use Rattle.tool_steps.specs.Faults.{CountsReads}
use Rattle.ubtool.specs.Faults.{CountsShared, IsShared}
use Rattle.ubtool.specs.declared.fault.ProgramFault.{ProgramFault}
use Rattle.tool_steps.specs.Notes.{TellsNotes}
use Rattle.tool_steps.specs.declared.one_copy.ImageSource.{ImageSource}

-- a value without its name is asked for only with one name
abbrev pub IsComplete : Ask → Type 0
IsComplete (Print origin what order one_copy) = what.form.header ≡ false → length what.names.items ≡ 1
IsComplete ask = Unit {0}

-- the images that are meant, and how they are read
abbrev pub source_of : Origin → ByteOrder → (one_copy : Bool) → ImageSource
source_of origin order one_copy = record { origin = origin; order = order; one_copy = one_copy }

-- The lock is refused: no file was read or written, and nothing was reported before.
pub record IsUnlocked (fault : Fault) (err err' : Sink) (old new : Told) : Type 0 where
  pub refused : LockFault
  pub is : fault ≡ Lock refused
  pub untouched : new ≡ old
  pub quiet : err' ≡ err

-- a change was made, which is all that the answer says; or it was refused, perhaps by the lock
abbrev pub SetsOf : (program : List ℕ) → (input : Option (List ℕ)) → ImageSource → Change → (err err' : Sink) → Told →
    Told → Result Bool Fault → Type 0
SetsOf program input source change err err' old new (Ok all) =
    (all ≡ true) × Sets program input source change err err' old new (Ok tt)
SetsOf program input source change err err' old new (Err fault) =
    Sets program input source change err err' old new (Err fault) ⊎ IsUnlocked fault err err' old new

-- how a new image is to be laid out
abbrev pub layout_of : ImageAsk → Layout
layout_of what = record { size = what.size; redundant = what.redundant; order = what.order; fill = what.fill }

-- a new image was made, which is all that the answer says; or it was refused
abbrev pub MakesOf : (text output : List ℕ) → Layout → Told → Told → Result Bool Fault → Type 0
MakesOf text output layout old new (Ok all) = (all ≡ true) × Makes text output layout old new (Ok tt)
MakesOf text output layout old new (Err fault) = Makes text output layout old new (Err fault)

-- the count of failures of the device: one more than the answer says, if one copy of a pair is enough and one is lost
abbrev pub Counts : Ask → ℕ → ℕ → Result Bool ProgramFault → Type 0
Counts (Print origin what order one_copy) old new result = IsShared (CountsReads one_copy old new) result
Counts (Setenv origin change order one_copy) old new result = IsShared (CountsReads one_copy old new) result
Counts ask old new result = CountsShared old new result

-- what the files show afterwards: the failures that are counted, and the lock
abbrev pub Leaves : Ask → Result Bool ProgramFault → FilesShown → FilesShown → Type 0
Leaves ask result before after =
    Counts ask before.faults after.faults result × LocksFor ask result before after

-- What a program of this name and build does for it, with an input of these bytes, if they are known, with the files
-- before and after, and on the outputs.
abbrev pub Does : (program : List ℕ) → Build → (input : Option (List ℕ)) → Ask → Option Told → Option Told → Outputs →
    Result Bool ProgramFault → Type 0
Does program build input (Print origin what order one_copy) before after outputs result = IsShared (λ answer.
    IfTold before after (λ old new. PrintsFrom program (source_of origin order one_copy)
    (map string_bytes what.names.items) what.form outputs old new answer)
    × LeavesOutputs program one_copy answer outputs)
    result
Does program build input (Setenv origin change order one_copy) before after outputs result = IsShared (λ answer.
    IfTold before after (λ old new.
    SetsOf program input (source_of origin order one_copy) change outputs.err outputs.err' old new answer)
    × (outputs.out' ≡ outputs.out)
    × TellsNotes program one_copy answer outputs.err outputs.err')
    result
Does program build input (Rehearse inputs what order) before after outputs result =
    IfTold before after (λ old new.
    RehearsesFrom order (inputs_shown inputs) what outputs.out outputs.out' old new result)
    × LeavesOutput result outputs.out outputs.out'
    × (outputs.err' ≡ outputs.err)
Does program build input (Endings inputs what order) before after outputs result =
    IfTold before after (λ old new.
    TellsFrom order (inputs_shown inputs) what outputs.out outputs.out' old new result)
    × LeavesOutput result outputs.out outputs.out'
    × (outputs.err' ≡ outputs.err)
Does program build input (Boots inputs what order) before after outputs result =
    IfTold before after (λ old new.
    TellsBootsFrom order (inputs_shown inputs) what outputs.out outputs.out' old new result)
    × LeavesOutput result outputs.out outputs.out'
    × (outputs.err' ≡ outputs.err)
Does program build input (Causes inputs what order) before after outputs result =
    IfTold before after (λ old new.
    TellsCausesFrom order (inputs_shown inputs) what outputs.out outputs.out' old new result)
    × LeavesOutput result outputs.out outputs.out'
    × (outputs.err' ≡ outputs.err)
Does program build input (Image text output what) before after outputs result =
    IsShared (λ answer. IfTold before after (λ old new.
    MakesOf (string_bytes text) (string_bytes output) (layout_of what) old new answer)
    × (outputs.out' ≡ outputs.out)
    × (outputs.err' ≡ outputs.err))
    result
Does program build input (Inspect origin order) before after outputs result =
    IsShared (λ answer. IfTold before after (λ old new.
    InspectsFrom order (origin_shown origin) outputs.out outputs.out' old new answer)
    × LeavesReport answer outputs.out outputs.out'
    × (outputs.err' ≡ outputs.err))
    result
Does program build input (Help text) before after outputs result =
    IsShared (Shows (string_bytes text) before after outputs) result
Does program build input Version before after outputs result =
    IsShared (Shows (version_line (codes "ubtool") build) before after outputs) result
