-- A text is read, its image is made, and then a file of it.
use Rattle.std.proofs.Common.{ℕ, refl, List, Ok, Err}
use Rattle.std.specs.Prelude.{Result}
use Rattle.tool_files.proofs.OrderLemmas.{OnlyReads-one, OnlyReads-then}
use Rattle.tool_files.specs.Told.{Told, file_at}
use Rattle.tool_files.specs.declared.files.Action.TheVariants.{ReadAll}
use Rattle.tool_images.specs.NewImages.{IsImageOfText}
use Rattle.tool_images.specs.declared.fault.Fault.{Fault}
use Rattle.tool_images.specs.declared.fault.Fault.TheVariants as fault
use Rattle.tool_images.specs.declared.new_image.Layout.{Layout}
use Rattle.tool_steps.specs.NewImageFiles.{CreatesFile, Makes}
use Rattle.tool_steps.specs.ReadingFiles.{Reads}

pub then-created : (text output : List ℕ) (layout : Layout) (lines image : List ℕ) (a b c : Told) (r : Result (Unit {0}) Fault)
    → Reads (text, ReadAll) (file_at text a.stored) a b lines → IsImageOfText layout lines image → CreatesFile output image b c r → Makes text output layout a c r
then-created text output layout lines image a b c (Ok done) read made h = record { lines = lines; image = image; after_text = b; read = read; made = made; created = h }
then-created text output layout lines image a b c (Err (fault.Exists told)) read made h = (h.0, record { lines = lines; image = image; after_text = b; read = read; made = made; created = h.1 })
then-created text output layout lines image a b c (Err (fault.CannotWrite told)) read made h = (h.0, record { lines = lines; image = image; after_text = b; read = read; made = made; created = h.1 })
then-created text output layout lines image a b c (Err fault.Memory) read made h = (OnlyReads-then a b c (OnlyReads-one text ReadAll a b refl read.calls read.stored) h, tt)
then-created text output layout lines image a b c (Err f) read made h = absurd h
