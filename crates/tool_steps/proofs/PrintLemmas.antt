-- Printing what was read.
use Rattle.std.proofs.Common.{◌≡◌, ℕ, Bool, List, Option, Some, None, Ok, Err, inl, inr, refl}
use Rattle.std.specs.Prelude.{Result, option_map}
use Rattle.envimage.specs.declared.image.ByteOrder.{ByteOrder}
use Rattle.envtools.specs.declared.print_form.PrintForm.{PrintForm}
use Rattle.tool_images.specs.Errors.{tool_fault}
use Rattle.tool_images.specs.PrintingImages.{Prints}
use Rattle.output.specs.Outputs.{AreUnchanged, Outputs}
use Rattle.output.specs.Sink.{Sink}
use Rattle.tool_files.specs.Told.{Told}
use Rattle.tool_images.specs.declared.error.ToolError.{ToolError}
use Rattle.tool_images.specs.declared.error.ToolError.TheVariants.{Image, Env, Script, Write, Memory}
use Rattle.tool_images.specs.declared.fault.Fault.{Fault}
use Rattle.tool_steps.specs.Images.{Copy, copies}
use Rattle.tool_steps.specs.OneCopy.{FindsImages}
use Rattle.tool_steps.specs.PrintingFiles.{PrintsCopies, PrintsFrom, environment, second_bytes}
use Rattle.tool_steps.specs.declared.images.Images.{Images}
use Rattle.tool_steps.specs.declared.one_copy.ImageSource.{ImageSource}
use Rattle.tool_steps.specs.declared.read.StoredCopy.{StoredCopy}

-- a refusal of printing, reported as a fault
pub copies-refused : (order : ByteOrder) (found : List Copy) (names : List (List ℕ)) (form : PrintForm) (outputs : Outputs) (error : ToolError)
    → Prints (environment order found) names form outputs (Err error) → PrintsCopies order found names form outputs (Err (tool_fault error))
copies-refused order found names form outputs (Image error) h = h
copies-refused order found names form outputs Write h = h
copies-refused order found names form outputs Memory h = h.1
copies-refused order found names form outputs (Env error) h = absurd h
copies-refused order found names form outputs (Script error) h = absurd h

-- images that were refused
pub prints-unread : (program : List ℕ) (source : ImageSource) (names : List (List ℕ)) (form : PrintForm) (s : Outputs) (old new : Told) (f : Fault)
    → FindsImages program source s.err s.err' old new (Err f) → AreUnchanged s → PrintsFrom program source names form s old new (Err f)
prints-unread program source names form s old new f h same = inr (h.0, h.1, same)

-- what reading and then printing did
pub prints-read : (program : List ℕ) (source : ImageSource) (names : List (List ℕ)) (form : PrintForm) (s : Outputs) (noted : Sink) (old new : Told) (images : Images) (r : Result Bool Fault)
    → FindsImages program source s.err noted old new (Ok images) → PrintsCopies source.order (copies images) names form (record s { err = noted }) r
    → PrintsFrom program source names form s old new r
prints-read program source names form s noted old new images r read h = inl (record { found = copies images; noted = noted; read = read; so = h })

-- the bytes of the images that were read
pub image-bytes : (images : Images) → second_bytes (copies images) ≡ option_map (λ copy. copy.bytes.items) images.second
image-bytes images = by images.first images.second
  where
    by : (x : StoredCopy) (y : Option StoredCopy) → second_bytes (copies (record { first = x; second = y })) ≡ option_map (λ copy. copy.bytes.items) y
    by x None = refl
    by x (Some y) = refl
