-- Inspecting what was read.
use Rattle.std.proofs.Common.{◌≡◌, Bool, refl, subst, Ok, Err}
use Rattle.std.specs.Prelude.{Result}
use Rattle.envimage.specs.declared.image.ByteOrder.{ByteOrder}
use Rattle.inspecting.specs.Inspecting.{Inspects}
use Rattle.inspecting.specs.Report.{CopiesShown}
use Rattle.output.specs.Sink.{Sink}
use Rattle.tool_files.specs.Told.{Told}
use Rattle.tool_images.specs.Errors.{tool_fault}
use Rattle.tool_images.specs.declared.error.ToolError.{ToolError}
use Rattle.tool_images.specs.declared.error.ToolError.TheVariants as error
use Rattle.tool_images.specs.declared.fault.Fault.{Fault}
use Rattle.tool_images.specs.declared.fault.Fault.TheVariants.{Memory, Tool}
use Rattle.tool_steps.proofs.OriginLemmas.{origin-reads}
use Rattle.tool_steps.specs.Faults.{IsReadFault}
use Rattle.tool_steps.specs.Images.{copies}
use Rattle.tool_steps.specs.Origins.{ReadsOrigin}
use Rattle.tool_steps.specs.declared.images.Images.{Images}
use Rattle.tool_words.specs.Asked.{OriginShown}
use Rattle.ubtool.specs.InspectingFiles.{InspectsFrom, inspected}

-- a read is refused
pub unread : (order : ByteOrder) (origin : OriginShown) (out : Sink) (old new : Told) (f : Fault) → IsReadFault f → ReadsOrigin origin old new (Err f) → InspectsFrom order origin out out old new (Err f)
unread order origin out old new Memory r h = (h.0, refl)
unread order origin out old new (Tool error) r h = absurd r
unread order origin out old new f r h = (h.0, h.1, refl)

module _ (order : ByteOrder) (origin : OriginShown) (images : Images) (out out' : Sink) (shown : CopiesShown) (is : shown ≡ inspected (copies images)) (old new : Told) (read : ReadsOrigin origin old new (Ok images)) where
  on : (r : Result Bool ToolError) → Inspects order shown out out' r → Inspects order (inspected (copies images)) out out' r
  on r h = subst (λ (s : CopiesShown). Inspects order s out out' r) is h

  -- the report was written
  pub reported : (readable : Bool) → Inspects order shown out out' (Ok readable) → InspectsFrom order origin out out' old new (Ok readable)
  reported readable h = record { found = copies images; read = read; so = on (Ok readable) h }

  -- or refused
  pub unreported : (e : ToolError) → Inspects order shown out out' (Err e) → InspectsFrom order origin out out' old new (Err (tool_fault e))
  unreported error.Memory h = (origin-reads origin old new (copies images) read, h)
  unreported (error.Image e) h = record { found = copies images; read = read; so = on (Err (error.Image e)) h }
  unreported (error.Env e) h = absurd h
  unreported (error.Script e) h = absurd h
  unreported error.Write h = record { found = copies images; read = read; so = on (Err error.Write) h }
