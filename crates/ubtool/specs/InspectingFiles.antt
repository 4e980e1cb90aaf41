-- What inspecting images does, from files whose contents are known. The order of work is ours.
use Rattle.std.specs.Prelude.{◌≡◌, Bool, List, [], ◌∷◌, Result, Ok, Err}
use Rattle.envimage.specs.declared.image.ByteOrder.{ByteOrder}
use Rattle.inspecting.specs.Inspecting.{Inspects}
use Rattle.inspecting.specs.Report.{CopiesShown, CopyShown, pair, single}
use Rattle.output.specs.Sink.{Sink, counted}
use Rattle.tool_files.specs.CallOrder.{OnlyReads}
use Rattle.tool_files.specs.Told.{Told}
use Rattle.tool_images.specs.declared.error.ToolError.TheVariants.{Write}
use Rattle.tool_images.specs.declared.fault.Fault.{Fault}
use Rattle.tool_images.specs.declared.fault.Fault.TheVariants.{Memory, Tool}
use Rattle.tool_steps.specs.Images.{Copy}
use Rattle.tool_steps.specs.Origins.{HasReadImages, IsOriginFault}
use Rattle.tool_words.specs.Asked.{OriginShown}

-- a copy with its place, as it is inspected
abbrev pub held : Copy → CopyShown
held copy = record { path = copy.0.device; offset = copy.0.offset; bytes = copy.1 }

-- the copies that were read: there is one, or there are two
abbrev pub inspected : List Copy → CopiesShown
inspected [] = single (record { path = []; offset = 0; bytes = [] })
inspected (first ∷ []) = single (held first)
inspected (first ∷ second ∷ more) = pair (held first) (held second)

-- The images were read, and this holds of them.
pub record FromOrigin (origin : OriginShown) (old new : Told) (IsSo : CopiesShown → Type 0) : Type 0 where
  pub found : List Copy
  pub read : HasReadImages origin old new found
  pub so : IsSo (inspected found)

-- The images were read, and the report was written, or refused; or a read is refused, and files were only read. If memory
-- runs out, nothing is written.
abbrev pub InspectsFrom : ByteOrder → OriginShown → (out out' : Sink) → (old new : Told) → Result Bool Fault → Type 0
InspectsFrom order origin out out' old new (Ok readable) =
    FromOrigin origin old new (λ copies. Inspects order copies out out' (Ok readable))
InspectsFrom order origin out out' old new (Err Memory) = OnlyReads old new × (out' ≡ out)
InspectsFrom order origin out out' old new (Err (Tool error)) =
    FromOrigin origin old new (λ copies. Inspects order copies out out' (Err error))
InspectsFrom order origin out out' old new (Err fault) =
    OnlyReads old new × IsOriginFault origin old.stored fault × (out' ≡ out)

-- over any files: a reported failure of the output is counted, and any other refusal leaves the output as it was
abbrev pub LeavesReport : Result Bool Fault → (old new : Sink) → Type 0
LeavesReport (Ok readable) old new = new.failures ≡ old.failures
LeavesReport (Err (Tool Write)) old new = new.failures ≡ counted old.failures
LeavesReport (Err fault) old new = new ≡ old
