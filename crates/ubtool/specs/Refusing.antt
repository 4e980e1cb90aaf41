-- Why a rehearsal is refused, and what is written then. The order of the refusals is ours: the image, the device list, with
-- what it says of the start, the variable if no text is given, the word. Each is checked only if those before it are right. Nothing is written
-- before the listing.
use Rattle.std.specs.Prelude.{◌≡◌, ◌⊎◌, List, None, Ok, Err}
use Rattle.envimage.specs.Data.{Pair}
use Rattle.output.specs.Sink.{Sink}
use Rattle.board_start.specs.Boards.{OfDevices, OfStart}
use Rattle.ubtool.specs.Beginning.{OfBoard, OfImage, beginning_of}
use Rattle.rehearse_runs.specs.RehearsedEnvironment.{LacksRun}
use Rattle.rehearse_rules.specs.declared.rehearse_error.RehearseError.TheVariants.{DeviceList, NoSuchVariable, NotARun}
use Rattle.ubtool.specs.Given.{Given}
use Rattle.ubtool.specs.Headline.{HasBoard, LeavesRecords, LeavesPrefix}
use Rattle.tool_images.specs.PrintingImages.{environment_in}
use Rattle.ubtool.specs.declared.rehearsal_error.RehearsalError.{RehearsalError}
use Rattle.ubtool.specs.declared.rehearsal_error.RehearsalError.TheVariants.{Image, Rehearsal, Start, Write, Memory}

-- the image is right
pub record HasImage (g : Given) : Type 0 where
  pub environment : List Pair
  pub image : environment_in g.order g.first g.second ≡ Ok environment

abbrev pub Refuses : Given → (old new : Sink) → RehearsalError → Type 0
Refuses g old new (Image fault) = (beginning_of g ≡ Err (OfImage fault)) × (new ≡ old)
Refuses g old new (Rehearsal (DeviceList fault)) = (beginning_of g ≡ Err (OfBoard (OfDevices fault))) × (new ≡ old)
Refuses g old new (Start fault) = (beginning_of g ≡ Err (OfBoard (OfStart fault))) × (new ≡ old)
Refuses g old new (Rehearsal NoSuchVariable) = HasBoard g (λ asking found. found ≡ None) × (new ≡ old)
Refuses g old new (Rehearsal NotARun) =
    HasBoard g (λ asking found. LacksRun found asking.wanted) × (new ≡ old)
Refuses g old new Write = LeavesPrefix g old new
Refuses g old new Memory = (HasImage g × (new ≡ old)) ⊎ LeavesRecords g old new
Refuses g old new _ = ⊥
