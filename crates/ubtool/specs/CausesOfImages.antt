-- What has to fail for each ending of an image's variable or of a given text, from the bytes of an image to the lines, and why this is
-- refused. The refusals come in the order of a rehearsal, and nothing is written before the lines. If the device list has
-- several alternatives and none is named, the lines are those of each in turn, each after a line that names it, and what
-- refuses one of them refuses all. Ours.
use Rattle.std.specs.Prelude.{◌≡◌, ◌<◌, ◌+◌, ℕ, Bool, List, [], length, Option, Some, None, Err}
use Rattle.std.specs.List.{list_all}
use Rattle.output.specs.Sink.{Sink, Wrote, BrokeOff}
use Rattle.envimage.specs.declared.image.ByteOrder.{ByteOrder}
use Rattle.board_start.specs.Boards.{OfDevices, OfStart}
use Rattle.ubtool.specs.Beginning.{OfBoard, OfImage, beginning_of}
use Rattle.rehearse_terms.specs.Asking.{Asking}
use Rattle.board_start.specs.Boards.{ListRead}
use Rattle.rehearse_terms.specs.State.{Text}
use Rattle.rehearse_causes.specs.CauseLines.{causes_text, is_fine}
use Rattle.rehearse_causes.specs.TellingCauses.{WithCauses, source_of}
use Rattle.rehearse_causes.specs.declared.telling.CausesAsk.{CausesAsk}
use Rattle.rehearse_rules.specs.declared.rehearse_error.RehearseError.TheVariants.{DeviceList, NoSuchVariable}
use Rattle.tool_words.specs.declared.ask.Taking.{Taking}
use Rattle.ubtool.specs.Given.{Given, all_runs, given}
use Rattle.ubtool.specs.Headline.{HasBoard}
use Rattle.ubtool.specs.Refusing.{HasImage}
use Rattle.ubtool.specs.Turns.{AreInTurn, named, turns_of}
use Rattle.ubtool.specs.declared.rehearsal_error.RehearsalError.{RehearsalError}
use Rattle.ubtool.specs.declared.rehearsal_error.RehearsalError.TheVariants.{Image, Rehearsal, Start, Write, Memory}

-- what is given: the text, if there is one, and the runs of it or of the variable that is asked for, within the bounds
abbrev pub runs_by : CausesAsk → Asking
runs_by ask = all_runs ask.name.now ask.bounds []

abbrev pub causes_given : ByteOrder → List ℕ → Option (List ℕ) → ListRead → (taking : Taking) → CausesAsk → Given
causes_given order first second device_list taking ask =
    given order first second device_list taking (source_of ask).given (runs_by ask)

-- ---- one alternative

-- the lines of its causes, or of those that do not boot, and whether all is well
abbrev pub Part : Type 0
Part = Text × Bool

-- the image and the device list are right, there is a text, and these are the lines
abbrev pub AreCausesOf : (check : Bool) → Given → Part → Type 0
AreCausesOf check g part =
    HasBoard g (λ asking found. WithCauses found check (λ told. (part.0 ≡ causes_text told) × (part.1 ≡ is_fine check told)))

-- the lines were written, and the answer says whether all is well
abbrev pub TellsOne : Given → (check : Bool) → (old new : Sink) → (fine : Bool) → Type 0
TellsOne g check old new fine = (text : Text) × AreCausesOf check g (text, fine) × Wrote old new text

-- why there are none
abbrev pub WhyNoCauses : Given → RehearsalError → Type 0
WhyNoCauses g (Image fault) = beginning_of g ≡ Err (OfImage fault)
WhyNoCauses g (Rehearsal (DeviceList fault)) = beginning_of g ≡ Err (OfBoard (OfDevices fault))
WhyNoCauses g (Start fault) = beginning_of g ≡ Err (OfBoard (OfStart fault))
WhyNoCauses g (Rehearsal NoSuchVariable) = HasBoard g (λ asking found. found ≡ None)
WhyNoCauses g _ = ⊥

abbrev pub RefusesOne : Given → (check : Bool) → (old new : Sink) → RehearsalError → Type 0
RefusesOne g check old new Write = (part : Part) × AreCausesOf check g part × BrokeOff old new part.0
RefusesOne g check old new Memory = HasImage g × (new ≡ old)
RefusesOne g check old new error = WhyNoCauses g error × (new ≡ old)

-- the same without an output; memory may run out before that is known
abbrev pub LacksCauses : Given → RehearsalError → Type 0
LacksCauses g Memory = Unit {0}
LacksCauses g error = WhyNoCauses g error

-- ---- so many alternatives

abbrev pub AreInOrder : Given → (check : Bool) → (count : ℕ) → (parts : List Part) → Text → Type 0
AreInOrder g check count parts text = AreInTurn (AreCausesOf check) (λ part. part.0) g count parts text

-- the lines of each; all is well if it is with each
abbrev pub AreAllCauses : Given → (check : Bool) → (count : ℕ) → Part → Type 0
AreAllCauses g check count all =
    (parts : List Part) × AreInOrder g check count parts all.0 × (all.1 ≡ list_all (λ part. part.1) parts)

-- one of them has none, and those before it have these
pub record LacksTurn (g : Given) (check : Bool) (count : ℕ) (error : RehearsalError) : Type 0 where
  pub parts : List Part
  pub text : Text
  pub before : AreInOrder g check (length parts) parts text
  pub within : length parts < count
  pub lacks : WhyNoCauses (named g (length parts + 1)) error

abbrev pub RefusesTurn : Given → (check : Bool) → (count : ℕ) → RehearsalError → Type 0
RefusesTurn g check count Memory = Unit {0}
RefusesTurn g check count error = LacksTurn g check count error

abbrev pub TellsTurns : Given → (check : Bool) → (count : ℕ) → (old new : Sink) → (fine : Bool) → Type 0
TellsTurns g check count old new fine = (text : Text) × AreAllCauses g check count (text, fine) × Wrote old new text

abbrev pub RefusesTurns : Given → (check : Bool) → (count : ℕ) → (old new : Sink) → RehearsalError → Type 0
RefusesTurns g check count old new Write = (all : Part) × AreAllCauses g check count all × BrokeOff old new all.0
RefusesTurns g check count old new Memory = HasImage g × (new ≡ old)
RefusesTurns g check count old new error = LacksTurn g check count error × (new ≡ old)

-- ---- all that is given

abbrev pub TellsBy : Given → (check : Bool) → (turns : Option ℕ) → (old new : Sink) → (fine : Bool) → Type 0
TellsBy g check None old new fine = TellsOne g check old new fine
TellsBy g check (Some count) old new fine = TellsTurns g check count old new fine

abbrev pub RefusesBy : Given → (check : Bool) → (turns : Option ℕ) → (old new : Sink) → RehearsalError → Type 0
RefusesBy g check None old new error = RefusesOne g check old new error
RefusesBy g check (Some count) old new error = RefusesTurns g check count old new error

-- the lines were written, and the answer says whether all is well
abbrev pub TellsCauses : Given → (check : Bool) → (old new : Sink) → (fine : Bool) → Type 0
TellsCauses g check old new fine = TellsBy g check (turns_of (beginning_of g)) old new fine

abbrev pub RefusesCauses : Given → (check : Bool) → (old new : Sink) → RehearsalError → Type 0
RefusesCauses g check old new error = RefusesBy g check (turns_of (beginning_of g)) old new error
