-- How all runs of an image's variable or of a given text end, from the bytes of an image to the lines, and why this is
-- refused. The refusals come in the order of a rehearsal, and nothing is written before the lines. If the device list has
-- several alternatives and none is named, the lines are those of each in turn, each after a line that names it, and what
-- refuses one of them refuses all. Ours.
use Rattle.std.specs.Prelude.{◌≡◌, ◌<◌, ◌+◌, ℕ, Bool, List, length, Option, Some, None, Err}
use Rattle.output.specs.Sink.{Sink, Wrote, BrokeOff}
use Rattle.envimage.specs.declared.image.ByteOrder.{ByteOrder}
use Rattle.board_start.specs.Boards.{OfDevices, OfStart}
use Rattle.ubtool.specs.Beginning.{OfBoard, OfImage, beginning_of}
use Rattle.rehearse_terms.specs.Asking.{Asking}
use Rattle.board_start.specs.Boards.{ListRead}
use Rattle.rehearse_terms.specs.State.{Text}
use Rattle.rehearse_endings.specs.TellingEndings.{AreLines, HasMoreBytes, HasMoreStates, HasMoreSteps, names_of, source_of}
use Rattle.rehearse_endings.specs.declared.telling.EndingsAsk.{EndingsAsk}
use Rattle.rehearse_rules.specs.declared.rehearse_error.RehearseError.TheVariants.{DeviceList, NoSuchVariable, States, Steps, Bytes}
use Rattle.tool_words.specs.declared.ask.Taking.{Taking}
use Rattle.ubtool.specs.Given.{Given, all_runs, given}
use Rattle.ubtool.specs.Headline.{HasBoard}
use Rattle.ubtool.specs.Refusing.{HasImage}
use Rattle.ubtool.specs.Turns.{AreInTurn, named, turns_of}
use Rattle.ubtool.specs.declared.rehearsal_error.RehearsalError.{RehearsalError}
use Rattle.ubtool.specs.declared.rehearsal_error.RehearsalError.TheVariants.{Image, Rehearsal, Start, Write, Memory}

-- what is given: the text, if there is one, all runs of it or of the variable that is asked for, within the bounds, and
-- the variables by whose values runs are told apart
abbrev pub runs_by : EndingsAsk → Asking
runs_by ask = all_runs ask.name.now ask.bounds (names_of ask)

abbrev pub endings_given : ByteOrder → List ℕ → Option (List ℕ) → ListRead → (taking : Taking) → EndingsAsk → Given
endings_given order first second device_list taking ask =
    given order first second device_list taking (source_of ask).given (runs_by ask)

-- ---- one alternative

-- these are the lines, or the lines of the flow, with at most this many states
abbrev pub AreLinesOf : (flow : Bool) → (states bytes : ℕ) → Given → Text → Type 0
AreLinesOf flow states bytes g text = HasBoard g (λ asking found. AreLines asking.names flow states bytes found text)

-- the lines were written
abbrev pub TellsOne : Given → (flow : Bool) → (states bytes : ℕ) → (old new : Sink) → Type 0
TellsOne g flow states bytes old new = (text : Text) × AreLinesOf flow states bytes g text × Wrote old new text

-- why there are none, with at most so many steps in all, and so many bytes
abbrev pub WhyNoLines : (states work bytes : ℕ) → Given → RehearsalError → Type 0
WhyNoLines states work bytes g (Image fault) = beginning_of g ≡ Err (OfImage fault)
WhyNoLines states work bytes g (Rehearsal (DeviceList fault)) = beginning_of g ≡ Err (OfBoard (OfDevices fault))
WhyNoLines states work bytes g (Start fault) = beginning_of g ≡ Err (OfBoard (OfStart fault))
WhyNoLines states work bytes g (Rehearsal NoSuchVariable) = HasBoard g (λ asking found. found ≡ None)
WhyNoLines states work bytes g (Rehearsal States) = HasBoard g (λ asking found. HasMoreStates asking.names states found)
WhyNoLines states work bytes g (Rehearsal (Steps count)) = HasBoard g (λ asking found. HasMoreSteps asking.names count work found)
WhyNoLines states work bytes g (Rehearsal (Bytes count)) = HasBoard g (λ asking found. HasMoreBytes asking.names count bytes found)
WhyNoLines states work bytes g _ = ⊥

abbrev pub RefusesOne : Given → (flow : Bool) → (states work bytes : ℕ) → (old new : Sink) → RehearsalError → Type 0
RefusesOne g flow states work bytes old new Write = (text : Text) × AreLinesOf flow states bytes g text × BrokeOff old new text
RefusesOne g flow states work bytes old new Memory = HasImage g × (new ≡ old)
RefusesOne g flow states work bytes old new error = WhyNoLines states work bytes g error × (new ≡ old)

-- the same without an output; memory may run out before that is known
abbrev pub LacksLines : (states work bytes : ℕ) → Given → RehearsalError → Type 0
LacksLines states work bytes g Memory = Unit {0}
LacksLines states work bytes g error = WhyNoLines states work bytes g error

-- ---- so many alternatives

abbrev pub AreInOrder : Given → (flow : Bool) → (states bytes count : ℕ) → (parts : List Text) → Text → Type 0
AreInOrder g flow states bytes count parts text = AreInTurn (AreLinesOf flow states bytes) (λ part. part) g count parts text

-- the lines of each
abbrev pub AreAllLines : Given → (flow : Bool) → (states bytes count : ℕ) → Text → Type 0
AreAllLines g flow states bytes count text = (parts : List Text) × AreInOrder g flow states bytes count parts text

-- one of them has none, and those before it have these
pub record LacksTurn (g : Given) (flow : Bool) (states work bytes count : ℕ) (error : RehearsalError) : Type 0 where
  pub parts : List Text
  pub text : Text
  pub before : AreInOrder g flow states bytes (length parts) parts text
  pub within : length parts < count
  pub lacks : WhyNoLines states work bytes (named g (length parts + 1)) error

abbrev pub RefusesTurn : Given → (flow : Bool) → (states work bytes count : ℕ) → RehearsalError → Type 0
RefusesTurn g flow states work bytes count Memory = Unit {0}
RefusesTurn g flow states work bytes count error = LacksTurn g flow states work bytes count error

abbrev pub TellsTurns : Given → (flow : Bool) → (states bytes count : ℕ) → (old new : Sink) → Type 0
TellsTurns g flow states bytes count old new = (text : Text) × AreAllLines g flow states bytes count text × Wrote old new text

abbrev pub RefusesTurns : Given → (flow : Bool) → (states work bytes count : ℕ) → (old new : Sink) → RehearsalError → Type 0
RefusesTurns g flow states work bytes count old new Write =
    (text : Text) × AreAllLines g flow states bytes count text × BrokeOff old new text
RefusesTurns g flow states work bytes count old new Memory = HasImage g × (new ≡ old)
RefusesTurns g flow states work bytes count old new error = LacksTurn g flow states work bytes count error × (new ≡ old)

-- ---- all that is given

abbrev pub TellsBy : Given → (flow : Bool) → (states bytes : ℕ) → (turns : Option ℕ) → (old new : Sink) → Type 0
TellsBy g flow states bytes None old new = TellsOne g flow states bytes old new
TellsBy g flow states bytes (Some count) old new = TellsTurns g flow states bytes count old new

abbrev pub RefusesBy : Given → (flow : Bool) → (states work bytes : ℕ) → (turns : Option ℕ) → (old new : Sink) → RehearsalError → Type 0
RefusesBy g flow states work bytes None old new error = RefusesOne g flow states work bytes old new error
RefusesBy g flow states work bytes (Some count) old new error = RefusesTurns g flow states work bytes count old new error

-- the lines were written
abbrev pub TellsEndings : Given → (flow : Bool) → (states bytes : ℕ) → (old new : Sink) → Type 0
TellsEndings g flow states bytes old new = TellsBy g flow states bytes (turns_of (beginning_of g)) old new

abbrev pub RefusesEndings : Given → (flow : Bool) → (states work bytes : ℕ) → (old new : Sink) → RehearsalError → Type 0
RefusesEndings g flow states work bytes old new error = RefusesBy g flow states work bytes (turns_of (beginning_of g)) old new error
