-- How the boots of a board follow one another, from the bytes of an image to the lines, and why this is refused. The image
-- comes first in the order of the refusals, and nothing is written before the lines. A list with several alternatives is
-- refused if none is named: they are not gone through in turn. Ours.
use Rattle.std.specs.Prelude.{◌≡◌, ℕ, Bool, List, map, Option, option_map, Ok, Err}
use Rattle.output.specs.Sink.{Sink}
use Rattle.board_start.specs.Boards.{ListRead}
use Rattle.board_start.specs.declared.board_error.BoardError.TheVariants as board
use Rattle.envimage.specs.Data.{Pair}
use Rattle.envimage.specs.declared.image.ByteOrder.{ByteOrder}
use Rattle.rehearse_boots.specs.Boots.{Asked, Expected, StartOf}
use Rattle.rehearse_boots.specs.BootsShown.{expected_shown}
use Rattle.rehearse_boots.specs.TellingBoots as below
use Rattle.rehearse_boots.specs.declared.ask.BootsAsk.{BootsAsk}
use Rattle.rehearse_boots.specs.declared.boots_error.BootsError.{BootsError}
use Rattle.rehearse_boots.specs.declared.boots_error.BootsError.TheVariants as boots
use Rattle.rehearse_rules.specs.declared.rehearse_error.RehearseError.TheVariants.{Bytes, DeviceList, NoSuchVariable, States, Steps}
use Rattle.rehearse_terms.specs.Asking.{Asking}
use Rattle.rehearse_terms.specs.State.{Text}
use Rattle.tool_images.specs.PrintingImages.{environment_in}
use Rattle.tool_words.specs.declared.ask.Taking.{Taking}
use Rattle.ubtool.specs.BoardEnvironment.{FindsOnBoard}
use Rattle.ubtool.specs.BootStarts.{boot_start}
use Rattle.ubtool.specs.Given.{Given, all_runs, given}
use Rattle.ubtool.specs.KeptNames.{IsKept, IsUnnamed}
use Rattle.ubtool.specs.Refusing.{HasImage}
use Rattle.ubtool.specs.declared.rehearsal_error.RehearsalError.{RehearsalError}
use Rattle.ubtool.specs.declared.rehearsal_error.RehearsalError.TheVariants.{Boots, Changes, Image, Memory, Rehearsal, Start, Unnamed, Write}

-- how far boots may go
pub record BootLimits : Type 0 where
  -- the states of a boot, the steps that its search begins, and the bytes that its states count together which are kept
  pub states : ℕ
  pub work : ℕ
  pub bytes : ℕ
  -- the boots that are rehearsed, and the failures of an ending that is followed; none for any number
  pub boots : ℕ
  pub failures : Option ℕ
  -- the bytes that an image has for what is saved; none for any number
  pub room : Option ℕ
  -- a script of the changes that the system may make after an ending that boots, and an ending that is expected
  pub changes : Option Text
  pub expected : Option Expected

abbrev pub limits_of : BootsAsk → BootLimits
limits_of ask = record {
  states = ask.states;
  work = ask.work;
  bytes = ask.memory;
  boots = ask.boots;
  failures = ask.failures;
  room = ask.room;
  changes = option_map (λ c. c.now) ask.changes;
  expected = option_map expected_shown ask.expected;
}

-- what is given: the text, if there is one, all runs of it or of the variable that is asked for, within the bounds, and
-- the variables whose values distinguish runs
abbrev pub runs_by : BootsAsk → Asking
runs_by ask = all_runs ask.name.now ask.bounds (map (λ n. n.now) ask.names.now)

abbrev pub boots_given : ByteOrder → List ℕ → Option (List ℕ) → ListRead → (taking : Taking) → (text : Option Text) →
    BootsAsk → Given
boots_given order first second device_list taking text ask =
    given order first second device_list taking text (runs_by ask)

-- what is asked of the boots of a board that has this environment of an image and keeps these variables
abbrev pub asked_of : Given → BootLimits → (environment : List Pair) → (kept : List Text) → Asked
asked_of g limits environment kept = record {
  environment = environment;
  name = g.asking.variable;
  bounds = g.asking.bounds;
  failures = limits.failures;
  names = g.asking.names;
  kept = kept;
  room = limits.room;
  changes = limits.changes;
  expected = limits.expected;
}

-- the image is right, and this is the environment that the board has of it
abbrev pub HasEnvironment : Given → (environment : List Pair) → Type 0
HasEnvironment g environment =
    FindsOnBoard g.asking.bounds.shell (environment_in g.order g.first g.second) (Ok environment)

-- the image is right, and this holds of how the boots of its board start, and of what is asked of them
pub record HasBoots (g : Given) (limits : BootLimits) (IsSo : StartOf → Asked → Type 0) : Type 0 where
  pub environment : List Pair
  pub found : HasEnvironment g environment
  -- the variables that are kept from one boot to the next
  pub kept : List Text
  pub is_kept : IsKept g limits.changes environment kept
  pub so : IsSo (boot_start g.device_list g.taking g.asking.variable g.text kept) (asked_of g limits environment kept)

-- the image is right, no name is asked for, and the texts may change other variables than those that they name
abbrev pub HasUnnamed : Given → Type 0
HasUnnamed g = (environment : List Pair) × HasEnvironment g environment × IsUnnamed g environment

-- the lines were written, and whether each boot leads to the ending that is expected is answered
abbrev pub TellsBoots : Given → BootLimits → (old new : Sink) → (holds : Bool) → Type 0
TellsBoots g limits old new holds = HasBoots g limits (λ start_of asked. below.TellsBoots start_of asked limits.boots old new holds)

-- the boots are refused for this
abbrev pub Refuses : Given → BootLimits → (old new : Sink) → BootsError → Type 0
Refuses g limits old new error = HasBoots g limits (λ start_of asked.
    below.RefusesBoots start_of asked limits.states limits.work limits.bytes limits.boots old new error)

abbrev pub RefusesBoots : Given → BootLimits → (old new : Sink) → RehearsalError → Type 0
RefusesBoots g limits old new (Image fault) = (environment_in g.order g.first g.second ≡ Err fault) × (new ≡ old)
RefusesBoots g limits old new (Start fault) = Refuses g limits old new (boots.Board (board.Start fault))
RefusesBoots g limits old new (Rehearsal (DeviceList fault)) = Refuses g limits old new (boots.Board (board.Devices fault))
RefusesBoots g limits old new (Rehearsal NoSuchVariable) = Refuses g limits old new boots.NoSuchVariable
RefusesBoots g limits old new (Rehearsal States) = Refuses g limits old new boots.States
RefusesBoots g limits old new (Rehearsal (Steps count)) = Refuses g limits old new (boots.Steps count)
RefusesBoots g limits old new (Rehearsal (Bytes count)) = Refuses g limits old new (boots.Bytes count)
RefusesBoots g limits old new (Changes fault) = Refuses g limits old new (boots.Changes fault)
RefusesBoots g limits old new Boots = Refuses g limits old new boots.Boots
RefusesBoots g limits old new Write = Refuses g limits old new boots.Write
RefusesBoots g limits old new Unnamed = HasUnnamed g × (new ≡ old)
RefusesBoots g limits old new Memory = HasImage g × (new ≡ old)
RefusesBoots g limits old new _ = ⊥
