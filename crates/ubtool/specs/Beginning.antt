-- What a rehearsal starts with: the environment that the board has, its device list as it is taken, the names of what is
-- asked for of each run, and the text that is rehearsed in place of the variable's, if there is one. Ours.
use Rattle.std.specs.Prelude.{◌≡◌, List, Option, Result, Ok, Err}
use Rattle.envimage.specs.Data.{Pair}
use Rattle.envimage.specs.declared.image.ImageError.{ImageError}
use Rattle.board_start.specs.Boards.{Board, Fault, OfDevices, OfStart, board_of}
use Rattle.board_start.specs.Start.{Begun, begun}
use Rattle.board_start.specs.BoardShown.{begun_shown}
use Rattle.board_start.specs.StartAnswers as start
use Rattle.board_start.specs.declared.board_error.BoardError.{BoardError}
use Rattle.board_start.specs.declared.start.Begun.{Begun as BegunRead}
use Rattle.board_start.specs.declared.start_error.StartError.{StartError}
use Rattle.device_list.specs.DeviceList.{Devices, filled, steady_if}
use Rattle.device_list.specs.Saving.{names_with_saved, saving}
use Rattle.envtools.specs.Environment.{value_of}
use Rattle.rehearse_rules.specs.declared.rehearse_error.RehearseError.TheVariants.{DeviceList}
use Rattle.rehearse_terms.specs.Asking.{Asking}
use Rattle.rehearse_terms.specs.State.{Text}
use Rattle.rehearse_terms.specs.declared.shell.Shell.{Shell}
use Rattle.text.specs.TextsShown.{bytes_of_words, option_items}
use Rattle.tool_images.specs.PrintingImages.{environment_in}
use Rattle.tool_words.specs.declared.ask.Taking.{Taking}
use Rattle.ubtool.specs.BoardEnvironment.{on_board}
use Rattle.ubtool.specs.Given.{Given}
use Rattle.ubtool.specs.declared.beginning.Beginning.{Beginning as BeginningRead}
use Rattle.ubtool.specs.declared.rehearsal_error.RehearsalError.{RehearsalError}
use Rattle.ubtool.specs.declared.rehearsal_error.RehearsalError.TheVariants.{Image, Memory, Rehearsal, Start}

pub record Beginning : Type 0 where
  pub environment : List Pair
  pub devices : Devices
  -- the names of what is asked for of each run: with copies, if the list saves
  pub names : List Text
  -- a text that is rehearsed in place of the variable's
  pub text : Option Text

-- why there is none: the image is faulty, or the list of the board is, or a rehearsal cannot start as it says
pub data NoBeginning : Type 0 where
  OfImage : ImageError → NoBeginning
  OfBoard : Fault → NoBeginning

-- A pattern of the list may name a variable of the environment, and a call of the list that saves sets a copy of each
-- variable that is asked for.
abbrev pub begun_with : Devices → (names : List Text) → Result Begun StartError → Result Beginning NoBeginning
begun_with devices names (Ok begun) = Ok (record {
  environment = begun.environment;
  devices = saving names (filled (value_of begun.environment) devices);
  names = names_with_saved devices names;
  text = begun.text;
})
begun_with devices names (Err fault) = Err (OfBoard (OfStart fault))

-- All of the list is steady if that is asked, and what the list gives is in the environment.
abbrev pub with_board : Result Board Fault → Taking → List Pair → (variable : Text) → (text : Option Text) →
    (names : List Text) → Result Beginning NoBeginning
with_board (Ok board) taking environment variable text names =
    begun_with (steady_if taking.steady board.devices) names (begun board.start taking.alternative environment variable text)
with_board (Err fault) taking environment variable text names = Err (OfBoard fault)

-- The environment is that of the image, as a board with this shell has it.
abbrev pub with_image : Result (List Pair) ImageError → Shell → Result Board Fault → Taking → (variable : Text) →
    (text : Option Text) → (names : List Text) → Result Beginning NoBeginning
with_image (Ok environment) shell board taking variable text names =
    with_board board taking (on_board shell environment) variable text names
with_image (Err fault) shell board taking variable text names = Err (OfImage fault)

-- what all that is given starts with
abbrev pub beginning_of : Given → Result Beginning NoBeginning
beginning_of g =
    with_image (environment_in g.order g.first g.second) g.asking.bounds.shell (board_of g.device_list) g.taking
    g.asking.variable g.text g.asking.names

-- what the program starts with, seen as the definitions have it
abbrev pub beginning_shown : BeginningRead → Beginning
beginning_shown b =
    record { environment = b.env; devices = b.devices; names = bytes_of_words b.names.items; text = option_items b.text }

-- all that is given starts with this, and these runs are asked for
abbrev pub StartsWith : Given → BeginningRead → Asking → Type 0
StartsWith g beginning asking = (beginning_of g ≡ Ok (beginning_shown beginning)) × (g.asking ≡ asking)

-- how a board begins, with its list as it is taken, or why it does not; memory may run out before that is known
abbrev pub BeginsTaken : Result Begun StartError → Devices → Result (BegunRead × Devices) BoardError → Type 0
BeginsTaken begun devices (Ok taken) = (begun ≡ Ok (begun_shown taken.0)) × (devices ≡ taken.1)
BeginsTaken begun devices (Err error) = start.Begins begun (Err error)

-- what is found, or why there is nothing; memory may run out if the image is right
abbrev pub Begins : (image : Result (List Pair) ImageError) → Result Beginning NoBeginning →
    Result BeginningRead RehearsalError → Type 0
Begins image answer (Ok beginning) = answer ≡ Ok (beginning_shown beginning)
Begins image answer (Err (Image fault)) = answer ≡ Err (OfImage fault)
Begins image answer (Err (Rehearsal (DeviceList fault))) = answer ≡ Err (OfBoard (OfDevices fault))
Begins image answer (Err (Start fault)) = answer ≡ Err (OfBoard (OfStart fault))
Begins image answer (Err Memory) = (environment : List Pair) × (image ≡ Ok environment)
Begins image answer (Err error) = ⊥
