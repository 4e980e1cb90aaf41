-- What checking the texts of an image does, from files whose contents are known. Ours.
use Rattle.std.specs.Prelude.{◌≡◌, ◌⊎◌, ◌++◌, Bool, false, List, [], ◌∷◌, Option, Some, None, option_map, Result, Ok, Err, if◌then◌else◌}
use Rattle.envimage.specs.Data.{Pair}
use Rattle.output.specs.Outputs.{WroteFront}
use Rattle.output.specs.Sink.{BrokeOff, Sink, Wrote}
use Rattle.envimage.specs.declared.image.ByteOrder.{ByteOrder}
use Rattle.envimage.specs.declared.image.ImageError.{ImageError}
use Rattle.envtools.specs.Changes.{with_changes}
use Rattle.hushcheck_program.specs.Asked.{Asked}
use Rattle.hushcheck_program.specs.declared.fault.CheckFault.{CheckFault}
use Rattle.hushcheck_program.specs.declared.fault.CheckFault.TheVariants.{DeviceList, Shared}
use Rattle.hushcheck.specs.Names.{Text}
use Rattle.hushcheck.specs.Report.{BeginsCheck, BeginsScript, Checks, ChecksScript, asked_names}
use Rattle.hushcheck.specs.Rules.{Rules}
use Rattle.hushcheck.specs.Telling.{Stops}
use Rattle.hushcheck.specs.declared.check_error.CheckError.{CheckError}
use Rattle.rehearse_terms.specs.declared.shell.Shell.{Shell}
use Rattle.board_start.specs.BoardShown.{board_shown}
use Rattle.board_files.specs.BoardFiles.{AreAllRead, IsNotRead}
use Rattle.board_start.specs.Boards.{Board, Fault as BoardFault, ListRead, OfDevices, OfStart, board_of}
use Rattle.board_start.specs.Counter.{Counter, raised_in}
use Rattle.board_start.specs.Start.{chosen, first_texts, is_set}
use Rattle.board_start.specs.declared.board.Board.{Board as BoardRead}
use Rattle.board_start.specs.declared.board_error.BoardError.{BoardError}
use Rattle.board_start.specs.declared.board_error.BoardError.TheVariants as board
use Rattle.tool_files.specs.CallOrder.{OnlyReads}
use Rattle.tool_files.specs.Told.{Told}
use Rattle.tool_images.specs.declared.error.ToolError.TheVariants.{Image, Write}
use Rattle.tool_images.specs.declared.fault.Fault.{Fault}
use Rattle.tool_images.specs.declared.fault.Fault.TheVariants.{Memory, Tool}
use Rattle.tool_steps.specs.Images.{Copy}
use Rattle.tool_steps.specs.Origins.{HasReadImages, IsOriginFault}
use Rattle.tool_steps.specs.PrintingFiles.{environment}
use Rattle.tool_steps.specs.Scripts.{HasReadNamed, IsNamedFault}
use Rattle.tool_words.specs.Asked.{InputsShown}

-- ---- what is checked

-- a script that is checked in place of a variable: its name, and its text
abbrev pub Named : Type 0
Named = Text × Text

-- the script of this text under this name, if there are both
abbrev pub under : (name text : Option Text) → Option Named
under (Some name) (Some text) = Some (name, text)
under name text = None

-- the environment that was found, the board of the device list and the script if there are any, the names that the call gives, whether
-- every variable is checked after them, the shell that is named, if one is, and whether a warning is a fault
pub record Given : Type 0 where
  pub env : Result (List Pair) ImageError
  pub board : Result (Option Board) BoardError
  pub script : Option Named
  pub names : List Text
  pub all : Bool
  pub shell : Option Shell
  pub strict : Bool

abbrev pub given : Result (List Pair) ImageError → Result (Option Board) BoardError → Option Named → List Text → Bool →
    Option Shell → (strict : Bool) → Given
given env board script names all shell strict =
    record { env = env; board = board; script = script; names = names; all = all; shell = shell; strict = strict }

abbrev pub with_list : Result Board BoardFault → Result (Option Board) BoardError
with_list (Ok board) = Ok (Some board)
with_list (Err (OfStart fault)) = Err (board.Start fault)
with_list (Err (OfDevices fault)) = Err (board.Devices fault)

-- the board of a device list, if there is one
abbrev pub list_in : Option ListRead → Result (Option Board) BoardError
list_in None = Ok None
list_in (Some list) = with_list (board_of list)

-- the same for copies and a device list
abbrev pub given_by : ByteOrder → List Copy → (list : Option ListRead) → Option Named → List Text → Bool → Option Shell →
    (strict : Bool) → Given
given_by order found list script names all shell strict =
    given (environment order found) (list_in list) script names all shell strict

-- what the texts are held to
abbrev pub rules_in : Option Board → Given → Rules
rules_in board g = record { devices = option_map (λ b. b.devices) board; shell = g.shell; strict = g.strict }

-- the environment with what the list gives, of its alternatives the first, and with the raised boot counter, if there is one
abbrev pub env_on : Option Board → List Pair → List Pair
env_on None env = env
env_on (Some board) env = raised_in board.start.counter (with_changes env (chosen board.start 0))

-- the variable whose text is run once a boot counter has passed its limit, if it is set
abbrev pub alternative_of : (counter : Option Counter) → List Pair → List Text
alternative_of None env = []
alternative_of (Some counter) env = if is_set env counter.alternative then counter.alternative ∷ [] else []

-- The variables whose texts run first on the board, of those that are set, and then these, and then the alternative of its
-- boot counter.
abbrev pub behind_first : Option Board → List Pair → (names : List Text) → List Text
behind_first None env names = names
behind_first (Some board) env names =
    first_texts env board.start.before ++ names ++ alternative_of board.start.counter env

-- the names that are checked in an environment: those that run first, those that the call gives, the alternative of a boot
-- counter, and with `--all` every one
abbrev pub checked_names : Option Board → List Pair → Given → List Text
checked_names board env g = asked_names g.all env (behind_first board env g.names)

-- ---- a script, or none

-- what is reported of the script, if there is one, and of the names that are asked for, and whether all is well
abbrev pub ChecksAll : Rules → List Pair → Option Named → (asked : List Text) → (told : Text) → (sound : Bool) → Type 0
ChecksAll rules env None asked told sound = Checks rules env asked told sound
ChecksAll rules env (Some script) asked told sound = ChecksScript rules env script.0 script.1 asked told sound

-- the first lines of that
abbrev pub BeginsAll : Rules → List Pair → Option Named → (asked : List Text) → (told : Text) → Type 0
BeginsAll rules env None asked told = BeginsCheck rules env asked told
BeginsAll rules env (Some script) asked told = BeginsScript rules env script.0 script.1 asked told

-- what is written then
abbrev pub WritesAll : Rules → List Pair → Option Named → (asked : List Text) → Result Bool CheckError → Sink → Sink → Type 0
WritesAll rules env script asked (Ok sound) old new =
    (told : Text) × ChecksAll rules env script asked told sound × Wrote old new told
WritesAll rules env script asked (Err error) old new =
    (told : Text) × BeginsAll rules env script asked told × Stops error old new told

-- ---- one environment

-- the board of the device list, or why there is none
abbrev pub Lists : Result (Option Board) BoardError → Result (Option BoardRead) CheckFault → Type 0
Lists answer (Ok board) = answer ≡ Ok (option_map board_shown board)
Lists answer (Err (DeviceList fault)) = answer ≡ Err fault
Lists answer (Err (Shared Memory)) = Unit {0}
Lists answer (Err _) = ⊥

-- The environment and the device list are right, and this is what is reported.
pub record AreTexts (g : Given) (told : Text) (sound : Bool) : Type 0 where
  pub env : List Pair
  pub there : g.env ≡ Ok env
  pub board : Option Board
  pub are_listed : g.board ≡ Ok board
  pub checks : ChecksAll (rules_in board g) (env_on board env) g.script (checked_names board (env_on board env) g) told sound

-- The environment is right, and the device list is refused for this.
pub record IsBadList (g : Given) (fault : BoardError) : Type 0 where
  pub env : List Pair
  pub there : g.env ≡ Ok env
  pub refused : g.board ≡ Err fault

-- The environment and the device list are right, and these are the lines of the texts whose turn had come.
pub record BeginTexts (g : Given) (told : Text) : Type 0 where
  pub env : List Pair
  pub there : g.env ≡ Ok env
  pub board : Option Board
  pub are_listed : g.board ≡ Ok board
  pub begins : BeginsAll (rules_in board g) (env_on board env) g.script (checked_names board (env_on board env) g) told

-- all that is reported was written
abbrev pub TellsAll : Given → (old new : Sink) → (sound : Bool) → Type 0
TellsAll g old new sound = (told : Text) × AreTexts g told sound × Wrote old new told

-- the output failed inside these lines
abbrev pub BreaksOff : Given → (old new : Sink) → Type 0
BreaksOff g old new = (told : Text) × BeginTexts g told × BrokeOff old new told

-- the first bytes of these lines were written
abbrev pub WritesFront : Given → (old new : Sink) → Type 0
WritesFront g old new = (told : Text) × BeginTexts g told × WroteFront old new told

-- each answer to checking the texts, and what is written then
abbrev pub ChecksText : Given → Sink → Sink → Result Bool CheckFault → Type 0
ChecksText g old new (Ok sound) = TellsAll g old new sound
ChecksText g old new (Err (Shared (Tool (Image error)))) = (g.env ≡ Err error) × (new ≡ old)
ChecksText g old new (Err (DeviceList fault)) = IsBadList g fault × (new ≡ old)
ChecksText g old new (Err (Shared (Tool Write))) = BreaksOff g old new
ChecksText g old new (Err (Shared Memory)) = (new ≡ old) ⊎ WritesFront g old new
ChecksText g old new (Err _) = ⊥

-- the same by these rules, in this environment, with these names
abbrev pub ChecksBy : Rules → List Pair → Option Named → (asked : List Text) → Sink → Sink → Result Bool CheckFault → Type 0
ChecksBy rules env script asked old new (Ok sound) =
    (told : Text) × ChecksAll rules env script asked told sound × Wrote old new told
ChecksBy rules env script asked old new (Err (Shared (Tool Write))) =
    (told : Text) × BeginsAll rules env script asked told × BrokeOff old new told
ChecksBy rules env script asked old new (Err (Shared Memory)) =
    (new ≡ old) ⊎ ((told : Text) × BeginsAll rules env script asked told × WroteFront old new told)
ChecksBy rules env script asked old new (Err _) = ⊥

-- ---- files

-- what is checked of what was read
abbrev pub given_of : Asked → List Copy → (list : Option ListRead) → (script : Option Text) → Given
given_of asked found list script =
    given_by asked.order found list (under asked.script script) asked.names asked.all asked.shell asked.strict

-- what a rehearsal reads, too, for this device list
abbrev pub inputs_of : Asked → (device_list : Text) → InputsShown
inputs_of asked device_list = record {
  origin = asked.origin;
  device_list = device_list;
  taking = record { steady = false; alternative = None };
  script = asked.script;
  files = asked.files;
}

-- The images were read, and then the script, if one is named, and this holds of what they give.
pub record AreFound (asked : Asked) (old new : Told) (IsSo : List Copy → (script : Option Text) → Type 0) : Type 0 where
  pub found : List Copy
  pub after_images : Told
  pub read : HasReadImages asked.origin old after_images found
  pub script : Option Text
  pub scripted : HasReadNamed asked.script after_images new script
  pub so : IsSo found script

-- The images were read, and the script is refused for this.
pub record IsScriptless (asked : Asked) (old : Told) (fault : Fault) : Type 0 where
  pub found : List Copy
  pub after_images : Told
  pub read : HasReadImages asked.origin old after_images found
  pub refused : IsNamedFault asked.script old.stored fault

-- What is read without a device list. With one it is what a rehearsal reads: the images, then the list, then the script, and
-- then the files that the list names, if a folder is named. What is checked then has this property.
abbrev pub FromNamed : (device_list : Option Text) → Asked → (old new : Told) → (Given → Type 0) → Type 0
FromNamed None asked old new IsSo = AreFound asked old new (λ found script. IsSo (given_of asked found None script))
FromNamed (Some path) asked old new IsSo = AreAllRead (inputs_of asked path) old new (λ found list script.
    IsSo (given_of asked found (Some list) script))

abbrev pub FromFiles : Asked → (old new : Told) → (Given → Type 0) → Type 0
FromFiles asked old new IsSo = FromNamed asked.device_list asked old new IsSo

-- why a file is refused that is read: files were only read
abbrev pub IsUnreadBy : (device_list : Option Text) → Asked → (old new : Told) → Fault → Type 0
IsUnreadBy None asked old new fault =
    OnlyReads old new × (IsOriginFault asked.origin old.stored fault ⊎ IsScriptless asked old fault)
IsUnreadBy (Some path) asked old new fault = IsNotRead (inputs_of asked path) old new fault

abbrev pub IsUnread : Asked → (old new : Told) → Fault → Type 0
IsUnread asked old new fault = IsUnreadBy asked.device_list asked old new fault

-- The files were read and the texts checked, or the image or the device list is refused; or a read is refused, and files
-- were only read. Memory may run out at any time, also when lines were written.
abbrev pub ChecksFrom : Asked → (out out' : Sink) → (old new : Told) → Result Bool CheckFault → Type 0
ChecksFrom asked out out' old new (Ok sound) = FromFiles asked old new (λ g. TellsAll g out out' sound)
ChecksFrom asked out out' old new (Err (Shared (Tool (Image error)))) = FromFiles asked old new (λ g. g.env ≡ Err error)
ChecksFrom asked out out' old new (Err (DeviceList fault)) = FromFiles asked old new (λ g. IsBadList g fault)
ChecksFrom asked out out' old new (Err (Shared (Tool Write))) = FromFiles asked old new (λ g. BreaksOff g out out')
ChecksFrom asked out out' old new (Err (Shared Memory)) =
    OnlyReads old new × ((out' ≡ out) ⊎ FromFiles asked old new (λ g. WritesFront g out out'))
ChecksFrom asked out out' old new (Err (Shared fault)) = IsUnread asked old new fault

-- a refusal leaves the output as it was, unless it says that the output failed or that memory ran out
abbrev pub LeavesOutput : Result Bool CheckFault → (old new : Sink) → Type 0
LeavesOutput (Ok sound) old new = Unit {0}
LeavesOutput (Err (Shared (Tool Write))) old new = Unit {0}
LeavesOutput (Err (Shared Memory)) old new = Unit {0}
LeavesOutput (Err fault) old new = new ≡ old
