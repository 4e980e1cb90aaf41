-- What each boot of a board starts with, by the environment that it finds saved: the environment with what the list gives,
-- the list as it is taken, and the text that is rehearsed in place of the variable's, if there is one. Ours.
use Rattle.std.specs.Prelude.{List, Option, Result, Ok, Err}
use Rattle.board_start.specs.Boards.{Board, Fault, ListRead, OfStart, board_of}
use Rattle.board_start.specs.Start.{Begun, begun}
use Rattle.board_start.specs.declared.start_error.StartError.{StartError}
use Rattle.device_list.specs.DeviceList.{Devices, filled, steady_if}
use Rattle.device_list.specs.Saving.{saving}
use Rattle.envimage.specs.Data.{Pair}
use Rattle.envtools.specs.Environment.{value_of}
use Rattle.rehearse_boots.specs.Boots.{StartOf, Started}
use Rattle.rehearse_terms.specs.State.{Text}
use Rattle.tool_words.specs.declared.ask.Taking.{Taking}

-- A pattern of the list may name a variable of the environment, and a call of the list that saves sets a copy of each
-- variable that is kept.
abbrev pub started_with : Devices → (kept : List Text) → Result Begun StartError → Result Started Fault
started_with devices kept (Ok begun) = Ok (record {
  environment = begun.environment;
  devices = saving kept (filled (value_of begun.environment) devices);
  text = begun.text;
  saves = begun.saves;
})
started_with devices kept (Err fault) = Err (OfStart fault)

-- All of the list is steady if that is asked, and what the list gives is in the environment.
abbrev pub started_on : Result Board Fault → Taking → (variable : Text) → (text : Option Text) → (kept : List Text) →
    (found : List Pair) → Result Started Fault
started_on (Ok board) taking variable text kept found =
    started_with (steady_if taking.steady board.devices) kept (begun board.start taking.alternative found variable text)
started_on (Err fault) taking variable text kept found = Err fault

-- the board is that of a list
abbrev pub boot_start : ListRead → Taking → (variable : Text) → (text : Option Text) → (kept : List Text) → StartOf
boot_start list taking variable text kept = started_on (board_of list) taking variable text kept
