-- A board, as its device list says: how it starts, and which commands are device commands. Ours.
use Rattle.std.specs.Prelude.{[], Result, Ok, Err}
use Rattle.text.specs.Lines.{Text}
use Rattle.device_list.specs.DeviceList.{Devices, Files, listed_with}
use Rattle.device_list.specs.declared.devices_error.DevicesError.{DevicesError}
use Rattle.board_start.specs.StartLines.{without_start}
use Rattle.board_start.specs.Start.{Start, start_of}
use Rattle.board_start.specs.declared.start_error.StartError.{StartError}

pub record Board : Type 0 where
  pub start : Start
  pub devices : Devices

-- a list that was read: its text, and the texts of the files that it names
pub record ListRead : Type 0 where
  pub text : Text
  pub files : Files

-- why a list is refused
pub data Fault : Type 0 where
  OfStart : StartError → Fault
  OfDevices : DevicesError → Fault

abbrev pub board_with : Start → Result Devices DevicesError → Result Board Fault
board_with start (Ok devices) = Ok (record { start = start; devices = devices })
board_with start (Err fault) = Err (OfDevices fault)

abbrev pub board_from : ListRead → Result Start StartError → Result Board Fault
board_from list (Ok start) = board_with start (listed_with list.files (without_start list.text))
board_from list (Err fault) = Err (OfStart fault)

-- the board that a list says: its lines of the start are read, and then the others
abbrev pub board_of : ListRead → Result Board Fault
board_of list = board_from list (start_of list.text)

-- of a list that names no file
abbrev pub text_alone : (text : Text) → ListRead
text_alone text = record { text = text; files = [] }
