-- What contracts see of a script that is checked, and of a device list.
use Rattle.std.specs.Prelude.{Option, option_map}
use Rattle.board_start.specs.Boards.{ListRead}
use Rattle.device_list.specs.CommandsShown.{files_shown}
use Rattle.hushcheck_program.specs.Checking.{Named}
use Rattle.hushcheck_program.specs.declared.texts.DeviceList.{DeviceList}
use Rattle.hushcheck_program.specs.declared.texts.Script.{Script}

-- its name and its text
abbrev pub script_shown : Option Script → Option Named
script_shown script = option_map (λ s. (s.name.now, s.text.now)) script

-- its text, and the texts of the files that it names
abbrev pub list_shown : Option DeviceList → Option ListRead
list_shown list = option_map (λ l. record { text = l.text.now; files = files_shown l.files.entries }) list
