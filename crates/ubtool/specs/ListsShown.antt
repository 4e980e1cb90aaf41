-- A device list of the program, seen as the definitions have it.
use Rattle.board_start.specs.Boards.{ListRead}
use Rattle.device_list.specs.CommandsShown.{files_shown}
use Rattle.ubtool.specs.declared.beginning.DeviceText.{DeviceText}

abbrev pub list_shown : DeviceText → ListRead
list_shown list = record { text = list.text.now; files = files_shown list.files.now.entries }
