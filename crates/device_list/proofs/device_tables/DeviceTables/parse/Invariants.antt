use Rattle.std.proofs.Common.{◌≡◌}
use Rattle.text.specs.Lines.{lines_left}
use Rattle.device_list.specs.CommandsShown.{files_shown}
use Rattle.device_list.specs.DeviceList.{listed_with, listed_lines}
use Rattle.device_list.proofs.device_tables.DeviceTables.parse.Given as goal

-- the lines so far make this list, and none of them is faulty
abbrev pub invariant-loop-number : goal.invariant-loop-number
invariant-loop-number l = listed_with (files_shown l.fn.files.entries) l.text ≡ listed_lines l.devices (lines_left l.number-iterator)
