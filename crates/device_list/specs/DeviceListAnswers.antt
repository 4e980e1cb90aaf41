-- What reading a device list answers.
use Rattle.std.specs.Prelude.{◌≡◌, ℕ, [], Result, Ok, Err}
use Rattle.text.specs.Lines.{Text}
use Rattle.device_list.specs.CallLines.{Call}
use Rattle.device_list.specs.CommandsShown.{said_shown}
use Rattle.device_list.specs.DeviceList.{Devices, Files, after_line, listed_with}
use Rattle.device_list.specs.declared.call_line.Call.{Call as CallRead}
use Rattle.device_list.specs.declared.devices_error.DevicesError.{DevicesError}
use Rattle.device_list.specs.declared.devices_error.DevicesError.TheVariants.{BadLine, BuiltIn, ByteOrderMark, Memory}

-- the list after a line, or its fault
abbrev pub Adds : Result Devices DevicesError → Devices → Result (Unit {0}) DevicesError → Type 0
Adds after new (Ok u) = after ≡ Ok new
Adds after new (Err (BadLine n)) = after ≡ Err (BadLine n)
Adds after new (Err (BuiltIn n)) = after ≡ Err (BuiltIn n)
Adds after new (Err ByteOrderMark) = after ≡ Err ByteOrderMark
Adds after new (Err Memory) = Unit {0}

abbrev pub AddsLine : Devices → ℕ → Text → Devices → Result (Unit {0}) DevicesError → Type 0
AddsLine old number line new result = Adds (after_line old number line) new result

-- what a line of calls says, or its fault
abbrev pub SaysCall : Result Call DevicesError → Result CallRead DevicesError → Type 0
SaysCall said (Ok call) = said ≡ Ok (said_shown call)
SaysCall said (Err (BadLine n)) = said ≡ Err (BadLine n)
SaysCall said (Err (BuiltIn n)) = said ≡ Err (BuiltIn n)
SaysCall said (Err ByteOrderMark) = said ≡ Err ByteOrderMark
SaysCall said (Err Memory) = Unit {0}

-- The commands of the list, or its first fault; memory may run out before that is known.
abbrev pub IsListedWith : Files → Text → Result Devices DevicesError → Type 0
IsListedWith files text (Ok devices) = listed_with files text ≡ Ok devices
IsListedWith files text (Err (BadLine n)) = listed_with files text ≡ Err (BadLine n)
IsListedWith files text (Err (BuiltIn n)) = listed_with files text ≡ Err (BuiltIn n)
IsListedWith files text (Err ByteOrderMark) = listed_with files text ≡ Err ByteOrderMark
IsListedWith files text (Err Memory) = Unit {0}

-- the same without files
abbrev pub IsListed : Text → Result Devices DevicesError → Type 0
IsListed text result = IsListedWith [] text result
