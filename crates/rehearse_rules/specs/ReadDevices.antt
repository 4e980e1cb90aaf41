-- The device list of a rehearsal, or why there is none. Ours.
use Rattle.std.specs.Prelude.{◌≡◌, Result, Ok, Err}
use Rattle.device_list.specs.DeviceList.{Devices}
use Rattle.device_list.specs.declared.devices_error.DevicesError.{DevicesError}
use Rattle.rehearse_rules.specs.declared.rehearse_error.RehearseError.{RehearseError}
use Rattle.rehearse_rules.specs.declared.rehearse_error.RehearseError.TheVariants.{DeviceList, Memory}

-- what a text lists, or its fault; memory may run out with any text
abbrev pub ReadsDevices : (listed : Result Devices DevicesError) → Result Devices RehearseError → Type 0
ReadsDevices listed (Ok devices) = listed ≡ Ok devices
ReadsDevices listed (Err (DeviceList fault)) = listed ≡ Err fault
ReadsDevices listed (Err Memory) = Unit {0}
ReadsDevices listed (Err _) = ⊥
