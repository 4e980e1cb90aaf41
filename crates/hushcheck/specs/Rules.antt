-- What texts are held to. Ours.
use Rattle.std.specs.Prelude.{Bool, Option}
use Rattle.device_list.specs.DeviceList.{Devices}
use Rattle.rehearse_terms.specs.declared.shell.Shell.{Shell}

-- the device list, if there is one; the shell that the call names, if it names one; and whether a warning is a fault
pub record Rules : Type 0 where
  pub devices : Option Devices
  pub shell : Option Shell
  pub strict : Bool

abbrev pub held_to : Option Devices → Option Shell → (strict : Bool) → Rules
held_to devices shell strict = record { devices = devices; shell = shell; strict = strict }
