-- How a run ends. Ours.
use Rattle.std.specs.Prelude.{ℕ}
use Rattle.device_list.specs.declared.finish.BoardEnd.{BoardEnd}
use Rattle.rehearse_terms.specs.State.{Text}

pub data Ending : Type 0 where
  -- the text of its variable ended, by itself or by an `exit`
  End : (status : ℕ) → Ending
  -- the bound forbids the next device command, or the next step
  CutDevices : Ending
  CutSteps : Ending
  -- a command is neither built in nor listed
  Unknown : (name : Text) → Ending
  -- the text of a variable is not a script
  Syntax : (name : Text) → Ending
  -- what U-Boot's shell makes of the text of a variable is not said here
  Unsupported : (name : Text) → Ending
  -- by the text of a variable U-Boot's shell gives up: the board resets or hangs
  Panic : (name : Text) → Ending
  -- words expand to too many bytes
  Size : Ending
  -- a device command succeeded that ends the run: the board boots, restarts or halts
  Finished : BoardEnd → (name : Text) → Ending
