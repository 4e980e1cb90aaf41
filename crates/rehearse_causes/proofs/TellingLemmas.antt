-- Causes that are not found are not written.
use Rattle.std.proofs.Common.{Bool, Option, refl}
use Rattle.output.specs.Sink.{Sink}
use Rattle.rehearse_rules.specs.Runs.{Task}
use Rattle.rehearse_rules.specs.declared.rehearse_error.RehearseError.{RehearseError}
use Rattle.rehearse_rules.specs.declared.rehearse_error.RehearseError.TheVariants.{DeviceList, NoSuchVariable, NotARun, States, Steps, Bytes, Write, Memory, Failed}
use Rattle.rehearse_causes.specs.TellingCauses.{IsUntold, RefusesCauses}

pub untold : (found : Option Task) (check : Bool) (s : Sink) (e : RehearseError) → IsUntold found e → RefusesCauses found check s s e
untold found check s (DeviceList fault) h = h
untold found check s NoSuchVariable h = (h, refl)
untold found check s NotARun h = h
untold found check s States h = h
untold found check s (Steps count) h = h
untold found check s (Bytes count) h = h
untold found check s Write h = absurd h
untold found check s Memory h = refl
untold found check s Failed h = h
