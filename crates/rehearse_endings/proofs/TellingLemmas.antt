-- Endings that are not counted are not written.
use Rattle.std.proofs.Common.{Option, refl}
use Rattle.output.specs.Sink.{Sink}
use Rattle.rehearse_rules.specs.Runs.{Task}
use Rattle.rehearse_rules.specs.declared.rehearse_error.RehearseError.{RehearseError}
use Rattle.rehearse_rules.specs.declared.rehearse_error.RehearseError.TheVariants.{DeviceList, NoSuchVariable, NotARun, States, Steps, Bytes, Write, Memory, Failed}
use Rattle.rehearse_endings.specs.TellingEndings.{IsUntold, names_of, RefusesEndings}
use Rattle.rehearse_endings.specs.declared.telling.EndingsAsk.{EndingsAsk}

pub untold : (found : Option Task) (ask : EndingsAsk) (s : Sink) (e : RehearseError) → IsUntold (names_of ask) ask.states ask.work ask.memory found e → RefusesEndings found ask s s e
untold found ask s (DeviceList fault) h = h
untold found ask s NoSuchVariable h = (h, refl)
untold found ask s NotARun h = h
untold found ask s States h = (h, refl)
untold found ask s (Steps count) h = (h, refl)
untold found ask s (Bytes count) h = (h, refl)
untold found ask s Write h = absurd h
untold found ask s Memory h = refl
untold found ask s Failed h = h
