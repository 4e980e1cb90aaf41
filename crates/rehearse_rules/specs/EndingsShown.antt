-- What contracts see of how a run has ended. Ours.
use Rattle.rehearse_rules.specs.Execution as spec
use Rattle.rehearse_rules.specs.declared.halt.Halt.{Halt}
use Rattle.rehearse_rules.specs.declared.halt.Halt.TheVariants as halts
use Rattle.rehearse_rules.specs.declared.halt.Ending.{Ending}
use Rattle.rehearse_rules.specs.declared.halt.Ending.TheVariants as endings

abbrev pub halt_shown : Halt → spec.Ending
halt_shown (halts.End status) = spec.End status
halt_shown halts.CutDevices = spec.CutDevices
halt_shown halts.CutSteps = spec.CutSteps
halt_shown (halts.Unknown name) = spec.Unknown name.items
halt_shown (halts.Syntax name) = spec.Syntax name.items
halt_shown (halts.Unsupported name) = spec.Unsupported name.items
halt_shown (halts.Panic name) = spec.Panic name.items
halt_shown halts.Size = spec.Size
halt_shown (halts.Finished finish name) = spec.Finished finish name.items

abbrev pub ending_shown : Ending → spec.Ending
ending_shown (endings.End status) = spec.End status
ending_shown endings.CutDevices = spec.CutDevices
ending_shown endings.CutSteps = spec.CutSteps
ending_shown (endings.Unknown name) = spec.Unknown name.now
ending_shown (endings.Syntax name) = spec.Syntax name.now
ending_shown (endings.Unsupported name) = spec.Unsupported name.now
ending_shown (endings.Panic name) = spec.Panic name.now
ending_shown endings.Size = spec.Size
ending_shown (endings.Finished finish name) = spec.Finished finish name.now
