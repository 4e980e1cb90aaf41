use Rattle.std.proofs.Common.{ap, sym, ◌∙◌}
use Rattle.device_list.specs.DeviceList.{Devices, is_listed}
use Rattle.device_list.proofs.SteadyLemmas.{listed-steady}
use Rattle.device_list.proofs.devices.Devices.has.Goals as goal

pub returns : goal.returns
returns c = c.has.ensures ∙ sym (listed-steady c.self.inside.tables c.args.name.now c.self.inside.all_steady) ∙ ap (λ (d : Devices). is_listed d c.args.name.now) c.self.view_is
