use Rattle.std.proofs.Common.{sym, ap, ◌∙◌}
use Rattle.device_list.specs.DeviceList.{all_steady}
use Rattle.device_list.proofs.SteadyLemmas.{steady-twice}
use Rattle.device_list.proofs.devices.Devices.steady.Goals as goal

pub returns : goal.returns
returns c = sym (steady-twice c.self.inside.all_steady c.self.inside.tables) ∙ ap all_steady c.self.view_is
