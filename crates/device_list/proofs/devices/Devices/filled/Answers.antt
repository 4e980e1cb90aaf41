use Rattle.std.proofs.Common.{ap, ◌∙◌}
use Rattle.envtools.specs.Environment.{value_of}
use Rattle.device_list.specs.DeviceList.{filled, steady_if}
use Rattle.device_list.proofs.FilledLemmas.{steady-filled}
use Rattle.device_list.proofs.devices.Devices.filled.Goals as goal

pub returns : goal.returns
returns c =
    ap (steady_if c.self.inside.all_steady) c.in_ok-fill.ensures
    ∙ steady-filled (value_of c.args.env.now) c.self.inside.all_steady c.self.inside.tables
    ∙ ap (filled (value_of c.args.env.now)) c.self.view_is
