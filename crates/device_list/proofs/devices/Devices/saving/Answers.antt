use Rattle.std.proofs.Common.{map, ap, ◌∙◌}
use Rattle.device_list.specs.DeviceList.{steady_if}
use Rattle.device_list.specs.Saving.{saving}
use Rattle.device_list.proofs.FilledLemmas.{steady-saving}
use Rattle.device_list.proofs.devices.Devices.saving.Goals as goal

pub returns : goal.returns
returns c =
    let names = map (λ n. n.now) c.args.names.now in
    ap (steady_if c.self.inside.all_steady) c.in_ok-save.ensures
    ∙ steady-saving names c.self.inside.all_steady c.self.inside.tables
    ∙ ap (saving names) c.self.view_is
