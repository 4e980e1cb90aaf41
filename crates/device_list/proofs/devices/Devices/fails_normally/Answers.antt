use Rattle.std.proofs.Common.{ap, sym, ◌∙◌}
use Rattle.device_list.specs.DeviceList.{Devices, fails_normally}
use Rattle.commands.specs.TextsShown.{texts}
use Rattle.device_list.proofs.SteadyLemmas.{normally-steady}
use Rattle.device_list.proofs.devices.Devices.fails_normally.Goals as goal

pub returns : goal.returns
returns c =
    let call = texts c.args.call.now in
    c.fails_normally.ensures
    ∙ sym (normally-steady c.self.inside.tables c.self.inside.all_steady call)
    ∙ ap (λ (d : Devices). fails_normally d call) c.self.view_is
