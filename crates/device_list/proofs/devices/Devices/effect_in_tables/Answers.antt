use Rattle.std.proofs.Common.{ap, sym, ◌∙◌, Some, option_map}
use Rattle.device_list.specs.DeviceList.{Devices, steady_effect_if, effect_of}
use Rattle.device_list.specs.CommandsShown.{lent_effect}
use Rattle.commands.specs.TextsShown.{texts}
use Rattle.device_list.proofs.SteadyLemmas.{effect-steady}
use Rattle.device_list.proofs.devices.Devices.effect_in_tables.Goals as goal

pub returns : goal.returns
returns c =
    let words = texts c.args.words.now in
    let name = c.args.name.now in
    let list = c.self.inside.tables in
    let steady = c.self.inside.all_steady in
    ap Some c.steady_if.ensures
    ∙ ap (option_map (steady_effect_if steady)) (ap (option_map lent_effect) (sym c.in_ok-effect.was) ∙ c.effect.ensures)
    ∙ sym (effect-steady list name steady words)
    ∙ ap (λ (d : Devices). effect_of d name words) c.self.view_is

pub returns-in_err-effect : goal.returns-in_err-effect
returns-in_err-effect c =
    let words = texts c.args.words.now in
    let name = c.args.name.now in
    let list = c.self.inside.tables in
    let steady = c.self.inside.all_steady in
    ap (option_map lent_effect) c.from_residual.ensures
    ∙ ap (option_map (steady_effect_if steady)) c.in_err-effect.ensures
    ∙ sym (effect-steady list name steady words)
    ∙ ap (λ (d : Devices). effect_of d name words) c.self.view_is
