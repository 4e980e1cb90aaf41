use Rattle.std.proofs.Common.{◌≡◌, ap, sym, ◌∙◌, Option, Some, None, option_map}
use Rattle.std.specs.Option.{option_copied}
use Rattle.device_list.specs.DeviceList.{Effect, Devices, sub_effect, effect_at}
use Rattle.commands.specs.TextsShown.{texts}
use Rattle.device_list.specs.CommandsShown.{listed_shown, found_shown}
use Rattle.device_list.proofs.MapLemmas.{looked_up}
use Rattle.device_list.proofs.device_tables.DeviceTables.line_effect.Goals as goal

pub returns-in-Some : goal.returns-in-Some
returns-in-Some c =
    let found : Some (found_shown c.in-Some.listed) ≡ sub_effect c.args.self.now c.args.name.now (texts c.args.words.now) = c.in-Some.ensures in
    ap Some c.effect.ensures
    ∙ ap (λ (o : Option Effect). elim o [ Some effect ↦ Some effect | None ↦ effect_at c.args.self.now c.args.name.now None ]) found

pub returns-in_err-listed : goal.returns-in_err-listed
returns-in_err-listed c =
    let no_sub : None ≡ sub_effect c.args.self.now c.args.name.now (texts c.args.words.now) = ap (option_map found_shown) (sym c.in_default.is) ∙ c.sub_listed.ensures in
    let gone = looked_up listed_shown c.self.inside.commands.entries c.args.name.now None (sym c.get.ensures.value ∙ ap option_copied c.in_err-listed.was) in
    rw c.from_residual.ensures
    (sym gone ∙ (ap (λ (d : Devices). effect_at d c.args.name.now None) c.self.view_is
    ∙ ap (λ (o : Option Effect). elim o [ Some effect ↦ Some effect | None ↦ effect_at c.args.self.now c.args.name.now None ]) no_sub))

pub returns : goal.returns
returns c =
    let no_sub : None ≡ sub_effect c.args.self.now c.args.name.now (texts c.args.words.now) = ap (option_map found_shown) (sym c.in_default.is) ∙ c.sub_listed.ensures in
    let found = looked_up listed_shown c.self.inside.commands.entries c.args.name.now (Some c.in_ok-listed.listed.now) (sym c.get.ensures.value ∙ ap option_copied c.in_ok-listed.was) in
    ap Some c.effect-2.ensures
    ∙ (sym found ∙ (ap (λ (d : Devices). effect_at d c.args.name.now None) c.self.view_is
    ∙ ap (λ (o : Option Effect). elim o [ Some effect ↦ Some effect | None ↦ effect_at c.args.self.now c.args.name.now None ]) no_sub))
