use Rattle.std.proofs.Common.{◌≡◌, ap, sym, ◌∙◌, Option, Some, None, option_map}
use Rattle.device_list.specs.DeviceList.{Effect, Devices}
use Rattle.device_list.specs.NamedPlaces.{at_place, placed_sub}
use Rattle.commands.specs.TextsShown.{texts}
use Rattle.device_list.specs.CommandsShown.{listed_shown, found_shown}
use Rattle.device_list.proofs.PlaceLemmas.{at_place-shown}
use Rattle.device_list.proofs.device_tables.DeviceTables.placed_line.Goals as goal

pub returns : goal.returns
returns c =
    let places = c.args.places in
    let no_sub : None ≡ placed_sub (at_place c.args.self.now.subs places.sub) (texts c.args.words.now) = ap (option_map found_shown) (sym c.in_default.is) ∙ c.placed_sub.ensures in
    let there = at_place-shown listed_shown c.self.inside.commands.entries places.command
    ∙ ap (option_map listed_shown) (sym c.value_at.ensures ∙ ap (option_map (λ v. v.now)) c.in_ok-listed.was) in
    ap Some c.effect-2.ensures
    ∙ (sym there ∙ (ap (λ (d : Devices). at_place d.commands places.command) c.self.view_is
    ∙ ap (λ (o : Option Effect). elim o [ Some effect ↦ Some effect | None ↦ at_place c.args.self.now.commands places.command ]) no_sub))
