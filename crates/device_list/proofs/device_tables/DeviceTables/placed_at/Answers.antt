use Rattle.std.proofs.Common.{ap, sym, ◌∙◌, option_map}
use Rattle.device_list.specs.DeviceList.{Devices}
use Rattle.device_list.specs.NamedPlaces.{at_place, in_sub}
use Rattle.device_list.specs.CommandsShown.{listed_shown, table_shown}
use Rattle.device_list.proofs.MapLemmas.{looked_up, copied-shown}
use Rattle.device_list.proofs.PlaceLemmas.{at_place-shown}
use Rattle.device_list.proofs.device_tables.DeviceTables.placed_at.Goals as goal

pub returns : goal.returns
returns c =
    let word = c.args.word.now in
    let there = at_place-shown table_shown c.self.inside.subs.entries c.args.place
    ∙ ap (option_map table_shown) (sym c.value_at.ensures ∙ ap (option_map (λ v. v.now)) c.in_ok-table.was) in
    let inner = looked_up listed_shown c.in_ok-table.table.now.entries word _ (sym c.get.ensures.value) in
    copied-shown c.get.result ∙ sym (ap (λ (d : Devices). in_sub (at_place d.subs c.args.place) word) (sym c.self.view_is) ∙ (ap (λ o. in_sub o word) there ∙ inner))
