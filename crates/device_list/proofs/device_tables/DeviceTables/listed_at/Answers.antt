use Rattle.std.proofs.Common.{ap, sym, ◌∙◌, Some, None}
use Rattle.std.specs.Option.{option_copied}
use Rattle.device_list.specs.DeviceList.{Devices, effect_at}
use Rattle.device_list.specs.CommandsShown.{listed_shown, table_shown}
use Rattle.device_list.specs.NamedPlaces.{in_sub}
use Rattle.device_list.proofs.MapLemmas.{looked_up, copied-shown}
use Rattle.device_list.proofs.device_tables.DeviceTables.listed_at.Goals as goal

pub returns-in_err-table : goal.returns-in_err-table
returns-in_err-table c =
    let gone = looked_up table_shown c.self.inside.subs.entries c.args.name.now None (sym c.get.ensures.value ∙ ap option_copied c.in_err-table.was) in
    rw c.from_residual.ensures
    (sym (ap (λ (d : Devices). effect_at d c.args.name.now (Some c.args.word.now)) (sym c.self.view_is) ∙ ap (λ o. in_sub o c.args.word.now) gone))

pub returns : goal.returns
returns c =
    let found = looked_up table_shown c.self.inside.subs.entries c.args.name.now (Some c.in_ok-table.table.now) (sym c.get.ensures.value ∙ ap option_copied c.in_ok-table.was) in
    let inner = looked_up listed_shown c.in_ok-table.table.now.entries c.args.word.now _ (sym c.get-2.ensures.value) in
    copied-shown c.get-2.result ∙ sym (ap (λ (d : Devices). effect_at d c.args.name.now (Some c.args.word.now)) (sym c.self.view_is) ∙ (ap (λ o. in_sub o c.args.word.now) found ∙ inner))
