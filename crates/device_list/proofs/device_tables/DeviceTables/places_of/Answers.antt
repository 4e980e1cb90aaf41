use Rattle.std.proofs.Common.{subst}
use Rattle.device_list.specs.DeviceList.{Devices}
use Rattle.device_list.specs.NamedPlaces.{IsPlaced}
use Rattle.device_list.specs.CommandsShown.{listed_shown, table_shown, lines_shown}
use Rattle.device_list.proofs.PlaceLemmas.{placed}
use Rattle.device_list.proofs.device_tables.DeviceTables.places_of.Goals as goal

pub returns : goal.returns
returns c =
    let P : Devices → Type 0 = λ d. IsPlaced d c.args.name.now (record { command = c.get_index_of.result; sub = c.get_index_of-2.result; call = c.get_index_of-3.result }) in
    subst P c.self.view_is (
      placed listed_shown c.self.inside.commands.entries c.args.name.now _ c.get_index_of.ensures.found c.get_index_of.ensures.value,
      (
        placed table_shown c.self.inside.subs.entries c.args.name.now _ c.get_index_of-2.ensures.found c.get_index_of-2.ensures.value,
        placed lines_shown c.self.inside.calls.entries c.args.name.now _ c.get_index_of-3.ensures.found c.get_index_of-3.ensures.value,
      ),
    )
