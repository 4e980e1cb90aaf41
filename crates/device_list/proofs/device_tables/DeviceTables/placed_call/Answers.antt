use Rattle.std.proofs.Common.{ap, sym, ◌∙◌, List, Option, option_map}
use Rattle.commands.specs.TextsShown.{texts}
use Rattle.device_list.specs.DeviceList.{Devices, Pattern, Effect, first_fitting}
use Rattle.device_list.specs.NamedPlaces.{at_place, placed_call}
use Rattle.device_list.specs.CommandsShown.{lines_shown, call_lines_shown}
use Rattle.device_list.specs.declared.call_line.CallLine.{CallLine}
use Rattle.device_list.proofs.PlaceLemmas.{at_place-shown}
use Rattle.device_list.proofs.device_tables.DeviceTables.placed_call.Goals as goal

pub returns : goal.returns
returns c =
    let words = texts c.args.words.now in
    let there = at_place-shown lines_shown c.self.inside.calls.entries c.args.place
    ∙ ap (option_map lines_shown) (sym c.value_at.ensures ∙ ap (option_map (λ v. v.now)) c.in_ok-lines.was) in
    c.first_fitting.ensures ∙ ap (λ (lines : List CallLine). first_fitting (call_lines_shown lines) words) c.deref.ensures.value
    ∙ sym (ap (λ (d : Devices). placed_call (at_place d.calls c.args.place) words) (sym c.self.view_is) ∙ ap (λ (o : Option (List (Pattern × Effect))). placed_call o words) there)
