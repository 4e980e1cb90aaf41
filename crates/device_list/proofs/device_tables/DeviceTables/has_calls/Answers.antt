use Rattle.std.proofs.Common.{◌||◌, ◌∙◌, ap, sym, is_some, true, false}
use Rattle.std.specs.Str.{bytes_eq}
use Rattle.std.specs.Map.{lookup}
use Rattle.device_list.specs.DeviceList.{Devices}
use Rattle.device_list.specs.CommandsShown.{table_shown, lines_shown}
use Rattle.device_list.proofs.MapLemmas.{has-name}
use Rattle.device_list.proofs.device_tables.DeviceTables.has_calls.Goals as goal

pub returns-then-contains_key : goal.returns-then-contains_key
returns-then-contains_key c =
    let name = c.args.name.now in
    let here = has-name table_shown c.self.inside.subs.entries name true (sym c.if-contains_key.true ∙ c.contains_key.ensures) ∙ ap (λ (d : Devices). is_some (lookup (bytes_eq name) d.subs)) c.self.view_is in
    c.if-contains_key.true ∙ ap (λ b. b || is_some (lookup (bytes_eq name) c.args.self.now.calls)) here

pub returns-else-contains_key : goal.returns-else-contains_key
returns-else-contains_key c =
    let name = c.args.name.now in
    let here = has-name table_shown c.self.inside.subs.entries name false (sym c.if-contains_key.false ∙ c.contains_key.ensures) ∙ ap (λ (d : Devices). is_some (lookup (bytes_eq name) d.subs)) c.self.view_is in
    let there = has-name lines_shown c.self.inside.calls.entries name _ c.contains_key-else-contains_key.ensures ∙ ap (λ (d : Devices). is_some (lookup (bytes_eq name) d.calls)) c.self.view_is in
    there ∙ ap (λ b. b || is_some (lookup (bytes_eq name) c.args.self.now.calls)) here
