use Rattle.std.proofs.Common.{◌||◌, ◌∙◌, ap, sym, is_some, true, false}
use Rattle.std.specs.Str.{bytes_eq}
use Rattle.std.specs.Map.{lookup}
use Rattle.device_list.specs.DeviceList.{Devices, effect_in}
use Rattle.device_list.specs.CommandsShown.{listed_shown}
use Rattle.device_list.proofs.MapLemmas.{has-name}
use Rattle.device_list.proofs.device_tables.DeviceTables.has.Goals as goal

pub returns-then-contains_key : goal.returns-then-contains_key
returns-then-contains_key c =
    let list = c.args.self.now in
    let name = c.args.name.now in
    let here = has-name listed_shown c.self.inside.commands.entries name true (sym c.if-contains_key.true ∙ c.contains_key.ensures) ∙ ap (λ (d : Devices). is_some (effect_in d.commands name)) c.self.view_is in
    ap (λ b. b || (is_some (lookup (bytes_eq name) list.subs) || is_some (lookup (bytes_eq name) list.calls))) here

pub returns : goal.returns
returns c =
    let list = c.args.self.now in
    let name = c.args.name.now in
    let here = has-name listed_shown c.self.inside.commands.entries name false (sym c.if-contains_key.false ∙ c.contains_key.ensures) ∙ ap (λ (d : Devices). is_some (effect_in d.commands name)) c.self.view_is in
    c.has_calls.ensures ∙ ap (λ b. b || (is_some (lookup (bytes_eq name) list.subs) || is_some (lookup (bytes_eq name) list.calls))) here
