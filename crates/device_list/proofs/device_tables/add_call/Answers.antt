use Rattle.std.proofs.Common.{◌≡◌, ◌++◌, ◌∙◌, [], ◌∷◌, ap, sym, Some, map}
use Rattle.std.proofs.lemmas.List.{map-append}
use Rattle.indexmap.specs.IndexMap.{insert_entry}
use Rattle.device_list.specs.DeviceList.{with_fitting}
use Rattle.device_list.specs.CommandsShown.{line_shown, lines_shown, calls_shown, said_shown}
use Rattle.device_list.proofs.MapLemmas.{changed-present, changed-inserted, same_key}
use Rattle.device_list.proofs.device_tables.add_call.Goals as goal

pub returns-in-Some : goal.returns-in-Some
returns-in-Some c =
    let call = said_shown c.args.call in
    let pushed : lines_shown c.push.new.self ≡ with_fitting call (Some (lines_shown c.in-Some.lines.now)) =
    ap (map line_shown) c.in_ok-push.ensures.items ∙ map-append line_shown c.in-Some.lines.now.items (c.args.call.line ∷ []) in
    ap calls_shown (c.get_mut.follows.holds c.push.new.self).0
    ∙ changed-present lines_shown (with_fitting call) c.args.calls.now.entries c.args.call.name.now c.in-Some.lines.now c.push.new.self
    (sym c.in-Some.ensures.value) pushed

pub returns : goal.returns
returns c =
    changed-inserted lines_shown (with_fitting (said_shown c.args.call)) c.args.calls.now.entries _ c.in_ok-name.name c.args.call.name.now c.push-2.new.self
    c.in_default.ensures.value c.in_ok-name.ensures.items
    (c.in_ok-insert.ensures.entries ∙ ap (λ m. insert_entry same_key m.entries c.in_ok-name.name c.push-2.new.self) c.get_mut.follows.holds-at-none)
    (ap (map line_shown) (c.in_ok-push-2.ensures.items ∙ ap (λ items. items ++ c.args.call.line ∷ []) c.new-lines.ensures.items))
