use Rattle.std.proofs.Common.{◌∙◌, ap, sym}
use Rattle.indexmap.specs.IndexMap.{insert_entry}
use Rattle.device_list.specs.DeviceList.{joined_in, joined_behind}
use Rattle.device_list.specs.CommandsShown.{listed_shown, commands_shown, table_shown, subs_shown}
use Rattle.device_list.proofs.MapLemmas.{changed-present, changed-inserted, same_key}
use Rattle.device_list.proofs.device_tables.join_sub.Goals as goal

pub returns-in-Some : goal.returns-in-Some
returns-in-Some c =
    ap subs_shown (c.get_mut.follows.holds c.join.new.table).0
    ∙ changed-present table_shown (joined_behind c.args.word.now (listed_shown c.args.more)) c.args.subs.now.entries c.args.name.now c.in-Some.table.now c.join.new.table
    (sym c.in-Some.ensures.value) c.in_ok-join.ensures

pub returns : goal.returns
returns c =
    changed-inserted table_shown (joined_behind c.args.word.now (listed_shown c.args.more)) c.args.subs.now.entries _ c.in_ok-name.name c.args.name.now c.join-2.new.table
    c.in_default.ensures.value c.in_ok-name.ensures.items
    (c.in_ok-insert.ensures.entries ∙ ap (λ m. insert_entry same_key m.entries c.in_ok-name.name c.join-2.new.table) c.get_mut.follows.holds-at-none)
    (c.in_ok-join-2.ensures ∙ ap (λ es. joined_in (commands_shown es) c.args.word.now (listed_shown c.args.more)) c.with_hasher-table.ensures.empty)
