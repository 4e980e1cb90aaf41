use Rattle.std.proofs.Common.{◌||◌, ◌∙◌, ap, sym, refl}
use Rattle.indexmap.specs.IndexMap.{insert_entry}
use Rattle.device_list.specs.DeviceList.{joint_behind}
use Rattle.device_list.specs.CommandsShown.{listed_shown, commands_shown}
use Rattle.device_list.specs.declared.listed.Listed.{Listed}
use Rattle.device_list.proofs.MapLemmas.{listed-joined, changed-present, changed-inserted, same_key}
use Rattle.device_list.proofs.device_tables.join.Goals as goal

pub returns-in-Some : goal.returns-in-Some
returns-in-Some c =
    let w : Listed = record { ends = c.first_finish-listed.result; stays = c.in-Some.listed.now.stays || c.args.more.stays; always = c.in-Some.listed.now.always; needs = c.in-Some.listed.now.needs; normal = c.in-Some.listed.now.normal; runs = c.in-Some.listed.now.runs; sets = c.append.new.self } in
    ap commands_shown (c.get_mut.follows.holds w).0
    ∙ changed-present listed_shown (joint_behind (listed_shown c.args.more)) c.args.table.now.entries c.args.name.now c.in-Some.listed.now w
    (sym c.in-Some.ensures.value) (listed-joined c.in-Some.listed.now w c.args.more c.first_finish-listed.ensures refl refl refl refl refl c.in_ok-append.ensures.items)

pub returns : goal.returns
returns c =
    changed-inserted listed_shown (joint_behind (listed_shown c.args.more)) c.args.table.now.entries _ c.in_ok-name.name c.args.name.now c.args.more
    c.in_default.ensures.value c.in_ok-name.ensures.items
    (c.in_ok-insert.ensures.entries ∙ ap (λ m. insert_entry same_key m.entries c.in_ok-name.name c.args.more) c.get_mut.follows.holds-at-none) refl
