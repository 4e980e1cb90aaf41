use Rattle.std.proofs.Common.{◌≡◌, sym, subst, ap, ◌∙◌, Vec, Global, IfOk, option_map}
use Rattle.device_list.specs.Imports.{Entries, is_start, last_in, whole}
use Rattle.device_list.specs.ImportsShown.{all_entries}
use Rattle.device_list.specs.declared.imports.Entry.{Entry}
use Rattle.device_list.proofs.ImportLemmas.{read_to}
use Rattle.device_list.proofs.imports.entries_in.Goals as goal

pub returns-then-is_start : goal.returns-then-is_start
returns-then-is_start c =
    let s = c.loop-at.entries in
    let start = sym c.is_start.ensures ∙ c.if-is_start.true in
    let at_start = ap (λ (e : Entries). is_start e.part) c.entries.view_is in
    let same = read_to c.args.room c.loop-at.at s c.args.text.now c.loop-at-test.true c.if-room-at.true (sym at_start ∙ start) c.loop-at.invariant in
    subst (λ (e : Entries). IfOk c.whole.result (λ all. option_map (λ (v : Vec Entry Global). all_entries v.items) all ≡ whole (last_in e.part e))) (sym same) c.whole.ensures
