use Rattle.std.proofs.Common.{ℕ, ap, ◌∙◌, suc}
use Rattle.hushlang.specs.TreesShown as view
use Rattle.hushlang.specs.declared.tree.Script.{Script as Code}
use Rattle.std.specs.Prelude.{Vec}
use Rattle.std.specs.declared.alloc.Global.{Global}
use Rattle.text.specs.TextsShown.{bytes_of_words}
use Rattle.bootstore_state.specs.declared.frame.At.{At}
use Rattle.rehearse_machine.specs.Places.{place}
use Rattle.rehearse_machine.proofs.ForLemmas.{no_words, some_words, values_are, for_ends, for_turns}
use Rattle.rehearse_machine.proofs.simple.start_turns.Goals as goal

pub returns-then-is_empty : goal.returns-then-is_empty
returns-then-is_empty g c top =
    let f = c.args.frame.now in
    let there = c.behind.ensures ∙ ap (λ (x : At). place x.list (suc x.command) 0 0) c.at-at.ensures in
    for_ends c.finish.result (g.S.Store.record_of c.args.store.now) (g.S.Store.record_of c.finish.new.store) f c.behind.result there (bytes_of_words c.args.fields.now) (no_words c.args.fields.now c.if-is_empty.ensures) (c.finish.ensures f top)

pub returns : goal.returns
returns g c top =
    let f = c.args.frame.now in
    let there = c.behind-2.ensures ∙ ap (λ (x : At). place x.list (suc x.command) 0 0) c.at-at.ensures in
    let child = c.with_words-turns in
    let copies = ap (λ (v : Vec (Vec ℕ Global) Global). bytes_of_words v.items) c.in_ok-fields.ensures.ok ∙ c.in_ok-copied_words.ensures in
    let values = values_are child.result f (bytes_of_words c.args.fields.now) child.ensures.kind
    (child.ensures.script ∙ ap (λ (x : Code). view.script x) c.in_ok-clone.ensures.cases ∙ c.script.ensures)
    (child.ensures.words ∙ copies)
    (child.ensures.place ∙ c.place.ensures ∙ ap (λ (x : At). place x.list x.command 0 0) c.at-at.ensures) in
    for_turns c.enter.result (g.S.Store.record_of c.args.store.now) (g.S.Store.record_of c.enter.new.store) f c.behind-2.result there child.result (bytes_of_words c.args.fields.now) values (some_words c.args.fields.now c.if-is_empty.ensures) (c.enter.ensures f top)
