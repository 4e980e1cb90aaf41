use Rattle.std.proofs.Common.{sym, ap, ◌∙◌, suc, subst, Some, Option}
use Rattle.hushlang.specs.TreesShown as view
use Rattle.hushlang.specs.declared.tree.Script.{Script as Code}
use Rattle.bootstore_state.specs.declared.frame.At.{At}
use Rattle.bootstore_state.specs.Record.{Record}
use Rattle.rehearse_terms.specs.State.{Text}
use Rattle.rehearse_machine.specs.Places.{GoOn, for_turn, place, block_frame}
use Rattle.rehearse_machine.specs.MovesShown.{under, IsTop}
use Rattle.rehearse_machine.proofs.StoreMoves.{comes_as}
use Rattle.rehearse_machine.proofs.WordLemmas.{word_none, word_some, turn_begins}
use Rattle.rehearse_machine.proofs.for_turn.next_turn.Goals as goal

pub returns-in_default : goal.returns-in_default
returns-in_default g c top =
    let fs = under (g.S.Store.record_of c.args.store.now).present in
    let f = c.args.frame.now in
    let none = word_none c.words.result.now f.words c.at-at.result.turn f.place.turn c.words.ensures (ap (λ (x : At). x.turn) c.at-at.ensures) c.in_default.ensures.lookup.3 in
    comes_as c.leave.result _ _ (GoOn fs) _ (λ s. sym (ap (λ (o : Option Text). for_turn c.args.shell o c.args.name.now (view.script c.args.body.now.value) f fs s) none)) c.leave.ensures

pub returns : goal.returns
returns g c top =
    let old = g.S.Store.record_of c.args.store.now in
    let mid = g.S.Store.record_of c.set_local.new.self in
    let begun = g.S.Store.record_of c.begin_body.new.store in
    let new = g.S.Store.record_of c.enter.new.store in
    let f = c.args.frame.now in
    let some = word_some c.words.result.now f.words c.at-at.result.turn f.place.turn c.in-Some.field.now c.words.ensures (ap (λ (x : At). x.turn) c.at-at.ensures) c.in-Some.ensures.lookup.3.0 c.in-Some.ensures.lookup.1 in
    turn_begins c.args.shell c.enter.result old mid begun new c.args.name.now c.deref.result.now (view.script c.args.body.now.value) f c.block.result c.in_turn.result
    (some ∙ ap Some (sym c.deref.ensures.value)) (c.block.ensures ∙ ap (λ (x : Code). block_frame (view.script x)) c.in_ok-clone.ensures.cases)
    (c.in_turn.ensures ∙ ap (λ (x : At). place x.list x.command (suc x.turn) 0) c.at-at.ensures) c.in_ok-set_local.ensures.ok c.in_ok-begin_body.ensures
    (c.enter.ensures f (subst (λ (x : Record). IsTop f x.present) (sym c.in_ok-begin_body.ensures) (subst (λ (x : Record). IsTop f x.present) (sym c.in_ok-set_local.ensures.ok) top)))
