use Rattle.std.proofs.Common.{ap, ◌∙◌, sym, subst, List, length}
use Rattle.std.proofs.Math.Dec.{eqb}
use Rattle.hushlang.specs.declared.tree.AndOr.{AndOr as ListCode}
use Rattle.hushlang.specs.declared.tree.Script.{Script as Code, out-Script}
use Rattle.bootstore_state.specs.Record.{Record}
use Rattle.rehearse_machine.specs.MovesShown.{IsTop}
use Rattle.rehearse_machine.proofs.NameLemmas.{text_goes, text_empty}
use Rattle.rehearse_machine.proofs.frame_moves.push_text.Goals as goal

pub returns-then-is_empty : goal.returns-then-is_empty
returns-then-is_empty g c f top =
    let old = g.S.Store.record_of c.args.store.now in
    let counts = ap (λ (x : List ListCode). eqb (length x) 0) c.as_slice.ensures.value ∙ ap (λ (x : Code). eqb (length (out-Script x).lists.items) 0) c.deref.ensures in
    let mid = g.S.Store.record_of c.set_status.new.self in
    text_empty c.enter.result old (g.S.Store.record_of c.enter.new.store) f c.text-child.result c.args.at c.args.script.value c.text-child.ensures
    mid c.in_ok-set_status.ensures.ok (c.if-is_empty.ensures ∙ counts)
    (c.enter.ensures f (subst (λ (x : Record). IsTop f x.present) (sym c.in_ok-set_status.ensures.ok) top))

pub returns : goal.returns
returns g c f top =
    let old = g.S.Store.record_of c.args.store.now in
    let counts = ap (λ (x : List ListCode). eqb (length x) 0) c.as_slice.ensures.value ∙ ap (λ (x : Code). eqb (length (out-Script x).lists.items) 0) c.deref.ensures in
    text_goes c.enter-2.result old (g.S.Store.record_of c.enter-2.new.store) f c.text-child.result c.args.at c.args.script.value c.text-child.ensures
    (c.if-is_empty.ensures ∙ counts) (c.enter-2.ensures f top)
