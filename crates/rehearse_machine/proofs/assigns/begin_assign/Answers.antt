use Rattle.std.proofs.Common.{subst, sym, map, ◌∷◌, Bool}
use Rattle.hushlang.specs.TreesShown as view
use Rattle.bootstore_state.specs.Record.{Record}
use Rattle.rehearse_terms.specs.declared.shell.Shell.{Shell}
use Rattle.rehearse_machine.specs.Places.{behind, place_assign}
use Rattle.rehearse_machine.specs.MovesShown.{limits_of, under, Comes, IsCounted, IsTop}
use Rattle.rehearse_machine.proofs.AssignLemmas.{assign_begins}
use Rattle.rehearse_machine.proofs.assigns.begin_assign.Goals as goal

pub returns : goal.returns
returns g c devices top =
    let old = g.S.Store.record_of c.args.store.now in
    let mid = g.S.Store.record_of c.count.new.store in
    let new = g.S.Store.record_of c.assign.new.store in
    let counted = subst (λ (b : Bool). IsCounted c.args.bounds b old mid) c.if-not-counted.false c.in_ok-counted.ensures in
    let comes = c.assign.ensures (subst (λ (r : Record). IsTop c.args.frame.now r.present) (sym counted.1) top) in
    assign_begins (limits_of devices c.args.bounds) c.assign.result c.args.values.now c.args.frame.now old mid new counted.0 counted.1
    (subst (λ (x : Shell). Comes c.assign.result mid new (place_assign x (map view.value c.args.values.now) (behind c.args.frame.now ∷ under mid.present))) c.shell.ensures comes)
