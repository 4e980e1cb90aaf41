use Rattle.std.proofs.Common.{◌≡◌, map, subst, sym, Bool}
use Rattle.hushlang.specs.TreesShown as view
use Rattle.rehearse_rules.specs.ByShell.{status_of_for}
use Rattle.rehearse_terms.specs.declared.shell.Shell.{Shell}
use Rattle.bootstore_state.specs.Record.{Record, changed, with_status}
use Rattle.rehearse_machine.specs.MovesShown.{limits_of, under, Comes, IsCounted, IsTop}
use Rattle.rehearse_machine.specs.Places.{place_for, place_words}
use Rattle.rehearse_machine.proofs.Beginnings.{counted_begins, for_status_begins}
use Rattle.rehearse_machine.proofs.simple.begin_for.Goals as goal

pub returns : goal.returns
returns g c devices top =
    let limits = limits_of devices c.args.bounds in
    let old = g.S.Store.record_of c.args.store.now in
    let mid = g.S.Store.record_of c.count.new.store in
    let set = g.S.Store.record_of c.begin_status.new.store in
    let new = g.S.Store.record_of c.begin_words.new.store in
    let f = c.args.frame.now in
    let name = c.args.name.now in
    let words = map view.word c.args.words.now in
    let counted = subst (λ (b : Bool). IsCounted c.args.bounds b old mid) c.if-not-counted.false c.in_ok-counted.ensures in
    let status = subst (λ (x : Shell). set ≡ changed (with_status (status_of_for x mid.present.status)) mid) c.shell-shell.ensures c.in_ok-begin_status.ensures in
    let there = subst (λ (r : Record). IsTop f r.present) (sym status) (subst (λ (r : Record). IsTop f r.present) (sym counted.1) top) in
    let comes = subst (λ (x : Shell). Comes c.begin_words.result set new (place_words x name words f (under set.present))) c.shell-shell.ensures (c.begin_words.ensures there) in
    counted_begins limits c.begin_words.result (place_for limits.shell name words f) old mid new counted.0 counted.1
    (for_status_begins limits.shell c.begin_words.result (place_words limits.shell name words f) mid set new status comes)
