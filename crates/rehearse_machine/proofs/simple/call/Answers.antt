use Rattle.std.proofs.Common.{◌≡◌, sym, ap, ◌∙◌, List, ◌∷◌, refl, subst, Bool}
use Rattle.hushlang.specs.TreesShown as view
use Rattle.hushlang.specs.Tree.{Script}
use Rattle.bootstore_state.specs.Moment.{RunningFrame}
use Rattle.text.specs.TextsShown.{bytes_of_words}
use Rattle.bootstore_state.specs.Record.{Record, with_place, moved}
use Rattle.bootstore_state.specs.StoredState.{state_at}
use Rattle.rehearse_rules.specs.ByShell.{fields_in, reads_again}
use Rattle.rehearse_machine.specs.Variables.{parameters_at}
use Rattle.rehearse_machine.specs.MovesShown.{limits_of, under, Keeps, IsCounted, IsExpanded}
use Rattle.rehearse_machine.specs.Places.{place_fields, behind}
use Rattle.rehearse_machine.proofs.StoreMoves.{keeps_change}
use Rattle.rehearse_machine.proofs.NextMoveLemmas.{found_before}
use Rattle.rehearse_machine.proofs.Beginnings.{too_long, comes_with, behind_top}
use Rattle.rehearse_machine.proofs.simple.call.Goals as goal

pub returns-then-not-fit : goal.returns-then-not-fit
returns-then-not-fit g c f words after script read found top =
    let limits = limits_of c.args.devices.now c.args.bounds in
    let old = g.S.Store.record_of c.args.store.now in
    let mid = g.S.Store.record_of c.count.new.store in
    let list = bytes_of_words c.args.fields.now in
    let counted = subst (λ (b : Bool). IsCounted c.args.bounds b old mid) c.if-not-counted.false c.in_ok-counted.ensures in
    let known = found_before limits.shell c.args.fit list words old mid counted.1 found in
    too_long limits old mid (λ p. fields_in limits.shell p words) (λ found. place_fields limits (reads_again words) found f.script (behind f ∷ under old.present)) counted.0 counted.1
    (subst (λ (fit : Bool). IsExpanded fit list (fields_in limits.shell (parameters_at mid.present) words)) c.if-not-fit.true known)

pub returns : goal.returns
returns g c f words after script read found top =
    let limits = limits_of c.args.devices.now c.args.bounds in
    let old = g.S.Store.record_of c.args.store.now in
    let mid = g.S.Store.record_of c.count.new.store in
    let late = g.S.Store.record_of c.advance.new.self in
    let new = g.S.Store.record_of c.run_fields.new.store in
    let list = bytes_of_words c.args.fields.now in
    let counted = subst (λ (b : Bool). IsCounted c.args.bounds b old mid) c.if-not-counted.false c.in_ok-counted.ensures in
    let known = found_before limits.shell c.args.fit list words old mid counted.1 found in
    let fits = subst (λ (fit : Bool). IsExpanded fit list (fields_in limits.shell (parameters_at mid.present) words)) c.if-not-fit.false known in
    let adv = c.in_ok-advance.ensures.ok in
    let code = view.script c.args.script.now.value in
    let frames_are : late.present.frames ≡ behind f ∷ under old.present = ap (λ (r : Record). r.present.frames) adv ∙ ap (λ (r : Record). moved c.args.after r.present.frames) counted.1 ∙ behind_top f old c.args.after top after in
    comes_with limits old mid (λ p. fields_in limits.shell p words) (λ found. place_fields limits (reads_again words) found f.script (behind f ∷ under old.present)) counted.0 counted.1 c.run_fields.result late new list (place_fields limits c.args.named.again list code late.present.frames) fits.0 fits.1
    (λ w. ap (λ (r : Record). state_at r.present w) adv)
    (subst (λ (r : Record). Keeps mid r) (sym adv) (keeps_change (with_place c.args.after) mid refl))
    (λ s. ap (λ (x : Bool). place_fields limits x list code late.present.frames s) read
    ∙ ap (λ (x : Script). place_fields limits (reads_again words) list x late.present.frames s) script
    ∙ ap (λ (x : List RunningFrame). place_fields limits (reads_again words) list f.script x s) frames_are)
    c.run_fields.ensures
