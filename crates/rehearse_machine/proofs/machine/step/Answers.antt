use Rattle.std.proofs.Common.{map, ap, ◌∙◌, sym, subst, suc, ℕ, List, ◌∷◌, true, Vec, Global}
use Rattle.hushlang.specs.TreesShown as view
use Rattle.text.specs.TextsShown.{bytes_of_words}
use Rattle.rehearse_rules.specs.ByShell.{fields_in}
use Rattle.rehearse_terms.specs.declared.shell.Shell.{Shell}
use Rattle.rehearse_rules.proofs.FieldLemmas.{known_in_each}
use Rattle.hushlang.specs.Tree.{Word}
use Rattle.hushlang.specs.declared.tree.Script.{Script as Code}
use Rattle.rehearse_terms.specs.State.{Text}
use Rattle.bootstore_state.specs.Moment.{RunningFrame}
use Rattle.bootstore_state.specs.declared.frame.At.{At}
use Rattle.rehearse_machine.specs.declared.next_move.Next.TheVariants as nexts
use Rattle.rehearse_machine.specs.Places.{GoOn, place, block_frame, moved_to}
use Rattle.rehearse_machine.specs.Variables.{parameters_at}
use Rattle.rehearse_rules.specs.Execution.{set_status}
use Rattle.rehearse_machine.specs.MovesShown.{limits_of, under, IsExpanded}
use Rattle.rehearse_machine.proofs.StoreMoves.{comes_as}
use Rattle.rehearse_machine.proofs.NextMoveLemmas.{is_top, moves_on, known_before}
use Rattle.rehearse_machine.proofs.machine.step.Goals as goal

pub returns-in-Goes : goal.returns-in-Goes
returns-in-Goes g c =
    let old = g.S.Store.record_of c.args.store.now in
    let f = c.in-Some.top.now in
    let top = is_top old.present.frames f c.in-Some.ensures in
    moves_on (limits_of c.args.devices.now c.args.bounds) c.go_on.result old (g.S.Store.record_of c.go_on.new.store) (nexts.Goes c.in-Goes.at) c.next_of.result c.shell-shell.result c.get_status-status.result f c.in-Goes.is top (sym c.shell-shell.ensures) (sym c.get_status-status.ensures) c.next_of.ensures.next
    (c.go_on.ensures f top)

pub returns-in-Finishes : goal.returns-in-Finishes
returns-in-Finishes g c =
    let old = g.S.Store.record_of c.args.store.now in
    let f = c.in-Some.top.now in
    let top = is_top old.present.frames f c.in-Some.ensures in
    moves_on (limits_of c.args.devices.now c.args.bounds) c.finish.result old (g.S.Store.record_of c.finish.new.store) (nexts.Finishes c.in-Finishes.at c.in-Finishes.status) c.next_of.result c.shell-shell.result c.get_status-status.result f c.in-Finishes.is top (sym c.shell-shell.ensures) (sym c.get_status-status.ensures) c.next_of.ensures.next
    (c.finish.ensures f top)

pub returns-in-Enters : goal.returns-in-Enters
returns-in-Enters g c =
    let old = g.S.Store.record_of c.args.store.now in
    let new = g.S.Store.record_of c.enter.new.store in
    let f = c.in-Some.top.now in
    let top = is_top old.present.frames f c.in-Some.ensures in
    let child = c.block-child.ensures ∙ ap (λ (x : Code). block_frame (view.script x)) c.in_ok-clone-in-Enters.ensures.cases in
    moves_on (limits_of c.args.devices.now c.args.bounds) c.enter.result old new (nexts.Enters c.in-Enters.at c.in-Enters.script) c.next_of.result c.shell-shell.result c.get_status-status.result f c.in-Enters.is top (sym c.shell-shell.ensures) (sym c.get_status-status.ensures) c.next_of.ensures.next
    (comes_as c.enter.result old new (GoOn (c.block-child.result ∷ moved_to c.in-Enters.at f ∷ under old.present)) _
    (λ s. ap (λ (x : RunningFrame). GoOn (x ∷ moved_to c.in-Enters.at f ∷ under old.present) s) child) (c.enter.ensures f top))

pub returns-in-Skips : goal.returns-in-Skips
returns-in-Skips g c =
    let old = g.S.Store.record_of c.args.store.now in
    let new = g.S.Store.record_of c.skip.new.store in
    let f = c.in-Some.top.now in
    let top = is_top old.present.frames f c.in-Some.ensures in
    let child = c.block-child-in-Skips.ensures ∙ ap (λ (x : Code). block_frame (view.script x)) c.in_ok-clone-in-Skips.ensures.cases in
    moves_on (limits_of c.args.devices.now c.args.bounds) c.skip.result old new (nexts.Skips c.in-Skips.at c.in-Skips.status c.in-Skips.script) c.next_of.result c.shell-shell.result c.get_status-status.result f c.in-Skips.is top (sym c.shell-shell.ensures) (sym c.get_status-status.ensures) c.next_of.ensures.next
    (comes_as c.skip.result old new (λ s. GoOn (c.block-child-in-Skips.result ∷ moved_to c.in-Skips.at f ∷ under old.present) (set_status c.in-Skips.status s)) _
    (λ s. ap (λ (x : RunningFrame). GoOn (x ∷ moved_to c.in-Skips.at f ∷ under old.present) (set_status c.in-Skips.status s)) child) (c.skip.ensures f top))

pub returns-in-Some-fields : goal.returns-in-Some-fields
returns-in-Some-fields g c =
    let old = g.S.Store.record_of c.args.store.now in
    let f = c.in-Some.top.now in
    let top = is_top old.present.frames f c.in-Some.ensures in
    let words = view.call c.in-Calls.command.now in
    let parameters = parameters_at old.present in
    let shown = ap bytes_of_words c.as_slice-known.ensures.value ∙ ap (λ (x : Vec (Vec ℕ Global) Global). bytes_of_words x.items) (c.deref.ensures ∙ c.in_ok-known-in-Calls.ensures.cases) in
    let known = known_before (view.fields_in c.in-Some-fields.known.now) (fields_in c.args.bounds.shell parameters words) (known_in_each c.args.bounds.shell parameters words _ c.in-Some-fields.ensures.known (c.in-Some-fields.ensures.fields parameters)) c.in-Some-fields.ensures.within_limit in
    let found = subst (λ (x : List Text). IsExpanded true x (fields_in c.args.bounds.shell parameters words)) (sym shown) known in
    let script = ap (λ (x : Code). view.script x) c.in_ok-script-in-Calls.ensures.cases ∙ c.script.ensures in
    moves_on (limits_of c.args.devices.now c.args.bounds) c.call.result old (g.S.Store.record_of c.call.new.store) (nexts.Calls c.in-Calls.command) c.next_of.result c.shell-shell.result c.get_status-status.result f c.in-Calls.is top (sym c.shell-shell.ensures) (sym c.get_status-status.ensures) c.next_of.ensures.next
    (c.call.ensures f words (c.behind-after.ensures ∙ ap (λ (x : At). place x.list (suc x.command) 0 0) c.at.ensures) script c.look_up-named.ensures.again found top)

pub returns-in-Calls : goal.returns-in-Calls
returns-in-Calls g c =
    let old = g.S.Store.record_of c.args.store.now in
    let f = c.in-Some.top.now in
    let top = is_top old.present.frames f c.in-Some.ensures in
    let words = view.call c.in-Calls.command.now in
    let expanded = subst (λ (x : List Word). IsExpanded c.in_ok-fit-in-Calls.fit c.expanded.new.fields (fields_in c.args.bounds.shell (parameters_at old.present) x)) c.words.ensures (subst (λ (x : Shell). IsExpanded c.in_ok-fit-in-Calls.fit c.expanded.new.fields (fields_in x (parameters_at old.present) (map view.word c.words.result.now))) c.shell-in-Calls.ensures c.in_ok-fit-in-Calls.ensures) in
    let found = subst (λ (x : List Text). IsExpanded c.in_ok-fit-in-Calls.fit x (fields_in c.args.bounds.shell (parameters_at old.present) words)) (sym c.as_slice-found.ensures) expanded in
    let script = ap (λ (x : Code). view.script x) c.in_ok-script-in-Calls.ensures.cases ∙ c.script.ensures in
    moves_on (limits_of c.args.devices.now c.args.bounds) c.call-in-Calls.result old (g.S.Store.record_of c.call-in-Calls.new.store) (nexts.Calls c.in-Calls.command) c.next_of.result c.shell-shell.result c.get_status-status.result f c.in-Calls.is top (sym c.shell-shell.ensures) (sym c.get_status-status.ensures) c.next_of.ensures.next
    (c.call-in-Calls.ensures f words (c.behind-after.ensures ∙ ap (λ (x : At). place x.list (suc x.command) 0 0) c.at.ensures) script c.look_up-named-in-Calls.ensures.again found top)

pub call-requires-clause-named : goal.call-requires-clause-named
call-requires-clause-named g c fit =
    let words = view.call c.in-Calls.command.now in
    let parameters = parameters_at (g.S.Store.record_of c.args.store.now).present in
    let shown = ap bytes_of_words c.as_slice-known.ensures.value ∙ ap (λ (x : Vec (Vec ℕ Global) Global). bytes_of_words x.items) (c.deref.ensures ∙ c.in_ok-known-in-Calls.ensures.cases) in
    c.look_up-named.ensures.builtin parameters (shown ∙ known_in_each c.shell.result parameters words _ c.in-Some-fields.ensures.known (c.in-Some-fields.ensures.fields parameters))
