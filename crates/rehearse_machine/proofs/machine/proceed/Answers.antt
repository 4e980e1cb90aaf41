use Rattle.std.proofs.Common.{map, ap, ◌∙◌, sym, subst, suc, ℕ, List, ◌∷◌, true, Vec, Global}
use Rattle.hushlang.specs.TreesShown as view
use Rattle.text.specs.TextsShown.{bytes_of_words}
use Rattle.rehearse_rules.specs.ByShell.{fields_in}
use Rattle.rehearse_terms.specs.declared.shell.Shell.{Shell}
use Rattle.rehearse_rules.proofs.FieldLemmas.{known_in_each}
use Rattle.hushlang.specs.Tree.{Word}
use Rattle.hushlang.specs.declared.tree.Script.{Script as Code}
use Rattle.rehearse_terms.specs.State.{Text}
use Rattle.bootstore_state.specs.Moment.{RunningFrame}
use Rattle.bootstore_state.specs.declared.frame.At.{At}
use Rattle.rehearse_machine.specs.declared.next_move.Next.TheVariants as nexts
use Rattle.rehearse_machine.specs.Places.{GoOn, place, block_frame, moved_to}
use Rattle.rehearse_machine.specs.Variables.{parameters_at}
use Rattle.rehearse_rules.specs.Execution.{set_status}
use Rattle.rehearse_machine.specs.MovesShown.{limits_of, under, IsExpanded}
use Rattle.rehearse_machine.proofs.StoreMoves.{comes_as}
use Rattle.rehearse_machine.proofs.NextMoveLemmas.{proceeds, known_before}
use Rattle.rehearse_machine.proofs.machine.proceed.Goals as goal

pub returns-in-Goes : goal.returns-in-Goes
returns-in-Goes g c top =
    proceeds (limits_of c.args.devices.now c.args.bounds) c.go_on.result _ _ (nexts.Goes c.in-Goes.at) c.args.next c.args.frame.now c.in-Goes.is (c.go_on.ensures c.args.frame.now top)

pub returns-in-Finishes : goal.returns-in-Finishes
returns-in-Finishes g c top =
    proceeds (limits_of c.args.devices.now c.args.bounds) c.finish.result _ _ (nexts.Finishes c.in-Finishes.at c.in-Finishes.status) c.args.next c.args.frame.now c.in-Finishes.is (c.finish.ensures c.args.frame.now top)

pub returns-in_ok-clone-in-Enters : goal.returns-in_ok-clone-in-Enters
returns-in_ok-clone-in-Enters g c top =
    let old = g.S.Store.record_of c.args.store.now in
    let f = c.args.frame.now in
    let child = c.block.ensures ∙ ap (λ (x : Code). block_frame (view.script x)) c.in_ok-clone-in-Enters.ensures.cases in
    proceeds (limits_of c.args.devices.now c.args.bounds) c.enter.result old (g.S.Store.record_of c.enter.new.store) (nexts.Enters c.in-Enters.at c.in-Enters.script) c.args.next f c.in-Enters.is
    (comes_as c.enter.result old (g.S.Store.record_of c.enter.new.store) (GoOn (c.block.result ∷ moved_to c.in-Enters.at f ∷ under old.present)) _
    (λ s. ap (λ (x : RunningFrame). GoOn (x ∷ moved_to c.in-Enters.at f ∷ under old.present) s) child) (c.enter.ensures f top))

pub returns-in_ok-clone-in-Skips : goal.returns-in_ok-clone-in-Skips
returns-in_ok-clone-in-Skips g c top =
    let old = g.S.Store.record_of c.args.store.now in
    let f = c.args.frame.now in
    let child = c.block-in-Skips.ensures ∙ ap (λ (x : Code). block_frame (view.script x)) c.in_ok-clone-in-Skips.ensures.cases in
    proceeds (limits_of c.args.devices.now c.args.bounds) c.skip.result old (g.S.Store.record_of c.skip.new.store) (nexts.Skips c.in-Skips.at c.in-Skips.status c.in-Skips.script) c.args.next f c.in-Skips.is
    (comes_as c.skip.result old (g.S.Store.record_of c.skip.new.store) (λ s. GoOn (c.block-in-Skips.result ∷ moved_to c.in-Skips.at f ∷ under old.present) (set_status c.in-Skips.status s)) _
    (λ s. ap (λ (x : RunningFrame). GoOn (x ∷ moved_to c.in-Skips.at f ∷ under old.present) (set_status c.in-Skips.status s)) child) (c.skip.ensures f top))

pub returns-in-Some : goal.returns-in-Some
returns-in-Some g c top =
    let old = g.S.Store.record_of c.args.store.now in
    let f = c.args.frame.now in
    let words = view.call c.in-Calls.command.now in
    let parameters = parameters_at old.present in
    let shown = ap bytes_of_words c.as_slice-known.ensures.value ∙ ap (λ (x : Vec (Vec ℕ Global) Global). bytes_of_words x.items) c.deref.ensures in
    let known = known_before (view.fields_in c.in-Some.known.now) (fields_in c.args.bounds.shell parameters words) (known_in_each c.args.bounds.shell parameters words _ c.in-Some.ensures.known (c.in-Some.ensures.fields parameters)) c.in-Some.ensures.within_limit in
    let found = subst (λ (x : List Text). IsExpanded true x (fields_in c.args.bounds.shell parameters words)) (sym shown) known in
    proceeds (limits_of c.args.devices.now c.args.bounds) c.call.result old (g.S.Store.record_of c.call.new.store) (nexts.Calls c.in-Calls.command) c.args.next f c.in-Calls.is
    (c.call.ensures f words (c.behind-after.ensures ∙ ap (λ (x : At). place x.list (suc x.command) 0 0) c.at.ensures) c.script-script.ensures c.look_up-named.ensures.again found top)

pub returns-in_ok-fit-in-Calls : goal.returns-in_ok-fit-in-Calls
returns-in_ok-fit-in-Calls g c top =
    let old = g.S.Store.record_of c.args.store.now in
    let f = c.args.frame.now in
    let words = view.call c.in-Calls.command.now in
    let expanded = subst (λ (x : List Word). IsExpanded c.in_ok-fit-in-Calls.fit c.expanded.new.fields (fields_in c.args.bounds.shell (parameters_at old.present) x)) c.words.ensures (subst (λ (x : Shell). IsExpanded c.in_ok-fit-in-Calls.fit c.expanded.new.fields (fields_in x (parameters_at old.present) (map view.word c.words.result.now))) c.shell-in-Calls.ensures c.in_ok-fit-in-Calls.ensures) in
    let found = subst (λ (x : List Text). IsExpanded c.in_ok-fit-in-Calls.fit x (fields_in c.args.bounds.shell (parameters_at old.present) words)) (sym c.as_slice-found.ensures) expanded in
    proceeds (limits_of c.args.devices.now c.args.bounds) c.call-in-Calls.result old (g.S.Store.record_of c.call-in-Calls.new.store) (nexts.Calls c.in-Calls.command) c.args.next f c.in-Calls.is
    (c.call-in-Calls.ensures f words (c.behind-after.ensures ∙ ap (λ (x : At). place x.list (suc x.command) 0 0) c.at.ensures) c.script-script.ensures c.look_up-named-in-Calls.ensures.again found top)

pub returns-in-Assigns : goal.returns-in-Assigns
returns-in-Assigns g c top =
    proceeds (limits_of c.args.devices.now c.args.bounds) c.begin_assign.result _ _ (nexts.Assigns c.in-Assigns.values) c.args.next c.args.frame.now c.in-Assigns.is (c.begin_assign.ensures c.args.devices.now top)

pub returns-in-Loops : goal.returns-in-Loops
returns-in-Loops g c top =
    proceeds (limits_of c.args.devices.now c.args.bounds) c.begin_for.result _ _ (nexts.Loops c.in-Loops.name c.in-Loops.words) c.args.next c.args.frame.now c.in-Loops.is (c.begin_for.ensures c.args.devices.now top)

pub call-requires-clause-named : goal.call-requires-clause-named
call-requires-clause-named g c fit =
    let words = view.call c.in-Calls.command.now in
    let parameters = parameters_at (g.S.Store.record_of c.args.store.now).present in
    let shown = ap bytes_of_words c.as_slice-known.ensures.value ∙ ap (λ (x : Vec (Vec ℕ Global) Global). bytes_of_words x.items) c.deref.ensures in
    c.look_up-named.ensures.builtin parameters (shown ∙ known_in_each c.shell.result parameters words _ c.in-Some.ensures.known (c.in-Some.ensures.fields parameters))
