use Rattle.std.proofs.Common.{map, Bool, ap, ◌∙◌, subst, List, ℕ, Vec, Global}
use Rattle.hushlang.specs.TreesShown as view
use Rattle.hushlang.specs.Tree.{Script, Word}
use Rattle.rehearse_rules.specs.ByShell.{fields_in, reads_again}
use Rattle.rehearse_terms.specs.declared.shell.Shell.{Shell}
use Rattle.rehearse_rules.proofs.FieldLemmas.{known_in_each}
use Rattle.bootstore_state.specs.Moment.{RunningFrame}
use Rattle.text.specs.TextsShown.{bytes_of_words}
use Rattle.bootstore_state.specs.StoredState.{state_at}
use Rattle.rehearse_machine.specs.AskingCommand.{words_in_front, fields_again}
use Rattle.rehearse_machine.specs.Places.{StopOn, place_fields}
use Rattle.rehearse_rules.specs.Execution.{End}
use Rattle.rehearse_machine.specs.Variables.{parameters_at}
use Rattle.rehearse_machine.specs.MovesShown.{limits_of, under, IsExpanded}
use Rattle.rehearse_machine.proofs.NextMoveLemmas.{known_before}
use Rattle.rehearse_machine.proofs.StoreMoves.{comes_at}
use Rattle.rehearse_machine.proofs.FoundAgain.{nothing_again, too_long_again, fields_found}
use Rattle.rehearse_machine.proofs.asking.find_behind.Goals as goal

pub returns-in_default : goal.returns-in_default
returns-in_default g c top =
    let old = g.S.Store.record_of c.args.store.now in
    let nothing = nothing_again (limits_of c.args.devices.now c.args.bounds) old c.args.frame.now (under old.present) c.in_default.ensures in
    (λ w. ap (λ (n : ℕ). StopOn (End n) (state_at old.present w)) c.get_status.ensures ∙ nothing.0 w, nothing.1)

pub returns-in-Some-fields : goal.returns-in-Some-fields
returns-in-Some-fields g c top =
    let limits = limits_of c.args.devices.now c.args.bounds in
    let old = g.S.Store.record_of c.args.store.now in
    let f = c.args.frame.now in
    let words = view.call c.in-Some.command.now in
    let parameters = parameters_at old.present in
    let list = bytes_of_words c.as_slice-known.result.now in
    let shown = ap bytes_of_words c.as_slice-known.ensures.value ∙ ap (λ (x : Vec (Vec ℕ Global) Global). bytes_of_words x.items) c.deref.ensures in
    let known = known_before (view.fields_in c.in-Some-fields.known.now) (fields_in c.args.bounds.shell parameters words) (known_in_each c.args.bounds.shell parameters words _ c.in-Some-fields.ensures.known (c.in-Some-fields.ensures.fields parameters)) c.in-Some-fields.ensures.within_limit in
    comes_at c.run_fields.result old (g.S.Store.record_of c.run_fields.new.store) (place_fields limits c.look_up-named.result.again list (view.script c.script-script.result.now.value) old.present.frames) (fields_again limits (words_in_front f) f (under old.present))
    (λ w. ap (λ (x : Bool). place_fields limits x list (view.script c.script-script.result.now.value) old.present.frames (state_at old.present w)) c.look_up-named.ensures.again
    ∙ ap (λ (x : Script). place_fields limits (reads_again words) list x old.present.frames (state_at old.present w)) c.script-script.ensures
    ∙ ap (λ (x : List RunningFrame). place_fields limits (reads_again words) list f.script x (state_at old.present w)) top
    ∙ fields_found limits old f (under old.present) words c.in-Some.ensures list (shown ∙ known.0) known.1 w)
    c.run_fields.ensures

pub returns-then-not-fit : goal.returns-then-not-fit
returns-then-not-fit g c top =
    let old = g.S.Store.record_of c.args.store.now in
    let words = view.call c.in-Some.command.now in
    let expanded = subst (λ (x : List Word). IsExpanded c.in_ok-fit.fit c.expanded.new.fields (fields_in c.args.bounds.shell (parameters_at old.present) x)) c.words.ensures (subst (λ (x : Shell). IsExpanded c.in_ok-fit.fit c.expanded.new.fields (fields_in x (parameters_at old.present) (map view.word c.words.result.now))) c.shell-2.ensures c.in_ok-fit.ensures) in
    let found = subst (λ (fit : Bool). IsExpanded fit c.expanded.new.fields (fields_in c.args.bounds.shell (parameters_at old.present) words)) c.if-not-fit.true expanded in
    too_long_again (limits_of c.args.devices.now c.args.bounds) old c.args.frame.now (under old.present) words c.in-Some.ensures found

pub returns : goal.returns
returns g c top =
    let limits = limits_of c.args.devices.now c.args.bounds in
    let old = g.S.Store.record_of c.args.store.now in
    let f = c.args.frame.now in
    let words = view.call c.in-Some.command.now in
    let list = bytes_of_words c.as_slice-found.result.now in
    let expanded = subst (λ (x : List Word). IsExpanded c.in_ok-fit.fit c.expanded.new.fields (fields_in c.args.bounds.shell (parameters_at old.present) x)) c.words.ensures (subst (λ (x : Shell). IsExpanded c.in_ok-fit.fit c.expanded.new.fields (fields_in x (parameters_at old.present) (map view.word c.words.result.now))) c.shell-2.ensures c.in_ok-fit.ensures) in
    let found = subst (λ (fit : Bool). IsExpanded fit c.expanded.new.fields (fields_in c.args.bounds.shell (parameters_at old.present) words)) c.if-not-fit.false expanded in
    comes_at c.run_fields-2.result old (g.S.Store.record_of c.run_fields-2.new.store) (place_fields limits c.look_up-named-2.result.again list (view.script c.script-script.result.now.value) old.present.frames) (fields_again limits (words_in_front f) f (under old.present))
    (λ w. ap (λ (x : Bool). place_fields limits x list (view.script c.script-script.result.now.value) old.present.frames (state_at old.present w)) c.look_up-named-2.ensures.again
    ∙ ap (λ (x : Script). place_fields limits (reads_again words) list x old.present.frames (state_at old.present w)) c.script-script.ensures
    ∙ ap (λ (x : List RunningFrame). place_fields limits (reads_again words) list f.script x (state_at old.present w)) top
    ∙ fields_found limits old f (under old.present) words c.in-Some.ensures list (c.as_slice-found.ensures ∙ found.0) found.1 w)
    c.run_fields-2.ensures

pub run_fields-requires : goal.run_fields-requires
run_fields-requires g c =
    let words = view.call c.in-Some.command.now in
    let parameters = parameters_at (g.S.Store.record_of c.args.store.now).present in
    let shown = ap bytes_of_words c.as_slice-known.ensures.value ∙ ap (λ (x : Vec (Vec ℕ Global) Global). bytes_of_words x.items) c.deref.ensures in
    c.look_up-named.ensures.builtin parameters (shown ∙ known_in_each c.shell.result parameters words _ c.in-Some-fields.ensures.known (c.in-Some-fields.ensures.fields parameters))
