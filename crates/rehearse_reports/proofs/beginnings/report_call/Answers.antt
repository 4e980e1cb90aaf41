use Rattle.std.proofs.Common.{ℕ, suc, List, [], ◌≡◌, ◌∙◌, ap, sym, Vec, Global, true, nat_lt, nat_le, arith}
use Rattle.std.proofs.lemmas.Bool.{lt-ltb}
use Rattle.text.specs.TextsShown.{bytes_of_words}
use Rattle.hushlang.specs.Tree as tree
use Rattle.hushlang.specs.TreesShown as view
use Rattle.hushlang.specs.Expansion.{size, most_bytes}
use Rattle.rehearse_terms.specs.State.{Text}
use Rattle.bootstore_state.specs.StoredState.{state_at}
use Rattle.rehearse_rules.specs.ByShell.{reads_again}
use Rattle.rehearse_rules.specs.Parameters.{parameters_in}
use Rattle.rehearse_rules.proofs.FieldLemmas.{known_in_each}
use Rattle.rehearse_machine.specs.Variables.{parameters_at}
use Rattle.rehearse_machine.specs.MovesShown.{limits_of}
use Rattle.rehearse_machine.proofs.ParameterLemmas.{same_parameters}
use Rattle.rehearse_reports.specs.ReportsShown.{accesses_shown}
use Rattle.rehearse_reports.proofs.CoverLemmas.{none_begun}
use Rattle.rehearse_reports.proofs.FrameLemmas.{not_less}
use Rattle.rehearse_reports.proofs.NamedLemmas.{quietly}
use Rattle.rehearse_reports.proofs.StartLemmas.{call_reports, call_too_long, call_expanded}
use Rattle.rehearse_reports.proofs.beginnings.report_call.Goals as goal

pub returns-then-steps : goal.returns-then-steps
returns-then-steps g c =
    let now = (g.S.Store.record_of c.args.store.now).present in
    let a = c.steps.ensures in let b = c.steps-2.ensures.steps in let h = c.if-steps.true in
    quietly (accesses_shown c.args.reported.now) _ (none_begun (limits_of c.args.devices.now c.args.bounds) (tree.Simple (view.call c.args.call.now)) (state_at now []) (not_less now.steps c.args.bounds.steps (omega arith)))

pub returns-in-Some : goal.returns-in-Some
returns-in-Some g c =
    let now = (g.S.Store.record_of c.args.store.now).present in
    let s = state_at now [] in
    let words = view.call c.args.call.now in
    let a = c.steps.ensures in let b = c.steps-2.ensures.steps in let h = c.if-steps.false in
    let less : nat_lt now.steps c.args.bounds.steps ≡ true = lt-ltb now.steps c.args.bounds.steps (omega arith) in
    let shown = ap bytes_of_words c.as_slice.ensures.value ∙ ap (λ (x : Vec (Vec ℕ Global) Global). bytes_of_words x.items) c.deref.ensures in
    let known = known_in_each c.args.bounds.shell (parameters_in s.memory) words _ c.in-Some.ensures.known (c.in-Some.ensures.fields (parameters_in s.memory)) in
    call_reports (limits_of c.args.devices.now c.args.bounds) s words less (accesses_shown c.args.reported.now) (accesses_shown c.report_words.new.reported) _ c.words.ensures c.in_ok-report_words.ensures c.report_fields.result (accesses_shown c.report_fields.new.reported) (bytes_of_words c.as_slice.result.now)
    (shown ∙ known) (ap (λ (fs : List Text). nat_le (size fs) most_bytes) shown ∙ c.in-Some.ensures.within_limit) (c.report_fields.ensures (reads_again (view.call c.args.call.now)) (record s { steps = suc s.steps }))

pub returns-then-not-fit : goal.returns-then-not-fit
returns-then-not-fit g c =
    let now = (g.S.Store.record_of c.args.store.now).present in
    let s = state_at now [] in
    let a = c.steps.ensures in let b = c.steps-2.ensures.steps in let h = c.if-steps.false in
    let less : nat_lt now.steps c.args.bounds.steps ≡ true = lt-ltb now.steps c.args.bounds.steps (omega arith) in
    call_too_long (limits_of c.args.devices.now c.args.bounds) s (view.call c.args.call.now) less (accesses_shown c.args.reported.now) (accesses_shown c.report_words.new.reported) _ c.words.ensures c.in_ok-report_words.ensures c.shell.result (parameters_at now) _ c.shell.ensures (same_parameters now []) c.words-2.ensures c.in_ok-fit.fit c.expanded.new.fields c.if-not-fit.true c.in_ok-fit.ensures

pub returns : goal.returns
returns g c =
    let now = (g.S.Store.record_of c.args.store.now).present in
    let s = state_at now [] in
    let a = c.steps.ensures in let b = c.steps-2.ensures.steps in let h = c.if-steps.false in
    let less : nat_lt now.steps c.args.bounds.steps ≡ true = lt-ltb now.steps c.args.bounds.steps (omega arith) in
    call_expanded (limits_of c.args.devices.now c.args.bounds) s (view.call c.args.call.now) less (accesses_shown c.args.reported.now) (accesses_shown c.report_words.new.reported) _ c.words.ensures c.in_ok-report_words.ensures c.shell.result (parameters_at now) _ c.shell.ensures (same_parameters now []) c.words-2.ensures c.report_fields-2.result (accesses_shown c.report_fields-2.new.reported) c.in_ok-fit.fit c.expanded.new.fields (bytes_of_words c.as_slice-2.result.now) c.if-not-fit.false c.in_ok-fit.ensures c.as_slice-2.ensures (c.report_fields-2.ensures (reads_again (view.call c.args.call.now)) (record s { steps = suc s.steps }))
