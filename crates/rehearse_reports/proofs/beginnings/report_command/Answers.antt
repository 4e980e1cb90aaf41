use Rattle.std.proofs.Common.{List, [], map, ap, subst, sym}
use Rattle.std.specs.Prelude.{OnOk}
use Rattle.hushlang.specs.Tree as tree
use Rattle.hushlang.specs.TreesShown as view
use Rattle.hushlang.specs.declared.tree.Word.{Word}
use Rattle.bootstore_state.specs.StoredState.{state_at}
use Rattle.std.proofs.Common.{ℕ, Vec, Global}
use Rattle.rehearse_machine.specs.MovesShown.{limits_of}
use Rattle.rehearse_machine.proofs.CommandLemmas.{says_if, says_loop, says_simple, says_assign, says_for}
use Rattle.rehearse_frames.specs.MoveAccesses.{of_command}
use Rattle.rehearse_reads.specs.Keys.{Covers, all_read}
use Rattle.rehearse_reads.specs.Accesses.{words_reads}
use Rattle.rehearse_reports.specs.Reports.{Reports, memory_at}
use Rattle.rehearse_reports.specs.ReportsShown.{accesses_shown}
use Rattle.rehearse_reports.proofs.ReportLemmas.{reports_as, covers_itself}
use Rattle.rehearse_reports.proofs.CoverLemmas.{covers_for, covers_arms}
use Rattle.rehearse_reports.proofs.NamedLemmas.{ok_as, quietly}
use Rattle.rehearse_reports.proofs.StartLemmas.{command_as}
use Rattle.rehearse_reports.proofs.beginnings.report_command.Goals as goal

pub returns-in-Simple : goal.returns-in-Simple
returns-in-Simple g c =
    command_as c.report_call.result (limits_of c.args.devices.now c.args.bounds) (state_at (g.S.Store.record_of c.args.store.now).present []) (accesses_shown c.args.reported.now) (accesses_shown c.report_call.new.reported) (view.command c.args.command.now) (tree.Simple (view.call c.in-Simple.call)) (says_simple c.args.command.now c.in-Simple.call c.in-Simple.is) c.report_call.ensures

pub returns-in-Assign : goal.returns-in-Assign
returns-in-Assign g c =
    let limits = limits_of c.args.devices.now c.args.bounds in
    let s = state_at (g.S.Store.record_of c.args.store.now).present [] in
    command_as c.report_assign.result limits s (accesses_shown c.args.reported.now) (accesses_shown c.report_assign.new.reported) (view.command c.args.command.now) (tree.Assign (view.values_in c.in-Assign.values)) (says_assign c.args.command.now c.in-Assign.values c.in-Assign.is)
    (subst (λ (vs : List (Vec ℕ Global × Word)). OnOk c.report_assign.result (Reports (accesses_shown c.args.reported.now) (accesses_shown c.report_assign.new.reported) (of_command limits (tree.Assign (map view.value vs)) [] s))) c.deref.ensures.value c.report_assign.ensures)

pub returns-in-For : goal.returns-in-For
returns-in-For g c =
    let limits = limits_of c.args.devices.now c.args.bounds in
    let now = (g.S.Store.record_of c.args.store.now).present in
    let s = state_at now [] in
    let old = accesses_shown c.args.reported.now in
    let new = accesses_shown c.report_words.new.reported in
    let words = map view.word c.in-For.words.items in
    command_as c.report_words.result limits s old new (view.command c.args.command.now) (tree.For c.in-For.name.items words (view.script c.in-For.body.value)) (says_for c.args.command.now c.in-For.name c.in-For.words c.in-For.body c.in-For.is)
    (ok_as c.report_words.result (λ (h : Reports old new (all_read (words_reads (memory_at now) words))). reports_as old new (all_read (words_reads (memory_at now) words)) (of_command limits (tree.For c.in-For.name.items words (view.script c.in-For.body.value)) [] s) h (covers_for limits c.in-For.name.items words (view.script c.in-For.body.value) s))
    (subst (λ (ws : List Word). OnOk c.report_words.result (Reports old new (all_read (words_reads (memory_at now) (map view.word ws))))) c.deref-in-For.ensures.value c.report_words.ensures))

pub returns-in-If : goal.returns-in-If
returns-in-If g c =
    let limits = limits_of c.args.devices.now c.args.bounds in
    quietly (accesses_shown c.args.reported.now) _ (subst (λ (x : tree.Command). Covers [] (of_command limits x [] (state_at (g.S.Store.record_of c.args.store.now).present []))) (sym (says_if c.args.command.now c.in-If.arms c.in-If.other c.in-If.is)) (covers_arms limits.shell _))

pub returns-in-Loop : goal.returns-in-Loop
returns-in-Loop g c =
    let limits = limits_of c.args.devices.now c.args.bounds in
    quietly (accesses_shown c.args.reported.now) _ (subst (λ (x : tree.Command). Covers [] (of_command limits x [] (state_at (g.S.Store.record_of c.args.store.now).present []))) (sym (says_loop c.args.command.now c.in-Loop.until c.in-Loop.cond c.in-Loop.body c.in-Loop.is)) (covers_itself []))
