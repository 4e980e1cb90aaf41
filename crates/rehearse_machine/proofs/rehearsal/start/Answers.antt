use Rattle.std.proofs.Common.{List, ℕ, ap, sym, ◌∙◌}
use Rattle.bootstore_state.specs.Moment.{environment_of}
use Rattle.bootstore_state.specs.Record.{Record}
use Rattle.hushlang_shells.specs.TextsShown.{text_read}
use Rattle.hushlang_shells.specs.TreesByShell.{first_in}
use Rattle.rehearse_terms.specs.State.{State}
use Rattle.rehearse_terms.specs.declared.shell.Shell.{Shell}
use Rattle.rehearse_rules.specs.Execution.{Ending, End, Panic, set_status}
use Rattle.rehearse_rules.specs.ByShell.{unread}
use Rattle.bootstore_state.specs.StoredState.{state_at}
use Rattle.bootstore_state.proofs.StateLemmas.{stored_starts}
use Rattle.rehearse_machine.specs.Came.{Over}
use Rattle.rehearse_machine.specs.Tasks.{source_shown, task_in}
use Rattle.rehearse_machine.proofs.TextLemmas.{fails_runs, panics_runs, unread_runs, same_text, stands_sound, stands_runs}
use Rattle.rehearse_machine.proofs.rehearsal.start.Goals as goal

pub returns-in_ok-set_status-in-Fails-clause-starts : goal.returns-in_ok-set_status-in-Fails-clause-starts
returns-in_ok-set_status-in-Fails-clause-starts g c w =
    let task = task_in c.args.rehearsal.now in
    let source = source_shown c.args.rehearsal.now.source in
    let variables = environment_of c.args.rehearsal.now.env.now in
    let start = g.S.Store.record_of c.start.new.self in
    let same = same_text variables source.given task.name c.text_of-text_found.result.now start.present (ap (λ (r : Record). r.present.environment) c.in_ok-start.ensures.ok) c.text_of-text_found.ensures in
    let read = ap (λ (x : Shell). first_in x task.text) (sym c.shell-shell.ensures) ∙ ap (first_in c.shell-shell.result) (sym same) ∙ sym c.in_ok-script.ensures ∙ ap text_read c.in-Fails.is in
    fails_runs task w read ∙ ap (λ (s : State). Over (End 1) (set_status 1 s)) (sym (stored_starts task.written variables w))
    ∙ ap (λ (r : Record). Over (End 1) (set_status 1 (state_at r.present w))) (sym c.in_ok-start.ensures.ok)
    ∙ ap (λ (r : Record). Over (End 1) (state_at r.present w)) (sym c.in_ok-set_status-in-Fails.ensures.ok)

pub returns-in_ok-name-in-Panics-clause-starts : goal.returns-in_ok-name-in-Panics-clause-starts
returns-in_ok-name-in-Panics-clause-starts g c w =
    let task = task_in c.args.rehearsal.now in
    let source = source_shown c.args.rehearsal.now.source in
    let variables = environment_of c.args.rehearsal.now.env.now in
    let start = g.S.Store.record_of c.start.new.self in
    let same = same_text variables source.given task.name c.text_of-text_found.result.now start.present (ap (λ (r : Record). r.present.environment) c.in_ok-start.ensures.ok) c.text_of-text_found.ensures in
    let read = ap (λ (x : Shell). first_in x task.text) (sym c.shell-shell.ensures) ∙ ap (first_in c.shell-shell.result) (sym same) ∙ sym c.in_ok-script.ensures ∙ ap text_read c.in-Panics.is in
    panics_runs task w read ∙ ap (Over (Panic task.name)) (sym (stored_starts task.written variables w))
    ∙ ap (λ (r : Record). Over (Panic task.name) (state_at r.present w)) (sym c.in_ok-start.ensures.ok)
    ∙ ap (λ (n : List ℕ). Over (Panic n) (state_at start.present w)) (sym c.in_ok-name-in-Panics.ensures.items)

pub returns-in_ok-name-in-Unread-clause-starts : goal.returns-in_ok-name-in-Unread-clause-starts
returns-in_ok-name-in-Unread-clause-starts g c w =
    let task = task_in c.args.rehearsal.now in
    let source = source_shown c.args.rehearsal.now.source in
    let variables = environment_of c.args.rehearsal.now.env.now in
    let start = g.S.Store.record_of c.start.new.self in
    let same = same_text variables source.given task.name c.text_of-text_found.result.now start.present (ap (λ (r : Record). r.present.environment) c.in_ok-start.ensures.ok) c.text_of-text_found.ensures in
    let read = ap (λ (x : Shell). first_in x task.text) (sym c.shell-shell.ensures) ∙ ap (first_in c.shell-shell.result) (sym same) ∙ sym c.in_ok-script.ensures ∙ ap text_read c.in-Unread.is in
    unread_runs task w read ∙ ap (Over (unread task.limits.shell task.name)) (sym (stored_starts task.written variables w))
    ∙ ap (λ (r : Record). Over (unread task.limits.shell task.name) (state_at r.present w)) (sym c.in_ok-start.ensures.ok)
    ∙ ap (λ (n : List ℕ). Over (unread task.limits.shell n) (state_at start.present w)) (sym c.in_ok-name-in-Unread.ensures.items)
    ∙ ap (λ (x : Shell). Over (unread x c.in_ok-name-in-Unread.name.items) (state_at start.present w)) (sym c.shell-shell.ensures)
    ∙ ap (λ (x : Ending). Over x (state_at start.present w)) (sym c.unread.ensures)

pub returns-in_ok-push-in-Runs-clause-starts : goal.returns-in_ok-push-in-Runs-clause-starts
returns-in_ok-push-in-Runs-clause-starts g c =
    let task = task_in c.args.rehearsal.now in
    let source = source_shown c.args.rehearsal.now.source in
    let variables = environment_of c.args.rehearsal.now.env.now in
    let old = g.S.Store.record_of c.args.store.now in
    let start = g.S.Store.record_of c.start.new.self in
    let new = g.S.Store.record_of c.push.new.self in
    let same = same_text variables source.given task.name c.text_of-text_found.result.now start.present (ap (λ (r : Record). r.present.environment) c.in_ok-start.ensures.ok) c.text_of-text_found.ensures in
    let read = ap (λ (x : Shell). first_in x task.text) (sym c.shell-shell.ensures) ∙ ap (first_in c.shell-shell.result) (sym same) ∙ sym c.in_ok-script.ensures ∙ ap text_read c.in-Runs.is in (
      stands_sound task.limits old start new task.written variables c.text.result c.in_ok-new-in-Runs.field-0.value c.in-Runs.script task.text c.in_ok-start.ensures.ok c.in_ok-push-in-Runs.ensures.ok c.text.ensures c.in_ok-new-in-Runs.ensures.ok read,
      stands_runs task.limits old start new task.written variables c.text.result c.in_ok-new-in-Runs.field-0.value c.in-Runs.script task.text c.in_ok-start.ensures.ok c.in_ok-push-in-Runs.ensures.ok c.text.ensures c.in_ok-new-in-Runs.ensures.ok read task.name,
    )
