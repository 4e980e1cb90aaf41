use Rattle.std.proofs.Common.{[], subst, sym}
use Rattle.std.specs.Prelude.{OnOk}
use Rattle.text.specs.TextsShown.{bytes_of_words}
use Rattle.builtins.specs.BuiltinsShown.{builtin_shown}
use Rattle.builtins.specs.declared.builtins.Builtin.{Builtin}
use Rattle.rehearse_reads.specs.Keys.{Covers}
use Rattle.rehearse_frames.specs.MoveAccesses.{of_builtin}
use Rattle.rehearse_machine.specs.MovesShown.{limits_of}
use Rattle.rehearse_reports.specs.Reports.{Reports}
use Rattle.rehearse_reports.specs.ReportsShown.{accesses_shown}
use Rattle.rehearse_reports.proofs.CoverLemmas.{covers_status}
use Rattle.rehearse_reports.proofs.NamedLemmas.{quietly, run_quiet, leave_quiet}
use Rattle.rehearse_reports.proofs.calls.report_builtin.Goals as goal

pub returns-in-Test : goal.returns-in-Test
returns-in-Test c again s =
    subst (λ (b : Builtin). OnOk c.report_test.result (Reports (accesses_shown c.args.reported.now) (accesses_shown c.report_test.new.reported) (of_builtin (limits_of c.args.devices.now c.args.bounds) again (builtin_shown b) c.args.name.now (bytes_of_words c.args.words.now) [] s)))
    (sym c.in-Test.is) (c.report_test.ensures s)

pub returns-in-Run : goal.returns-in-Run
returns-in-Run c again s =
    quietly (accesses_shown c.args.reported.now) _ (subst (λ (b : Builtin). Covers [] (of_builtin (limits_of c.args.devices.now c.args.bounds) again (builtin_shown b) c.args.name.now (bytes_of_words c.args.words.now) [] s)) (sym c.in-Run.is) (run_quiet (limits_of c.args.devices.now c.args.bounds) c.args.name.now (bytes_of_words c.args.words.now) s again))

pub returns-in-Echo : goal.returns-in-Echo
returns-in-Echo c again s =
    quietly (accesses_shown c.args.reported.now) _ (subst (λ (b : Builtin). Covers [] (of_builtin (limits_of c.args.devices.now c.args.bounds) again (builtin_shown b) c.args.name.now (bytes_of_words c.args.words.now) [] s)) (sym c.in-Echo.is) covers_status)

pub returns-in-True : goal.returns-in-True
returns-in-True c again s =
    quietly (accesses_shown c.args.reported.now) _ (subst (λ (b : Builtin). Covers [] (of_builtin (limits_of c.args.devices.now c.args.bounds) again (builtin_shown b) c.args.name.now (bytes_of_words c.args.words.now) [] s)) (sym c.in-True.is) covers_status)

pub returns-in-False : goal.returns-in-False
returns-in-False c again s =
    quietly (accesses_shown c.args.reported.now) _ (subst (λ (b : Builtin). Covers [] (of_builtin (limits_of c.args.devices.now c.args.bounds) again (builtin_shown b) c.args.name.now (bytes_of_words c.args.words.now) [] s)) (sym c.in-False.is) covers_status)

pub returns-in-Leave : goal.returns-in-Leave
returns-in-Leave c again s =
    quietly (accesses_shown c.args.reported.now) _ (subst (λ (b : Builtin). Covers [] (of_builtin (limits_of c.args.devices.now c.args.bounds) again (builtin_shown b) c.args.name.now (bytes_of_words c.args.words.now) [] s)) (sym c.in-Leave.is) (leave_quiet (limits_of c.args.devices.now c.args.bounds) c.args.name.now (bytes_of_words c.args.words.now) s again))
