use Rattle.std.proofs.Common.{◌≡◌, sym, ◌∙◌}
use Rattle.rehearse_reports.proofs.FrameLemmas.{run_failed}
use Rattle.rehearse_reports.proofs.begins.begins_in_run.Goals as goal

pub returns : goal.returns
returns c limits fs s e = run_failed limits fs s c.args.frame.now c.at.result c.at.ensures c.if-at-eq0.false (λ z. c.if-status-eq0.false (sym e ∙ z))
