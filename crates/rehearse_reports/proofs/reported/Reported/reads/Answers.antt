use Rattle.rehearse_reports.proofs.AddingLemmas.{reads_shown_written, reads_shown_new}
use Rattle.rehearse_reports.proofs.reported.Reported.reads.Goals as goal

pub returns-then-is_written : goal.returns-then-is_written
returns-then-is_written c = reads_shown_written c.args.self.now c.args.key c.if-is_written.ensures

pub returns : goal.returns
returns c = reads_shown_new c.args.self.now c.args.key c.insert.new.self c.in_ok-insert.ensures.keys c.if-is_written.ensures
