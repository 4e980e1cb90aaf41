use Rattle.rehearse_reports.specs.ReportsShown.{keys_shown}
use Rattle.rehearse_reports.proofs.FrontLemmas.{written_left_out, unwritten_added}
use Rattle.rehearse_reports.proofs.reported.Needed.add.Goals as goal

pub returns-then-is_written : goal.returns-then-is_written
returns-then-is_written c = written_left_out (keys_shown c.args.written.now.keys) c.args.self.now.keys.keys c.args.key c.if-is_written.ensures

pub returns : goal.returns
returns c = unwritten_added (keys_shown c.args.written.now.keys) c.args.self.now.keys.keys c.args.key c.insert.new.self.keys c.in_ok-insert.ensures.keys c.if-is_written.ensures
