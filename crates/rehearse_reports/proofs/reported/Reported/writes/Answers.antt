use Rattle.rehearse_reports.proofs.AddingLemmas.{writes_shown}
use Rattle.rehearse_reports.proofs.reported.Reported.writes.Goals as goal

pub returns : goal.returns
returns c = writes_shown c.args.self.now c.args.key c.insert.new.self c.in_ok-insert.ensures.keys
