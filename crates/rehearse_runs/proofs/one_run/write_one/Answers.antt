use Rattle.std.specs.Prelude.{codes}
use Rattle.output.proofs.SinkLemmas.{BrokeOff-before}
use Rattle.rehearse_rules.specs.Listing.{line}
use Rattle.rehearse_runs.proofs.OneRunLemmas.{Prints-behind}
use Rattle.rehearse_runs.proofs.one_run.write_one.Goals as goal

pub returns-in-Ok : goal.returns-in-Ok
returns-in-Ok g c = Prints-behind c.write_all.result (g.O.Out.sink c.write_all.new.out) (line (codes "done")) c.in-Ok.ensures c.write_all.ensures

pub returns-in-Err : goal.returns-in-Err
returns-in-Err g c = BrokeOff-before (line (codes "done")) c.in-Err.ensures
