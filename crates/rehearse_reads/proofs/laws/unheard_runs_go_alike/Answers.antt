use Rattle.rehearse_reads.proofs.UnheardRuns as unheard
use Rattle.rehearse_reads.proofs.laws.unheard_runs_go_alike.Goals as goal

pub returns : goal.returns
returns c = unheard.unheard_runs_go_alike
