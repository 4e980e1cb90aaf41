use Rattle.rehearse_endings.proofs.UnheardEndings.{same_endings, flow_of_unheard}
use Rattle.rehearse_endings.proofs.laws.unheard_endings.Goals as goal

pub returns-clause-rows : goal.returns-clause-rows
returns-clause-rows c names task = same_endings task names

pub returns-clause-flow : goal.returns-clause-flow
returns-clause-flow c = flow_of_unheard
