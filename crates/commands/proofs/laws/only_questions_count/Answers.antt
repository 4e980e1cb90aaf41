use Rattle.commands.proofs.UBootTestLemmas.{only_questions_count}
use Rattle.commands.proofs.laws.only_questions_count.Goals as goal

pub returns : goal.returns
returns c = only_questions_count
