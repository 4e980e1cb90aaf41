use Rattle.hushlang.proofs.LexicalFaultLemmas.{prefix_is_viable}
use Rattle.hushlang.proofs.laws.prefix_is_viable.Goals as goal

pub returns : goal.returns
returns c = prefix_is_viable
