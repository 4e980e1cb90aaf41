use Rattle.hushlang.proofs.ParserAnswerLemmas.{one_tree_of_text}
use Rattle.hushlang.proofs.laws.one_tree_of_text.Goals as goal

pub returns : goal.returns
returns c = one_tree_of_text
