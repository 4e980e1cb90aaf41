use Rattle.hushlang.proofs.RefusalPlaceLemmas.{few_tokens_complete}
use Rattle.hushlang.proofs.laws.few_tokens_complete.Goals as goal

pub returns : goal.returns
returns c = few_tokens_complete
