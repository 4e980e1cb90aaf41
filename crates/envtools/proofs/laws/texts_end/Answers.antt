use Rattle.envtools.proofs.TextLemmas.{texts_end}
use Rattle.envtools.proofs.laws.texts_end.Goals as goal

pub returns : goal.returns
returns c = texts_end
