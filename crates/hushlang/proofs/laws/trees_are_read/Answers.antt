use Rattle.hushlang.proofs.TreeLemmas.{trees_are_read, refused_texts}
use Rattle.hushlang.proofs.ProperLemmas.{trees_are_proper}
use Rattle.hushlang.proofs.laws.trees_are_read.Goals as goal

pub returns-clause-read : goal.returns-clause-read
returns-clause-read c = trees_are_read

pub returns-clause-refused : goal.returns-clause-refused
returns-clause-refused c = refused_texts

pub returns-clause-proper : goal.returns-clause-proper
returns-clause-proper c = trees_are_proper
