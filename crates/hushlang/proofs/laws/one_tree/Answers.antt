use Rattle.hushlang.proofs.DerivedTreesAreRead.{each_tree_is_read, one_tree_only}
use Rattle.hushlang.proofs.ReadTreesAreDerived.{what_is_read_is_a_tree}
use Rattle.hushlang.proofs.laws.one_tree.Goals as goal

pub returns-clause-read : goal.returns-clause-read
returns-clause-read c = each_tree_is_read

pub returns-clause-derived : goal.returns-clause-derived
returns-clause-derived c = what_is_read_is_a_tree

pub returns-clause-one : goal.returns-clause-one
returns-clause-one c = one_tree_only
