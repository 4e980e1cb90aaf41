use Rattle.hushlang.proofs.Productions.{each_produced_script_is_derived, each_derived_script_is_produced}
use Rattle.hushlang.proofs.laws.scripts.Goals as goal

pub returns-clause-are_derived : goal.returns-clause-are_derived
returns-clause-are_derived c = each_produced_script_is_derived

pub returns-clause-are_produced : goal.returns-clause-are_produced
returns-clause-are_produced c = each_derived_script_is_produced
