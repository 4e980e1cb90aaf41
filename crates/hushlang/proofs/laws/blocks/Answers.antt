use Rattle.hushlang.proofs.BlockEndLemmas.{blocks_are_closed}
use Rattle.hushlang.proofs.Productions.{each_produced_block_is_derived, each_derived_block_is_produced}
use Rattle.hushlang.proofs.CommandsInBlocks.{blocks_hold_commands}
use Rattle.hushlang.proofs.laws.blocks.Goals as goal

pub returns-clause-hold_commands : goal.returns-clause-hold_commands
returns-clause-hold_commands c = blocks_hold_commands

pub returns-clause-are_closed : goal.returns-clause-are_closed
returns-clause-are_closed c = blocks_are_closed

pub returns-clause-are_derived : goal.returns-clause-are_derived
returns-clause-are_derived c = each_produced_block_is_derived

pub returns-clause-are_produced : goal.returns-clause-are_produced
returns-clause-are_produced c = each_derived_block_is_produced
