-- Each text's tree is proper.
use Rattle.hushlang.specs.Grammar.{max_nesting}
use Rattle.hushlang.proofs.CommandsInBlocks.{blocks_hold_commands}
use Rattle.hushlang.specs.TreeLaws.{TreesAreProper}
use Rattle.hushlang.proofs.TreeLemmas.{trees_are_read}

pub trees_are_proper : TreesAreProper
trees_are_proper text s e = let t = (trees_are_read text s).0 e in blocks_hold_commands max_nesting t.0 s t.2
