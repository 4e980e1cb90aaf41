use Rattle.std.proofs.Common.{rules}
use Rattle.std.proofs.lemmas.List.{take_rest}
use Rattle.hushlang_shells.proofs.FileEndLemmas.{parted_behind, parted_whole}
use Rattle.hushlang_shells.proofs.trees_by_shell.parted.Goals as goal

pub returns-in-Some : goal.returns-in-Some
returns-in-Some c =
    let found = parted_behind c.args.text.now c.in-Some.place (search rules) (search rules) (search rules) in
    rw take_rest found

pub returns-in-None : goal.returns-in-None
returns-in-None c = parted_whole c.args.text.now (search rules)
