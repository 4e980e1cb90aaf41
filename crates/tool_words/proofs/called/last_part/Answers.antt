use Rattle.std.proofs.Common.{rules}
use Rattle.std.proofs.lemmas.List.{take_rest}
use Rattle.tool_words.proofs.CalledLemmas.{part_behind, part_whole}
use Rattle.tool_words.proofs.called.last_part.Goals as goal

pub returns-in-Some : goal.returns-in-Some
returns-in-Some c =
    let found = part_behind c.args.path.now c.in-Some.slash (search rules) (search rules) (search rules) in
    rw take_rest found

pub returns-in-None : goal.returns-in-None
returns-in-None c = part_whole c.args.path.now (search rules)
