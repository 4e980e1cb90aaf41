use Rattle.std.proofs.Common.{◌∙◌, codes}
use Rattle.clap.specs.Words.{found_of}
use Rattle.clap.proofs.WalkLemmas.{first_value-rows}
use Rattle.tool_words.proofs.EntryLemmas.{folder_is, folder_none}
use Rattle.tool_words.proofs.read.has_no_folder.Goals as goal

pub returns-in-Some : goal.returns-in-Some
returns-in-Some c =
    folder_is _ c.in-Some.folder.now c.is_empty.result
    (c.in-Some.ensures ∙ first_value-rows (found_of c.args.matches.now) (codes "lock")) c.is_empty.ensures

pub returns-in-None : goal.returns-in-None
returns-in-None c = folder_none _ (c.in-None.ensures ∙ first_value-rows (found_of c.args.matches.now) (codes "lock"))
