use Rattle.std.proofs.Common.{◌∙◌, None, Some}
use Rattle.clap.specs.Words.{found_of}
use Rattle.clap.proofs.WalkLemmas.{first_value-rows}
use Rattle.tool_words.proofs.EntryLemmas.{given_none, given_some}
use Rattle.tool_words.proofs.read.number_given.Goals as goal

pub returns-in-Some-number_of : goal.returns-in-Some-number_of
returns-in-Some-number_of c =
    given_some _ c.in-Some.text.now (Some c.in-Some-number_of.number)
    (c.in-Some.ensures ∙ first_value-rows (found_of c.args.matches.now) c.args.id.now) c.in-Some-number_of.ensures

pub returns-in-None-number_of : goal.returns-in-None-number_of
returns-in-None-number_of c =
    given_some _ c.in-Some.text.now None
    (c.in-Some.ensures ∙ first_value-rows (found_of c.args.matches.now) c.args.id.now) c.in-None-number_of.ensures

pub returns-in-None : goal.returns-in-None
returns-in-None c = given_none _ (c.in-None.ensures ∙ first_value-rows (found_of c.args.matches.now) c.args.id.now)
