use Rattle.std.proofs.Common.{map}
use Rattle.clap.specs.Words.{HasMatchesOf, app_of, kind_of}
use Rattle.tool_words.proofs.AnswerLemmas.{reported}
use Rattle.tool_words.proofs.answer.parse.Goals as goal

pub returns-in-Ok : goal.returns-in-Ok
returns-in-Ok g c = (c.in-Ok.ensures.kinds c.requires, c.in-Ok.ensures.matches)

pub returns-in-Err : goal.returns-in-Err
returns-in-Err g c =
    let words = map g.S.AsStr.text c.args.words.now in
    reported (app_of c.args.app) words (HasMatchesOf (app_of c.args.app) words) (kind_of c.in-Err.error) _ (c.in-Err.ensures.kinds c.requires) c.report.ensures
