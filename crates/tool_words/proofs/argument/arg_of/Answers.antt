use Rattle.std.proofs.Common.{◌∙◌, ap}
use Rattle.std.proofs.lemmas.Result.{IfOk-weaker}
use Rattle.tool_words.proofs.ArgumentLemmas.{whole_with, whole_without}
use Rattle.tool_words.proofs.argument.arg_of.Goals as goal

pub returns-in-Some : goal.returns-in-Some
returns-in-Some c =
    let arg = c.unaliased-arg in
    IfOk-weaker c.alias.result _ _ (λ a adds. (whole_with c.args.row.now arg.result a c.in-Some.alias arg.ensures.rule c.in-Some.is adds, ap (λ x. x.global) adds.0 ∙ arg.ensures.local)) c.alias.ensures

pub returns-in-None : goal.returns-in-None
returns-in-None c =
    let arg = c.unaliased-arg in
    (whole_without c.args.row.now arg.result arg.ensures.rule c.in-None.is, arg.ensures.local)
