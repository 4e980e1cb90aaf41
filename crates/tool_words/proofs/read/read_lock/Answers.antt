use Rattle.std.proofs.Common.{◌∙◌}
use Rattle.std.proofs.lemmas.Result.{IfOk-weaker}
use Rattle.tool_words.proofs.AnswerLemmas.{failed_lock, parsed_lock}
use Rattle.tool_words.proofs.OneSubcommand.{answers_as}
use Rattle.tool_words.proofs.read.read_lock.Goals as goal

pub returns-in-Ok : goal.returns-in-Ok
returns-in-Ok g c =
    IfOk-weaker c.lock_of.result _ _
    (λ folder names. parsed_lock _ _ _ _ (answers_as _ _ c.in_ok-ubtool_for.ensures.app_is) c.in-Ok.ensures.matches c.in-Ok.ensures.kinds names) c.lock_of.ensures

pub returns : goal.returns
returns g c =
    failed_lock _ _ c.in-Err.error (answers_as _ _ c.in_ok-ubtool_for.ensures.app_is) c.in-Err.ensures.kinds (λ memory. c.in_default.not-OutOfMemory (c.kind.ensures ∙ memory))
