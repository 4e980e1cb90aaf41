use Rattle.std.proofs.lemmas.Result.{IfOk-weaker}
use Rattle.tool_words.proofs.MadeLemmas.{made_with}
use Rattle.tool_words.proofs.subcommand.made.Goals as goal

pub returns : goal.returns
returns c =
    IfOk-weaker c.with_arguments.result _ _ (λ new adds. made_with _ _ _ c.described-command.result new c.described-command.ensures adds) c.with_arguments.ensures
