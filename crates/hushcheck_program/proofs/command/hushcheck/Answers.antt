use Rattle.std.proofs.lemmas.Result.{IfOk-weaker}
use Rattle.tool_words.proofs.MadeLemmas.{made_with}
use Rattle.hushcheck_program.specs.CommandLine.{hushcheck}
use Rattle.hushcheck_program.proofs.command.hushcheck.Goals as goal

pub returns : goal.returns
unfolding hushcheck
returns c =
    IfOk-weaker c.with_arguments.result _ _ (λ new adds. made_with _ _ _ _ _ c.in_ok-command.ensures adds) c.with_arguments.ensures
