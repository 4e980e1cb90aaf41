use Rattle.clap.specs.Words.{with_rule}
use Rattle.tool_words.specs.Arguments.{rule_of_row}
use Rattle.tool_words.proofs.ArgumentLemmas.{adds_arg, one_more}
use Rattle.tool_words.proofs.argument.with_arguments.Goals as goal

pub loop-row-preserved : goal.loop-row-preserved
loop-row-preserved c =
    let adds = adds_arg c.loop-row.command c.in_ok-command.command c.in_ok-arg.arg _ c.in_ok-arg.ensures.0 c.in_ok-arg.ensures.1 c.in_ok-command.ensures in
    one_more with_rule rule_of_row c.args.rows.now c.loop-row.row-index _ c.args.command c.loop-row.command c.in_ok-command.command c.loop-row-test.true c.loop-row.invariant adds
