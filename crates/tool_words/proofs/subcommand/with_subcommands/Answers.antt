use Rattle.clap.specs.Words.{with_subcommand}
use Rattle.tool_words.specs.Arguments.{shape_of_row}
use Rattle.tool_words.proofs.ArgumentLemmas.{adds_subcommand, one_more}
use Rattle.tool_words.proofs.subcommand.with_subcommands.Goals as goal

pub loop-row-preserved : goal.loop-row-preserved
loop-row-preserved c =
    let adds = adds_subcommand c.loop-row.command c.in_ok-sub.sub c.in_ok-command.command _ c.in_ok-sub.ensures c.in_ok-command.ensures in
    one_more with_subcommand shape_of_row c.args.rows.now c.loop-row.row-index _ c.args.command c.loop-row.command c.in_ok-command.command c.loop-row-test.true c.loop-row.invariant adds
