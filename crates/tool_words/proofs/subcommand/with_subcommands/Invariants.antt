use Rattle.std.proofs.Common.{take, map}
use Rattle.clap.specs.Words.{with_subcommand}
use Rattle.tool_words.specs.Arguments.{Adds, shape_of_row}
use Rattle.tool_words.proofs.subcommand.with_subcommands.Given as goal

abbrev pub invariant-loop-row : goal.invariant-loop-row
invariant-loop-row l = Adds with_subcommand l.initial.command (map shape_of_row (take l.row-index l.rows)) l.command
