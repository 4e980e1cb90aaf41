use Rattle.std.proofs.Common.{take, map}
use Rattle.clap.specs.Words.{with_rule}
use Rattle.tool_words.specs.Arguments.{Adds, rule_of_row}
use Rattle.tool_words.proofs.argument.with_arguments.Given as goal

abbrev pub invariant-loop-row : goal.invariant-loop-row
invariant-loop-row l = Adds with_rule l.initial.command (map rule_of_row (take l.row-index l.rows)) l.command
