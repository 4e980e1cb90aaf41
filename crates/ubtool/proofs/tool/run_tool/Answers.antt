use Rattle.std.proofs.Common.{refl}
use Rattle.tool_steps.proofs.RunLemmas.{printed-low}
use Rattle.ubtool.proofs.tool.run_tool.Goals as goal

pub returns-then-is_empty-clause-input : goal.returns-then-is_empty-clause-input
returns-then-is_empty-clause-input g c = λ _. record {
  bound = printed-low c.run_input.result c.run_input.ensures.status;
  printed = c.run_input.ensures.printed;
  quiet = c.run_input.ensures.quiet;
  refused = c.run_input.ensures.refused;
  told = c.run_input.ensures.told;
  untouched = refl;
}
