use Rattle.std.proofs.Common.{rules}
use Rattle.tests_callers.proofs.scripts.is_script.Goals as goal

pub returns-clause-none : goal.returns-clause-none
returns-clause-none c _ = c.in-Err.ensures.refused (search rules)
