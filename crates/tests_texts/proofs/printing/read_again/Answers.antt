use Rattle.std.proofs.Common.{List, subst, rules}
use Rattle.envimage.specs.Data.{Pair}
use Rattle.envtools.specs.Environment.{IsEnvironment}
use Rattle.tests_texts.proofs.PrintedLemmas.{same_again}
use Rattle.tests_texts.proofs.printing.read_again.Goals as goal

pub returns-in-Ok-clause-same : goal.returns-in-Ok-clause-same
returns-in-Ok-clause-same c =
    let env : IsEnvironment c.args.env = subst (λ (env : List Pair). IsEnvironment env) c.env.view_is c.env.invariant in
    (same_again c.args.env c.from_text.result env c.requires (search rules)).0

pub returns-in-Ok-clause-err : goal.returns-in-Ok-clause-err
returns-in-Ok-clause-err c =
    let env : IsEnvironment c.args.env = subst (λ (env : List Pair). IsEnvironment env) c.env.view_is c.env.invariant in
    (same_again c.args.env c.from_text.result env c.requires (search rules)).1
