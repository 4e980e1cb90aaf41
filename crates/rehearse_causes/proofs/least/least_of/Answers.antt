use Rattle.std.proofs.Common.{◌∙◌, ap, List, map, reverse}
use Rattle.rehearse_causes.specs.Causes.{Cause, cause_on}
use Rattle.rehearse_causes.specs.Keeping.{foremost}
use Rattle.rehearse_causes.proofs.FromBothEndsLemmas.{least_from_both_ends}
use Rattle.rehearse_causes.proofs.least.least_of.Goals as goal

pub returns-in-Ok-clause-ok : goal.returns-in-Ok-clause-ok
returns-in-Ok-clause-ok g c =
    c.in-Ok.ensures
    ∙ ap (λ (cs : List Cause). reverse (foremost (reverse cs))) c.in_ok-causes.ensures.ok
    ∙ least_from_both_ends (map (cause_on c.args.runs.now.task) c.args.runs.now.to_come)
