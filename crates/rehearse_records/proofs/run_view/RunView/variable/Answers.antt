use Rattle.std.proofs.Common.{◌∙◌}
use Rattle.std.specs.FinMap.{get-entries}
use Rattle.rehearse_records.proofs.run_view.RunView.variable.Goals as goal

pub returns : goal.returns
returns g c = c.get_env.ensures ∙ get-entries _ _
