use Rattle.std.proofs.Common.{◌∙◌, ap}
use Rattle.envtools.specs.Environment.{is_value}
use Rattle.envtools.proofs.env.Env.change.Goals as goal

pub change_to-requires-clause-value : goal.change_to-requires-clause-value
change_to-requires-clause-value c = ap is_value c.deref.ensures.value ∙ c.in_ok-value.ensures.value
