use Rattle.rehearse_rules.proofs.TaskChoices.{asked_below_bound}
use Rattle.rehearse_rules.proofs.BoundLemmas.{steps_are_bounded, devices_are_bounded, cut_at_step_bound, cut_at_device_bound}
use Rattle.rehearse_rules.proofs.laws.bounds_of_runs.Goals as goal

pub returns-clause-steps : goal.returns-clause-steps
returns-clause-steps c = steps_are_bounded

pub returns-clause-devices : goal.returns-clause-devices
returns-clause-devices c = devices_are_bounded

pub returns-clause-cut_steps : goal.returns-clause-cut_steps
returns-clause-cut_steps c = cut_at_step_bound

pub returns-clause-cut_devices : goal.returns-clause-cut_devices
returns-clause-cut_devices c = cut_at_device_bound

pub returns-clause-asked : goal.returns-clause-asked
returns-clause-asked c = asked_below_bound
