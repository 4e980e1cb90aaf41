use Rattle.rehearse_frames.proofs.EnoughSteps.{keys_of_steps, keys_of_outcomes}
use Rattle.rehearse_frames.proofs.laws.keys_of_steps.Goals as goal

pub returns-clause-steps : goal.returns-clause-steps
returns-clause-steps c = keys_of_steps

pub returns-clause-outcomes : goal.returns-clause-outcomes
returns-clause-outcomes c = keys_of_outcomes
