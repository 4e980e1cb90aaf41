-- Where the text of a rehearsal stopped. Ours.
use Rattle.std.specs.Prelude.{◌++◌}
use Rattle.bootstore_state.specs.Moment.{Moment}
use Rattle.rehearse_terms.specs.Outcomes.{OutcomeWord}
use Rattle.rehearse_rules.specs.Runs.{Task, run_on}
use Rattle.rehearse_machine.specs.Came.{settled}
use Rattle.rehearse_machine.specs.Machine.{Stops}
use Rattle.rehearse_machine.specs.declared.rehearsal.Stop.{Stop}

-- the text stopped at this moment with the outcomes of p
abbrev pub StoppedAt : Task → OutcomeWord → Stop → Moment → Type 0
StoppedAt task p stop m = Stops task.limits stop (λ w. settled (run_on task (p ++ w))) m
