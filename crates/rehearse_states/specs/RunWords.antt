-- What contracts see of the words of runs. Ours.
use Rattle.std.specs.Prelude.{[], Option, Some, None}
use Rattle.std.specs.declared.alloc.Global.{Global}
use Rattle.std.specs.declared.rc.Rc.{Rc}
use Rattle.rehearse_terms.specs.Outcomes.{OutcomeWord}
use Rattle.rehearse_rules.specs.Execution.{outcome_when}
use Rattle.rehearse_states.specs.Repeats.{repeated}
use Rattle.rehearse_states.specs.declared.run_word.Step.{Step}

-- the first outcome, as often as it comes in a row, and the word of those after it
abbrev pub outcomes : Option (Rc Step Global) → OutcomeWord
outcomes None = []
outcomes (Some step) = repeated step.value.again (outcome_when step.value.success) step.value.rest
