-- What `exit` does at a frame, as a value. Ours.
use Rattle.std.specs.Prelude.{List, ◌∷◌}
use Rattle.bootstore_state.specs.Moment.{RunningFrame}
use Rattle.rehearse_terms.specs.State.{State}
use Rattle.rehearse_rules.specs.Execution.{compound_left, End}
use Rattle.rehearse_machine.specs.declared.run_and_exit.Exits.{Exits}
use Rattle.rehearse_machine.specs.declared.run_and_exit.Exits.TheVariants as values
use Rattle.rehearse_machine.specs.Places.{PlaceNext, GoOn, StopOn, command_over, run_left}

-- at the frame f over others
abbrev pub exits : Exits → RunningFrame → List RunningFrame → (outwards : PlaceNext) → State → PlaceNext
exits values.Outwards f fs outwards s = outwards
exits values.Command f fs outwards s = GoOn (command_over f ∷ fs) (compound_left s)
exits values.Turns f fs outwards s = GoOn fs (compound_left s)
exits values.Text f fs outwards s = run_left (f ∷ fs) fs s
exits values.File f fs outwards s = GoOn fs s
exits values.Run f fs outwards s = StopOn (End s.memory.status) s
