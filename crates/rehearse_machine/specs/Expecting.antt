-- What is expected of the device command that asks. Ours.
use Rattle.std.specs.Prelude.{◌≡◌, Bool, List, ◌∷◌, Option}
use Rattle.device_list.specs.DeviceList.{expected}
use Rattle.bootstore_state.specs.Moment.{Moment}
use Rattle.rehearse_terms.specs.State.{Text}
use Rattle.rehearse_rules.specs.Execution.{Limits, Request}
use Rattle.rehearse_machine.specs.Machine.{Asking}

-- its words, its name first
abbrev pub call_of : Request → List Text
call_of request = request.name ∷ request.words

-- whether a success is expected of the command that asks at a moment; none if neither answer is
abbrev pub Expects : Limits → Moment → (answer : Option Bool) → Type 0
Expects limits m answer = (asking : Asking limits m) → answer ≡ expected limits.devices (call_of asking.request)
