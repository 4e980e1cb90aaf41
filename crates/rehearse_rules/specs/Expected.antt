-- Which answers of device commands are not the expected ones. A success is expected of a call, unless the list says that a
-- failure is nothing wrong. Of a call that asks which file runs, neither answer is. Ours.
use Rattle.std.specs.Prelude.{Bool, true, false, not, List, map, filter, Option, Some, None}
use Rattle.device_list.specs.DeviceList.{Devices, expected, is_choice}
use Rattle.rehearse_terms.specs.State.{Text, LoggedCommand, asked_of}

-- a device command that took an outcome: whether it succeeded, and its words, its name first
abbrev pub Answered : Type 0
Answered = Bool × List Text

-- the device commands of a log that took an outcome; those that were given an answer again are left out
abbrev pub asked_in : List LoggedCommand → List Answered
asked_in log = map (λ e. (e.success, e.words)) (asked_of log)

-- whether an answer is another one than is expected, if one is
abbrev pub is_other : (expected : Option Bool) → (success : Bool) → Bool
is_other None success = false
is_other (Some true) success = not success
is_other (Some false) success = success

abbrev pub is_unexpected : Devices → Answered → Bool
is_unexpected devices a = is_other (expected devices a.1) a.0

-- those whose answer is not the expected one, in their order
abbrev pub unexpected_of : Devices → List Answered → List Answered
unexpected_of devices answered = filter (is_unexpected devices) answered

-- those that ask which file runs
abbrev pub choices_of : Devices → List Answered → List Answered
choices_of devices answered = filter (λ a. is_choice devices a.1) answered
