-- What a call that saves leaves. Ours; `saveenv` stores the environment as it is when it is called (U-Boot documentation,
-- doc/usage/environment).
use Rattle.std.specs.Prelude.{◌≡◌, ◌++◌, List, None, Some, true, false}
use Rattle.std.specs.List.{AllByRecursion}
use Rattle.device_list.specs.Called.{sets_in}
use Rattle.device_list.specs.DeviceList.{Devices, Setting}
use Rattle.device_list.specs.Saving.{are_saving, copies_for, copy_of, names_with_saved, saved_name, saved_of, saves, saving}
use Rattle.rehearse_terms.specs.State.{Text, Variables, get}
use Rattle.rehearse_rules.specs.Execution.{with_all}

-- each of these is the name of a variable, and none that of a copy
abbrev pub AreVariables : List Text → Type 0
AreVariables names = AllByRecursion (λ name. saved_of name ≡ None) names

-- the copy of each variable has the value that the variable has here, or that it is not set
abbrev pub CopiesAreRight : (names : List Text) → Variables → Type 0
CopiesAreRight names environment =
    AllByRecursion (λ name. get environment (saved_name name) ≡ Some (copy_of (get environment name))) names

-- After a success of a call with these settings, if it saves: the copies of the variables that are asked for are those of the
-- environment as it then is.
abbrev pub SavesWhatIsThere : Type 0
SavesWhatIsThere = (names words : List Text) (sets : List Setting) (environment : Variables) →
    AreVariables names → are_saving sets ≡ true →
    CopiesAreRight names (with_all (sets_in words (sets ++ copies_for names sets)) environment)

-- A list that says of no call that it saves is as it was, and nothing else is asked for.
abbrev pub OtherListsStay : Type 0
OtherListsStay = (names : List Text) (devices : Devices) → saves devices ≡ false →
    (saving names devices ≡ devices) × (names_with_saved devices names ≡ names)
