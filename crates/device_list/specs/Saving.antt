-- What a call saves. Of each variable that is asked for, a copy is set under a name of its own, which no variable has: a byte 0
-- and the name. Ours; what `saveenv` saves is the environment as it then is (U-Boot documentation, doc/usage/environment).
use Rattle.std.specs.Prelude.{◌++◌, ◌==◌, Bool, true, false, List, [], ◌∷◌, map, Option, Some, None, codes, if◌then◌else◌}
use Rattle.std.specs.List.{list_any}
use Rattle.text.specs.Lines.{Text}
use Rattle.device_list.specs.Settings.{Variable, CopyOf, Setting, Effect}
use Rattle.device_list.specs.CallLines.{Pattern, is_saving}
use Rattle.device_list.specs.DeviceList.{Devices}

-- the name of the copy of a variable
abbrev pub saved_name : (name : Text) → Text
saved_name name = 0 ∷ name

-- the variable of which this is the name of the copy
abbrev pub saved_of : (name : Text) → Option Text
saved_of [] = None
saved_of (b ∷ bytes) = if b == 0 then Some bytes else None

-- what the copy holds: `=` and the value of the variable, or nothing if it is not set
abbrev pub copy_of : (value : Option Text) → Text
copy_of None = []
copy_of (Some value) = codes "=" ++ value

-- a setting of the copy of this variable
abbrev pub copying : (name : Text) → Setting
copying name = (Variable (saved_name name), CopyOf name)

-- whether a call with these settings saves
abbrev pub are_saving : List Setting → Bool
are_saving sets = list_any is_saving sets

-- a call that saves sets, after its other settings, a copy of each of these variables
abbrev pub copies_for : (names : List Text) → List Setting → List Setting
copies_for names sets = if are_saving sets then map copying names else []

abbrev pub saved_effect : (names : List Text) → Effect → Effect
saved_effect names effect = record effect { sets = effect.sets ++ copies_for names effect.sets }

abbrev pub saved_line : (names : List Text) → Pattern × Effect → Pattern × Effect
saved_line names line = (line.0, saved_effect names line.1)

abbrev pub saved_calls : (names : List Text) → List (Text × List (Pattern × Effect)) → List (Text × List (Pattern × Effect))
saved_calls names calls = map (λ c. (c.0, map (saved_line names) c.1)) calls

-- the list of which the calls that save set copies of these variables
abbrev pub saving : (names : List Text) → Devices → Devices
saving names devices = record devices { calls = saved_calls names devices.calls }

-- whether a call of the list saves
abbrev pub lines_save : List (Pattern × Effect) → Bool
lines_save lines = list_any (λ line. are_saving line.1.sets) lines

abbrev pub saves : Devices → Bool
saves devices = list_any (λ c. lines_save c.1) devices.calls

-- the names of what a run leaves that is asked for: these variables, and if the list saves their copies
abbrev pub names_with_saved : Devices → (names : List Text) → List Text
names_with_saved devices names = if saves devices then names ++ map saved_name names else names
