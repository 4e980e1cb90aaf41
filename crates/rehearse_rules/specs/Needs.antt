-- Calls of a device list that cannot succeed: those that need another one to have succeeded before in the run, and those that save
-- more than there is room for. Ours; that `saveenv` fails without room is U-Boot's (env/common.c, `env_export`).
use Rattle.std.specs.Prelude.{ℕ, ◌+◌, nat_le, Bool, true, false, ◌&&◌, List, [], ◌∷◌, length, sum_by, take, Option, Some, None, if◌then◌else◌}
use Rattle.std.specs.List.{list_any}
use Rattle.device_list.specs.DeviceList.{RightSide, Literal, ValueAt, LastValue, Deleted, CopyOf, Setting, Effect}
use Rattle.rehearse_terms.specs.State.{Text, Variables, get, LoggedCommand, same_words, State}

-- ---- another call

-- whether a device command has succeeded whose words, its name first, begin so; also one whose answer was given again
abbrev pub has_succeeded : List LoggedCommand → (start : List Text) → Bool
has_succeeded log start = list_any (λ e. e.success && same_words start (take (length start) e.words)) log

-- whether the call that is needed has succeeded, if one is needed
abbrev pub is_met : (needs : List Text) → List LoggedCommand → Bool
is_met [] log = true
is_met (name ∷ words) log = has_succeeded log (name ∷ words)

-- ---- room

-- how many bytes a variable takes in an image: its name, `=`, its value and a byte 0. One that is empty is not set
abbrev pub bytes_saved : (name : Text) → (value : Option Text) → ℕ
bytes_saved name None = 0
bytes_saved name (Some []) = 0
bytes_saved name (Some (b ∷ value)) = length name + length (b ∷ value) + 2

-- the same for the variable that a setting copies, if it copies one
abbrev pub bytes_copied : Variables → RightSide → ℕ
bytes_copied variables (Literal text) = 0
bytes_copied variables (ValueAt place) = 0
bytes_copied variables LastValue = 0
bytes_copied variables Deleted = 0
bytes_copied variables (CopyOf name) = bytes_saved name (get variables name)

-- A call saves by setting copies of variables (Saving.antt of device_list). Whether there is room for them.
abbrev pub has_room : (room : Option ℕ) → Variables → List Setting → Bool
has_room None variables sets = true
has_room (Some room) variables sets = nat_le (sum_by (λ set. bytes_copied variables set.1) sets) room

-- ---- what a command does now

-- whether a command can succeed
abbrev pub can_succeed : (room : Option ℕ) → State → Effect → Bool
can_succeed room s effect = is_met effect.needs s.log && has_room room s.memory.environment effect.sets

-- As long as it can't, it fails without being asked, and this answer does not stay.
abbrev pub effect_now : (room : Option ℕ) → State → Effect → Effect
effect_now room s effect =
    if can_succeed room s effect then effect else record effect { stays = false; always = Some false }
