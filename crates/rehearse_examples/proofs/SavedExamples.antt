-- Worked examples, computed: device commands that save the environment.
use Rattle.std.proofs.Common.{◌≡◌, ℕ, true, List, [], ◌∷◌, ◌++◌, Option, Some, None, Ok, codes, refl}
use Rattle.device_list.specs.CallLines.{Pattern}
use Rattle.device_list.specs.DeviceList.{Variable, Literal, Saving, Deleted, Setting, Devices, only}
use Rattle.device_list.specs.DeviceList as lists
use Rattle.device_list.specs.DeviceLaws.{quiet}
use Rattle.device_list.specs.Saving.{saving, names_with_saved}
use Rattle.rehearse_terms.specs.State.{Text}
use Rattle.rehearse_rules.specs.Runs.{Task}
use Rattle.rehearse_rules.proofs.ExampleRehearsals.{limits, bootcmd, z, listed, ends_along, listed_along, along}

-- ---- `saves saveenv`, and `load`

abbrev saveenv : List Setting → Devices
saveenv sets = record (only ((codes "load", quiet) ∷ [])) {
  calls = (codes "saveenv", (record { words = []; more = true }, record quiet { sets = sets }) ∷ []) ∷ [];
}

abbrev board : Devices
board = saveenv ((Saving, Deleted) ∷ [])

board_read : lists.listed (codes "load\nsaves saveenv") ≡ Ok board
board_read = refl

-- with copies of the variables that are asked for
abbrev task : Devices → (text : Text) → Task
task devices text = bootcmd (limits (saving z devices) 16 10000) text

abbrev names : List Text
names = names_with_saved board z

-- ---- the environment as it is then

-- `saveenv` before the counter is lowered, and after it
saved_before : listed (task board (codes "setenv z 3; saveenv; setenv z 2")) names None
    ≡ codes "run 0\ndev 0 saveenv\nvar z=2\nsaved z=3\nend 0\nrun 1\ndev 1 saveenv\nvar z=2\nend 0\ndone\n"
unfolding listed_along ends_along
saved_before = along 1 (task board (codes "setenv z 3; saveenv; setenv z 2")) names None _ refl refl

saved_after : listed (task board (codes "setenv z 3; setenv z 2; saveenv; true")) names None
    ≡ codes "run 0\ndev 0 saveenv\nvar z=2\nsaved z=2\nend 0\nrun 1\ndev 1 saveenv\nvar z=2\nend 0\ndone\n"
unfolding listed_along ends_along
saved_after = along 1 (task board (codes "setenv z 3; setenv z 2; saveenv; true")) names None _ refl refl

-- a variable that is not set is saved so; one that is set to nothing is deleted
unset_is_saved : listed (task board (codes "saveenv; setenv z 1")) names (Some 1) ≡ codes "run 0\ndev 0 saveenv\nvar z=1\nsaved unset z\nend 0\nmore 0\n"
unfolding listed_along ends_along
unset_is_saved = along 1 (task board (codes "saveenv; setenv z 1")) names (Some 1) _ refl refl

-- the last save that succeeds counts, and one that fails saves nothing
the_last_counts : listed (task board (codes "setenv z 1; saveenv; setenv z 2; saveenv; setenv z")) names None
    ≡ codes "run 00\ndev 0 saveenv\ndev 0 saveenv\nunset z\nsaved z=2\nend 0\nrun 01\ndev 0 saveenv\ndev 1 saveenv\nunset z\nsaved z=1\nend 0\n"
    ++ codes "run 10\ndev 1 saveenv\ndev 0 saveenv\nunset z\nsaved z=2\nend 0\nrun 11\ndev 1 saveenv\ndev 1 saveenv\nunset z\nend 0\ndone\n"
unfolding listed_along ends_along
the_last_counts = along 3 (task board (codes "setenv z 1; saveenv; setenv z 2; saveenv; setenv z")) names None _ refl refl

-- what the call itself sets is saved, wherever the clause is
abbrev with_settings : Devices
with_settings = saveenv ((Saving, Deleted) ∷ (Variable (codes "z"), Literal (codes "7")) ∷ [])

its_settings : listed (task with_settings (codes "saveenv")) names (Some 1) ≡ codes "run 0\ndev 0 saveenv\nvar z=7\nsaved z=7\nend 0\nmore 0\n"
unfolding listed_along ends_along
its_settings = along 1 (task with_settings (codes "saveenv")) names (Some 1) _ refl refl

-- ---- in a room of so many bytes

abbrev in_room : Option ℕ → (text : Text) → Task
in_room room text = bootcmd (record (limits (saving z board) 16 10000) { room = room }) text

-- `z=33` and a byte 0 have no room in 4 bytes: the save fails, and takes no digit
without_room : listed (in_room (Some 4) (codes "setenv z 33; saveenv || load")) names None
    ≡ codes "run 0\ndev 1 saveenv\ndev 0 load\nvar z=33\nend 0\nrun 1\ndev 1 saveenv\ndev 1 load\nvar z=33\nend 1\ndone\n"
unfolding listed_along ends_along
without_room = along 1 (in_room (Some 4) (codes "setenv z 33; saveenv || load")) names None _ refl refl

in_just_that : listed (in_room (Some 5) (codes "setenv z 33; saveenv || load")) names (Some 1) ≡ codes "run 0\ndev 0 saveenv\nvar z=33\nsaved z=33\nend 0\nmore 0\n"
unfolding listed_along ends_along
in_just_that = along 2 (in_room (Some 5) (codes "setenv z 33; saveenv || load")) names (Some 1) _ refl refl

-- a later save is of the environment as it is then
shorter_later : listed (in_room (Some 4) (codes "setenv z 33; saveenv; setenv z 3; saveenv")) names (Some 1) ≡ codes "run 0\ndev 1 saveenv\ndev 0 saveenv\nvar z=3\nsaved z=3\nend 0\nmore 0\n"
unfolding listed_along ends_along
shorter_later = along 1 (in_room (Some 4) (codes "setenv z 33; saveenv; setenv z 3; saveenv")) names (Some 1) _ refl refl

-- what is not saved takes no room
other_in_room : listed (in_room (Some 0) (codes "load")) names (Some 1) ≡ codes "run 0\ndev 0 load\nunset z\nend 0\nmore 0\n"
unfolding listed_along ends_along
other_in_room = along 1 (in_room (Some 0) (codes "load")) names (Some 1) _ refl refl

-- ---- another command

-- no other command saves
other_command : listed (task board (codes "load")) names (Some 1) ≡ codes "run 0\ndev 0 load\nunset z\nend 0\nmore 0\n"
unfolding listed_along ends_along
other_command = along 1 (task board (codes "load")) names (Some 1) _ refl refl
