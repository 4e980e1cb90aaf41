-- The environment that a board has once U-Boot has read an image (U-Boot 2023.01, lib/hashtable.c, `himport_r`, with a NUL byte
-- after each variable; that of 2025.01 is the same).
use Rattle.std.specs.Prelude.{ℕ, ◌==◌, ◌&&◌, not, Bool, true, false, List, [], ◌∷◌, length, map, filter, if◌then◌else◌}
use Rattle.std.specs.List.{list_any}
use Rattle.text.specs.Bytes as ascii
use Rattle.text.specs.Words.{cut_front, is_space}
use Rattle.envimage.specs.Data.{Pair}
use Rattle.envtools.specs.Environment.{assigned, env_of}

-- a backslash is dropped, and the byte after it is kept; one at the end is kept
abbrev pub imported_value : (behind : Bool) → List ℕ → List ℕ
imported_value behind [] = if behind then ascii.backslash ∷ [] else []
imported_value behind (byte ∷ bytes) =
    elim (byte == ascii.backslash && not behind) [
      | true ↦ imported_value true bytes
      | false ↦ byte ∷ imported_value false bytes
    ]

-- blanks in front of a name are dropped
abbrev pub imported_name : List ℕ → List ℕ
imported_name name = cut_front is_space name

abbrev pub imported_pair : Pair → Pair
imported_pair p = (imported_name p.0, imported_value false p.1)

-- whether a name without the blanks in front of it names a variable: blanks alone name none, and `#` begins a comment
abbrev pub names_variable : (name : List ℕ) → Bool
names_variable [] = false
names_variable (byte ∷ bytes) = not (byte == ascii.hash)

abbrev pub is_read : Pair → Bool
is_read p = names_variable (imported_name p.0)

-- one more that was stored: its name has its value from here on
abbrev pub with_imported : List Pair → Pair → List Pair
with_imported pairs p = if is_read p then assigned pairs (imported_name p.0) (imported_value false p.1) else pairs

-- an empty value deletes: the name is not set, whatever stood before
abbrev pub is_set : Pair → Bool
is_set p = not (length p.1 == 0)

-- A value after blanks alone, for which U-Boot leaves the environment, is not followed: the environment has no variables
-- then (ours)
abbrev pub is_doubtful : Pair → Bool
is_doubtful p = length (imported_name p.0) == 0 && is_set p

-- each name has the last value that was stored for it
abbrev pub imported : List Pair → List Pair
imported pairs = if list_any is_doubtful pairs then [] else filter is_set (env_of (map imported_pair (filter is_read pairs)))
