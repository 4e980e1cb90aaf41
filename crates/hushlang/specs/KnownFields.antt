-- Fields that are known before a command runs. Ours.
use Rattle.std.specs.Prelude.{ℕ, Bool, true, false, ◌&&◌, List, [], ◌∷◌, nat_le, if◌then◌else◌, Option, Some, None, option_and_then}
use Rattle.std.specs.List.{list_all}
use Rattle.std.specs.Option.{option_or}
use Rattle.hushlang.specs.Tree as tree
use Rattle.hushlang.specs.Tree.{Word, Piece}
use Rattle.hushlang.specs.Expansion.{Parameters, fields, size, most_bytes}
use Rattle.builtins.specs.Builtins.{Builtin, builtin_of}

-- a piece that is the same whatever the variables and the status are
abbrev pub is_constant : Piece → Bool
is_constant (tree.Bytes bytes) = true
is_constant tree.Mark = true
is_constant (tree.Var name split) = false
is_constant tree.Status = false

abbrev pub is_constant_word : Word → Bool
is_constant_word word = list_all is_constant word

abbrev pub are_constant : List Word → Bool
are_constant words = list_all is_constant_word words

-- no variable is set, and the status is 0
abbrev pub nothing_set : Parameters
nothing_set = record { value = λ name. None; status = 0 }

-- the fields of words, if no piece of them can change and the fields fit the limit
abbrev pub known_fields : List Word → Option (List (List ℕ))
known_fields words =
    if are_constant words && nat_le (size (fields nothing_set words)) most_bytes
    then Some (fields nothing_set words) else None

-- the fields of the first word, if no piece of it can change and they fit the limit
abbrev pub known_of_first : List Word → Option (List (List ℕ))
known_of_first [] = None
known_of_first (word ∷ words) = known_fields (word ∷ [])

abbrev pub first_field : List (List ℕ) → Option (List ℕ)
first_field [] = None
first_field (name ∷ more) = Some name

-- the name that words start with: their first field, if all their fields are known, or those of the first word alone
abbrev pub known_name : List Word → Option (List ℕ)
known_name words = option_and_then first_field (option_or (known_fields words) (known_of_first words))

-- the built-in command of the name that words start with, if that name is known before they are expanded
abbrev pub known_builtin : List Word → Option Builtin
known_builtin words = option_and_then builtin_of (known_name words)
