-- The built-in commands: the one list of their names. After the U-Boot documentation, doc/usage/cmd.
use Rattle.std.specs.Prelude.{ℕ, Bool, List, [], ◌∷◌, Option, None, codes, is_some}
use Rattle.std.specs.Str.{bytes_eq}
use Rattle.std.specs.Map.{lookup}

pub data Builtin : Type 0 where
  SetEnv Run Test Echo True False Leave : Builtin

abbrev pub builtins : List (List ℕ × Builtin)
builtins =
    (codes "setenv", SetEnv)
    ∷ (codes "run", Run)
    ∷ (codes "test", Test)
    ∷ (codes "echo", Echo)
    ∷ (codes "true", True)
    ∷ (codes "false", False)
    ∷ (codes "exit", Leave)
    ∷ []

-- the built-in command of a name
abbrev pub builtin_of : List ℕ → Option Builtin
builtin_of name = lookup (bytes_eq name) builtins

-- whether a name is a built-in command's
abbrev pub is_built_in : List ℕ → Bool
is_built_in name = is_some (builtin_of name)

-- the built-in command that the first of fields names
abbrev pub builtin_named : List (List ℕ) → Option Builtin
builtin_named [] = None
builtin_named (name ∷ words) = builtin_of name
