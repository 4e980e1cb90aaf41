-- Changes of an environment, one after another. That an empty value deletes is U-Boot's (cmd/nvedit.c, `env_set`). The order
-- of the variables is ours: U-Boot keeps them in a table that has none.
use Rattle.std.specs.Prelude.{◌&&◌, List, [], ◌∷◌, if◌then◌else◌}
use Rattle.envimage.specs.Data.{Pair}
use Rattle.envtools.specs.Environment.{changed_to, is_name, is_value}

-- A name is given a value, if a variable may have both; if not, nothing changes.
abbrev pub with_change : List Pair → Pair → List Pair
with_change pairs change =
    if is_name change.0 && is_value change.1 then changed_to pairs change.0 change.1 else pairs

abbrev pub with_changes : List Pair → (changes : List Pair) → List Pair
with_changes pairs [] = pairs
with_changes pairs (change ∷ changes) = with_changes (with_change pairs change) changes
