-- What contracts see of what a call sets.
use Rattle.std.specs.Prelude.{ℕ, List, map, Option, option_map, Vec}
use Rattle.std.specs.declared.alloc.Global.{Global}
use Rattle.hushcheck.specs.Names.{Text}

-- the names
abbrev pub names_shown : List (Vec ℕ Global) → List Text
names_shown = map (λ name. name.items)

-- a word that may be written out
abbrev pub written : Option (Vec ℕ Global) → Option Text
written = option_map (λ word. word.items)

abbrev pub all_written : List (Option (Vec ℕ Global)) → List (Option Text)
all_written = map written
