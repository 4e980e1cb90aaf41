-- The commands that a device list may have computed: the one list of their names. Computed.antt says what each of them
-- does. After the U-Boot documentation, doc/usage/cmd.
use Rattle.std.specs.Prelude.{List, [], ◌∷◌, Option, codes}
use Rattle.std.specs.Str.{bytes_eq}
use Rattle.std.specs.Map.{lookup}
use Rattle.commands.specs.Verdict.{Text}

pub data Known : Type 0 where
  Env Itest SetExpr : Known

abbrev pub known_names : List (Text × Known)
known_names = (codes "env", Env) ∷ (codes "itest", Itest) ∷ (codes "setexpr", SetExpr) ∷ []

abbrev pub known_of : Text → Option Known
known_of name = lookup (bytes_eq name) known_names
