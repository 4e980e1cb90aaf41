-- Which names no variable of a script has: those that `setenv` refuses (U-Boot 2023.01, cmd/nvedit.c, `_do_env_set`).
use Rattle.std.specs.Prelude.{nat_eq, Bool, true, [], ◌∷◌, ◌||◌}
use Rattle.std.specs.List.{list_any}
use Rattle.text.specs.Bytes as ascii
use Rattle.text.specs.Lines.{Text}

-- not the name of a variable: empty, with `=` in it, or beginning with `-`
abbrev pub is_bad_name : Text → Bool
is_bad_name [] = true
is_bad_name (b ∷ name) = nat_eq b ascii.minus || nat_eq b ascii.equals || list_any (nat_eq ascii.equals) name
