-- How a command that succeeds ends the run: the board boots, it restarts (cmd/boot.c of U-Boot, `reset`), or it halts
-- (`poweroff`). The words are ours.
use Rattle.std.specs.Prelude.{List, [], ◌∷◌, Option, Some, None, codes, if◌then◌else◌}
use Rattle.std.specs.Str.{bytes_eq}
use Rattle.text.specs.Lines.{Text}
use Rattle.device_list.specs.declared.finish.BoardEnd.{BoardEnd}
use Rattle.device_list.specs.declared.finish.BoardEnd.TheVariants.{Boots, Restarts, Halts}

-- the word that says so in front of a command
abbrev pub finish_named : (word : Text) → Option BoardEnd
finish_named word =
    if bytes_eq word (codes "final") then Some Boots
    else (if bytes_eq word (codes "restart") then Some Restarts
    else (if bytes_eq word (codes "halt") then Some Halts else None))

-- of two lines, the first that says how the run ends decides
abbrev pub first_finish : (before more : Option BoardEnd) → Option BoardEnd
first_finish None more = more
first_finish (Some finish) more = Some finish

-- and so it is of some lines
abbrev pub first_of : List (Option BoardEnd) → Option BoardEnd
first_of [] = None
first_of (one ∷ more) = first_finish one (first_of more)
