-- The lines of a log of device commands in a record, and where they start. Ours.
use Rattle.std.specs.Prelude.{◌≡◌, ℕ, ◌+◌, List, [], ◌∷◌, length}
use Rattle.std.specs.List.{flat_map}
use Rattle.rehearse_terms.specs.State.{Text, LoggedCommand}
use Rattle.rehearse_rules.specs.Listing.{line, device_line}

abbrev pub entry_line : LoggedCommand → Text
entry_line e = line (device_line e)

-- where each line starts, if the first one starts here
abbrev pub starts_from : (at : ℕ) → List LoggedCommand → List ℕ
starts_from at [] = []
starts_from at (e ∷ log) = at ∷ starts_from (at + length (entry_line e)) log

-- the lines of all commands of a log, and where each starts
pub record AreLines (log : List LoggedCommand) (lines : Text) (starts : List ℕ) : Type 0 where
  pub whole : lines ≡ flat_map entry_line log
  pub cuts : starts ≡ starts_from 0 log
