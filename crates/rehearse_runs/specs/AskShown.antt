-- What contracts see of what is asked of a rehearsal. Ours.
use Rattle.std.specs.Prelude.{ℕ, List, map, Option}
use Rattle.std.specs.Borrow.{Bor}
use Rattle.text.specs.TextsShown.{option_bytes}
use Rattle.rehearse_terms.specs.Asking.{Asking}
use Rattle.rehearse_terms.specs.Asking as spec
use Rattle.rehearse_terms.specs.Bounds.{BoundsShown}
use Rattle.rehearse_terms.specs.State.{Text}
use Rattle.rehearse_terms.specs.WantedShown.{wanted_bounds, wanted_slices}
use Rattle.rehearse_terms.specs.declared.wanted.Wanted.{Wanted}
use Rattle.rehearse_runs.specs.declared.ask.Ask.{Ask}

abbrev pub asking_for : (variable : Text) → BoundsShown → spec.Wanted → (names : List Text) → Asking
asking_for variable bounds wanted names =
    record { variable = variable; bounds = bounds; wanted = wanted; names = names }

abbrev pub asking_by : (variable : Text) → Wanted (Bor (List ℕ)) → (names : List Text) → Asking
asking_by variable wanted names = asking_for variable (wanted_bounds wanted) (wanted_slices wanted) names

abbrev pub asking_of : Ask → Asking
asking_of ask = asking_by ask.name.now ask.wanted (map (λ n. n.now) ask.names.now)

-- the text that is rehearsed in place of the variable's
abbrev pub text_given : Ask → Option Text
text_given ask = option_bytes ask.text
