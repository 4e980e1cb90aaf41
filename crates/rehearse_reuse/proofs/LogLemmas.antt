-- The commands of a log that took an outcome, and those after the first of them.
use Rattle.std.proofs.Common.{◌≡◌, ◌∙◌, refl, ap, not, List, [], ◌∷◌, ◌++◌, map, length}
use Rattle.std.proofs.lemmas.List.{map-append}
use Rattle.std.proofs.lemmas.List.Elements.{filter-append}
use Rattle.rehearse_terms.specs.State.{LoggedCommand, asked_of}
use Rattle.rehearse_states.specs.Flow.{Answered, asked_in}
use Rattle.rehearse_reuse.specs.DrawnRuns.{further}

-- the commands of a log that goes on
pub asked-on : (log rest : List LoggedCommand) → asked_in (log ++ rest) ≡ asked_in log ++ asked_in rest
asked-on log rest =
    ap (map (λ e. (e.success, e.words))) (filter-append (λ e. not e.again) log rest) ∙ map-append (λ e. (e.success, e.words)) (asked_of log) (asked_of rest)

pub further_behind : (log rest : List Answered) → further (length log) (log ++ rest) ≡ rest
further_behind [] rest = refl
further_behind (c ∷ log) rest = further_behind log rest
