-- What the causes of a task say of all its runs. Ours.
use Rattle.std.specs.Prelude.{◌≡◌, ◌≢◌, true, false, List, [], ◌∷◌, ◌++◌, map}
use Rattle.rehearse_terms.specs.Outcomes.{OutcomeWord}
use Rattle.rehearse_rules.specs.Runs.{Task, runs, IsListed}
use Rattle.rehearse_states.specs.Endings.{ending}
use Rattle.rehearse_causes.specs.Causes.{Cause, cause_on, causes, covers}
use Rattle.rehearse_causes.specs.CauseLines.{is_booted, is_fine, reported}

-- x is in a list
pub record StandsIn (x : Cause) (xs : List Cause) : Type 0 where
  pub before : List Cause
  pub behind : List Cause
  pub is : xs ≡ before ++ x ∷ behind

-- a cause is what fails in one of the runs
abbrev pub CausesAreRuns : Type 0
CausesAreRuns = (task : Task) (c : Cause) → StandsIn c (causes task) →
    (w : OutcomeWord) × IsListed task w × (c ≡ cause_on task w)

-- whatever way a run ends, a cause has this ending, and nothing fails in it that does not fail in the run
abbrev pub RunsHaveCauses : Type 0
RunsHaveCauses = (task : Task) (w : OutcomeWord) → IsListed task w →
    (c : Cause) × StandsIn c (causes task) × (covers c (cause_on task w) ≡ true)

-- no cause needs all that another with the same ending needs
abbrev pub CausesStandAlone : Type 0
CausesStandAlone = (task : Task) (c d : Cause) (before between behind : List Cause) →
    causes task ≡ before ++ c ∷ between ++ d ∷ behind → (covers c d ≡ false) × (covers d c ≡ false)

-- a check finds nothing just if every run boots
abbrev pub ChecksAreRight : Type 0
ChecksAreRight = (task : Task) →
    (is_fine true (reported true (causes task)) ≡ true → (w : OutcomeWord) → IsListed task w → is_booted (ending task w) ≡ true)
    × (is_fine true (reported true (causes task)) ≡ false → (w : OutcomeWord) × IsListed task w × (is_booted (ending task w) ≡ false))
