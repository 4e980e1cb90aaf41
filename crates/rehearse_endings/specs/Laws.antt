-- What the rows of endings say of the list of all runs. Ours.
use Rattle.std.specs.Prelude.{ℕ, ◌≡◌, ◌≢◌, ◌<◌, ◌≤◌, List, [], ◌∷◌, ◌++◌, length, filter}
use Rattle.rehearse_terms.specs.Outcomes.{OutcomeWord}
use Rattle.rehearse_terms.specs.State.{Text}
use Rattle.rehearse_rules.specs.Runs.{Task, unheard, unexpected, all_runs}
use Rattle.rehearse_states.specs.Endings.{Row, end_eq, end_of, endings}
use Rattle.rehearse_states.specs.EndingLines.{counted}
use Rattle.rehearse_states.specs.Flow.{Node, IsFlow}

-- each run is counted, and only once
abbrev pub RunsAreCounted : Type 0
RunsAreCounted = (names : List Text) (task : Task) → counted (endings names task) ≡ length (all_runs task)

-- a row counts the runs that end like this and leave its values; a count of 2^128 - 1 or more is written as `>=` and that number
-- (`count_text` of EndingLines.antt)
abbrev pub RowsCountRuns : Type 0
RowsCountRuns = (names : List Text) (task : Task) (r : Row) (before behind : List Row) →
    endings names task ≡ before ++ r ∷ behind →
    r.count ≡ length (filter (λ w. end_eq (end_of names task w) r.run_end) (all_runs task))

-- no two rows have the same ending and the same values
abbrev pub NoEndingTwice : Type 0
NoEndingTwice = (names : List Text) (task : Task) (r s : Row) (before between behind : List Row) →
    endings names task ≡ before ++ r ∷ between ++ s ∷ behind → r.run_end ≢ s.run_end

-- each of these words has this property
abbrev pub Each : (OutcomeWord → Type 0) → List OutcomeWord → Type 0
Each IsSo [] = Unit {0}
Each IsSo (w ∷ ws) = IsSo w × Each IsSo ws

-- the word is the first with this property
pub record IsFirst (IsSo : OutcomeWord → Type 0) (w : OutcomeWord) (words : List OutcomeWord) : Type 0 where
  pub front : List OutcomeWord
  pub rest : List OutcomeWord
  pub stands : words ≡ front ++ w ∷ rest
  pub so : IsSo w
  pub none : Each (λ v. IsSo v → ⊥) front

-- of the words with this property, the word is the first that counts least
pub record IsFewest (count : OutcomeWord → ℕ) (IsSo : OutcomeWord → Type 0) (w : OutcomeWord) (words : List OutcomeWord) : Type 0 where
  pub front : List OutcomeWord
  pub rest : List OutcomeWord
  pub stands : words ≡ front ++ w ∷ rest
  pub so : IsSo w
  pub more : Each (λ v. IsSo v → count w < count v) front
  pub no_fewer : Each (λ v. IsSo v → count w ≤ count v) rest

-- a row's words are the first run that ends like this and leaves its values, and the first of these runs with the fewest
-- unexpected answers, of which the row has the number
abbrev pub RowsTellOfRuns : Type 0
RowsTellOfRuns = (names : List Text) (task : Task) (r : Row) (before behind : List Row) →
    endings names task ≡ before ++ r ∷ behind →
    IsFirst (λ w. end_of names task w ≡ r.run_end) r.word (all_runs task)
    × IsFewest (unexpected task) (λ w. end_of names task w ≡ r.run_end) r.fewest.0 (all_runs task)
    × (r.fewest.1 ≡ unexpected task r.fewest.0)

-- ---- what a run writes makes no difference

-- if the text of a rehearsal is dropped, its runs end in the same ways
abbrev pub UnheardEndings : Type 0
UnheardEndings = (names : List Text) (task : Task) → endings names (unheard task) ≡ endings names task

-- and a flow of it is a flow of the rehearsal
abbrev pub UnheardFlows : Type 0
UnheardFlows = (task : Task) (nodes : List Node) → IsFlow (unheard task) nodes → IsFlow task nodes
