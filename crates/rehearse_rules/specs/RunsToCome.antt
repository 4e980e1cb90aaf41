-- Which runs are written for what is asked of a rehearsal. Ours.
use Rattle.std.specs.Prelude.{◌≡◌, ◌≢◌, List, [], ◌∷◌, Some, None}
use Rattle.rehearse_rules.specs.Listing.{spelled}
use Rattle.rehearse_rules.specs.Runs.{Task, kind, runs, IsListed, rest}
use Rattle.rehearse_terms.specs.Asking.{Wanted, Listed, Alone}
use Rattle.rehearse_terms.specs.Outcomes.{OutcomeWord, Run}
use Rattle.rehearse_terms.specs.State.{Text}

-- the words whose records are wanted: the runs of the listing in dictionary order; the runs that follow one of them; or
-- the run of a word, however many of its answers are unexpected
abbrev pub AreToCome : Task → Wanted → List OutcomeWord → Type 0
AreToCome task (Listed None page) words = words ≡ runs task
AreToCome task (Listed (Some text) page) words =
    (w : OutcomeWord) × (text ≡ spelled w) × IsListed task w × (words ≡ rest task w)
AreToCome task (Alone text) words =
    (w : OutcomeWord) × (text ≡ spelled w) × (kind task w ≡ Run) × (words ≡ w ∷ [])

-- no run has the word
abbrev pub SpellsNoRun : Task → (given : Text) → Type 0
SpellsNoRun task text = (w : OutcomeWord) → text ≡ spelled w → kind task w ≢ Run

-- the word that is given is no word of the listing; if one run is wanted, no run has the word
abbrev pub GivesNoRun : Task → Wanted → Type 0
GivesNoRun task (Listed None page) = ⊥
GivesNoRun task (Listed (Some text) page) = (w : OutcomeWord) → text ≡ spelled w → IsListed task w → ⊥
GivesNoRun task (Alone text) = SpellsNoRun task text
