-- The state of a run that a store's moment describes, and laws of both (ours).
use Rattle.std.specs.Prelude.{◌≡◌}
use Rattle.std.specs.FinMap as finite
use Rattle.std.specs.FinMap.{entries}
use Rattle.rehearse_terms.specs.Outcomes.{OutcomeWord}
use Rattle.rehearse_terms.specs.State.{Text, get, with_value, without, State, start}
use Rattle.rehearse_terms.specs.declared.written.Written.{Written}
use Rattle.bootstore_state.specs.Moment.{Moment, Variables}
use Rattle.bootstore_state.specs.Record.{beginning}

-- the state that a store's moment describes, with the rest of a word
abbrev pub state_at : Moment → OutcomeWord → State
state_at m word = record {
  memory =
      record { environment = entries m.environment; locals = entries m.locals; status = m.status; text = m.text };
  log = m.log;
  steps = m.steps;
  word = word;
}

-- a value of the map of a store is the value of its entries
abbrev pub StoredValues : Type 0
StoredValues = (variables : Variables) (name : Text) → get (entries variables) name ≡ finite.get variables name

-- a variable that is set in the map is set in the map's entries
abbrev pub StoredChanges : Type 0
StoredChanges = (variables : Variables) (name value : Text) →
    entries (finite.insert variables name value) ≡ with_value (entries variables) name value

-- and so is one that is deleted
abbrev pub StoredDeletions : Type 0
StoredDeletions = (variables : Variables) (name : Text) →
    entries (finite.remove variables name) ≡ without (entries variables) name

-- the moment at which a store starts a run is the state at the run's start
abbrev pub StoredStarts : Type 0
StoredStarts = (written : Written) (environment : Variables) (word : OutcomeWord) →
    state_at (beginning written environment) word ≡ start written (entries environment) word
