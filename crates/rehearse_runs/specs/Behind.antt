-- The runs after a word, and what kind of word a text is. Ours.
use Rattle.std.specs.Prelude.{◌≡◌, ◌≢◌, [], true, false, map, Option, Some, None, IsSome}
use Rattle.rehearse_terms.specs.Outcomes as outcomes
use Rattle.rehearse_terms.specs.Outcomes.{OutcomeWord}
use Rattle.rehearse_terms.specs.State.{Text}
use Rattle.rehearse_rules.specs.Runs.{Task, kind, IsListed, rest, steps}
use Rattle.rehearse_rules.specs.Listing.{outcome_digit}
use Rattle.rehearse_runs.specs.RunsShown.{RunsShown}
use Rattle.rehearse_rules.specs.declared.rehearse_error.RehearseError.{RehearseError}
use Rattle.rehearse_rules.specs.declared.rehearse_error.RehearseError.TheVariants.{NoSuchVariable, Memory, NotARun}
use Rattle.rehearse_runs.specs.declared.trying.WordKind.{WordKind}
use Rattle.rehearse_runs.specs.declared.trying.WordKind.TheVariants.{Run, Short, Long}

-- the rehearsal when the runs after w are to come: the steps of w are begun
abbrev pub runs_behind : Task → OutcomeWord → RunsShown
runs_behind task w = record {
  task = task;
  start = Some w;
  answers = [];
  to_come = rest task w;
  given = Some w;
  failed = false;
  shows = true;
  work = steps task w;
}

-- the text is the digits of one of the runs, and the runs after it are to come
pub record GoesOnBehind (task : Task) (text : Text) (runs : RunsShown) : Type 0 where
  pub word : OutcomeWord
  pub digits : text ≡ map outcome_digit word
  pub run : IsListed task word
  pub behind : runs ≡ runs_behind task word

-- a text is not the digits of a run
abbrev pub IsNoRun : Task → Text → Type 0
IsNoRun task text = (w : OutcomeWord) → text ≡ map outcome_digit w → kind task w ≢ outcomes.Run

-- nor of one of the runs in which no more device commands fail than may
abbrev pub IsNotListed : Task → Text → Type 0
IsNotListed task text = (w : OutcomeWord) → text ≡ map outcome_digit w → IsListed task w → ⊥

-- why there are no runs after a word, if the text of the rehearsal is this one, or not there
abbrev pub RefusesWord : Task → (value : Option Text) → Text → RehearseError → Type 0
RefusesWord task value text NoSuchVariable = value ≡ None
RefusesWord task value text Memory = IsSome value
RefusesWord task value text NotARun = IsSome value × IsNotListed task text
RefusesWord task value text _ = ⊥

abbrev pub kind_shown : WordKind → outcomes.WordKind
kind_shown Run = outcomes.Run
kind_shown Short = outcomes.Short
kind_shown Long = outcomes.Long

-- the kind of the word whose digits a text is; a text with a byte that is not a digit is too long
pub record HasKind (task : Task) (text : Text) (k : outcomes.WordKind) : Type 0 where
  pub digits : (w : OutcomeWord) → text ≡ map outcome_digit w → kind task w ≡ k
  pub others : k ≢ outcomes.Long → (w : OutcomeWord) × (text ≡ map outcome_digit w)

-- why a text is not tried
abbrev pub RefusesTry : (value : Option Text) → RehearseError → Type 0
RefusesTry value NoSuchVariable = value ≡ None
RefusesTry value Memory = IsSome value
RefusesTry value _ = ⊥
