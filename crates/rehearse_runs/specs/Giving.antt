-- What a call of `next` gives, and what it leaves when the run is no longer borrowed. Ours.
use Rattle.std.specs.Prelude.{◌≡◌, ◌+◌, ◌≤◌, length, ◌++◌, Bool, true, false, [], ◌∷◌, map, Option, Some, None, Result, Ok, Err}
use Rattle.std.specs.Borrow.{Fml, MutBor, RattleType}
use Rattle.std.specs.Io.BufRead.{Rests}
use mir.Syntax.{named}
use Rattle.bootstore_state.specs.declared.store.Store.{Ghosts}
use Rattle.rehearse_terms.specs.Bounds.{most_run_devices}
use Rattle.rehearse_terms.specs.Outcomes.{OutcomeWord}
use Rattle.bootstore_state.specs.StoredState.{state_at}
use Rattle.rehearse_rules.specs.Runs.{Task, run_on, state_of, ending_of, steps}
use Rattle.rehearse_rules.specs.Listing.{outcome_digit}
use Rattle.rehearse_runs.specs.RunsShown.{RunsShown, last_given, steps_shared, successes}
use Rattle.rehearse_records.specs.RunViewShown.{shown_word, shown_moment, shown_ending, shown_marks}
use Rattle.rehearse_records.specs.declared.run_view.RunView.{RunView}
use Rattle.rehearse_rules.specs.declared.rehearse_error.RehearseError.{RehearseError}
use Rattle.rehearse_rules.specs.declared.rehearse_error.RehearseError.TheVariants.{Memory, Failed}
use Rattle.rehearse_runs.specs.contracts.runs.Runs.{the_row}

-- the next word was given, and the words after it are still to come
pub record GivesWord (old new : RunsShown) : Type 0 where
  pub sound : old.failed ≡ false
  pub first : old.to_come ≡ last_given new ∷ new.to_come
  pub given : new.given ≡ Some (last_given new)
  pub still : new.failed ≡ false
  pub task : new.task ≡ old.task
  pub start : new.start ≡ old.start
  pub answers : new.answers ≡ old.answers ++ last_given new ∷ []
  -- the steps begun are those after the last command that the word shares with the word before it
  pub work : new.work + steps_shared old.task old.given (last_given new) ≡ old.work + steps old.task (last_given new)

-- no word is left
pub record GivesNone (old new : RunsShown) : Type 0 where
  pub sound : old.failed ≡ false
  pub none : old.to_come ≡ []
  pub same : new ≡ record old { shows = false }

-- memory ran out: nothing is given, and all later calls fail
pub record GivesUp (old new : RunsShown) : Type 0 where
  pub sound : old.failed ≡ false
  pub failed : new ≡ record old { failed = true; shows = false; work = new.work }

-- memory ran out in an earlier call
pub record HasFailed (old new : RunsShown) : Type 0 where
  pub failed : old.failed ≡ true
  pub same : new ≡ old

abbrev pub Refuses : RunsShown → RehearseError → RunsShown → Type 0
Refuses old Memory new = GivesUp old new
Refuses old Failed new = HasFailed old new
Refuses old _ new = ⊥

abbrev pub Advances : RunsShown → Result Bool RehearseError → RunsShown → Type 0
Advances old (Ok true) new = GivesWord old new × (new.shows ≡ true)
Advances old (Ok false) new = GivesNone old new
Advances old (Err e) new = Refuses old e new

module _ {S : Type 0} (g : Ghosts S) where
  -- the run on a word is shown
  pub record ShowsRun (task : Task) (w : OutcomeWord) (view : RunView S) : Type 0 where
    pub word : shown_word view ≡ map outcome_digit w
    pub moment : state_at (shown_moment g view) [] ≡ state_of (run_on task w)
    pub ending : shown_ending view ≡ ending_of (run_on task w)
    -- no more moments are marked than device commands succeeded, so never more than a run may ask
    pub marks : length (shown_marks g view) ≤ successes w
    pub few : length (shown_marks g view) ≤ most_run_devices

  abbrev pub IsView : RunsShown → Option (RunView S) → Type 0
  IsView shown None = shown.shows ≡ false
  IsView shown (Some view) = (shown.shows ≡ true) × ShowsRun shown.task (last_given shown) view

  abbrev pub Gives : RunsShown → Result (Option (RunView S)) RehearseError → RunsShown → Type 0
  Gives old (Ok None) new = GivesNone old new
  Gives old (Ok (Some view)) new = GivesWord old new × ShowsRun new.task (last_given new) view
  Gives old (Err e) new = Refuses old e new

abbrev pub Lent : (S : RattleType) (g : Ghosts S.Denot) → MutBor RunsShown →
    Result (Option (RunView S.Denot)) RehearseError → Fml
Lent S g runs result = Rests (the_row (record { mir = named 1; lft = [] }) S g) runs (Gives g runs.now result)
