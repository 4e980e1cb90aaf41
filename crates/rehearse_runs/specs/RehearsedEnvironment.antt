-- What a rehearsal of an environment writes. Ours. The words in quotation marks are those of the headline
-- (ubtool/specs/Headline.antt), and each is explained at its line.
use Rattle.std.specs.Prelude.{◌≡◌, ◌⊎◌, false, List, Option, Some, None}
use Rattle.output.specs.Sink.{Sink, Wrote}
use Rattle.rehearse_terms.specs.Asking.{Asking, Listed, Wanted, page_of, whole_page}
use Rattle.rehearse_rules.specs.RunsToCome.{AreToCome, GivesNoRun}
use Rattle.rehearse_terms.specs.Bounds.{BoundsShown}
use Rattle.device_list.specs.DeviceList.{Devices}
use Rattle.rehearse_rules.specs.Listing.{record_of, page_text}
use Rattle.rehearse_terms.specs.Outcomes.{OutcomeWord}
use Rattle.rehearse_rules.specs.Runs.{Task}
use Rattle.rehearse_terms.specs.State.{Text}
use Rattle.rehearse_machine.specs.Tasks.{SourceShown, task_found}
use Rattle.rehearse_runs.specs.ListingRuns.{finish_of}
use Rattle.rehearse_runs.specs.RunsShown.{RunsShown}
use Rattle.rehearse_runs.specs.UnfinishedListings.{BreaksOff, LacksMemory}
use Rattle.rehearse_runs.specs.declared.listing.Finish.{Finish}
use Rattle.rehearse_rules.specs.declared.rehearse_error.RehearseError.{RehearseError}
use Rattle.rehearse_rules.specs.declared.rehearse_error.RehearseError.TheVariants.{NoSuchVariable, NotARun, Write, Memory}

-- the text that is given, which is called as the variable would be, or else the variable
abbrev pub source_asked : (given : Option Text) → Asking → SourceShown
source_asked given asking = record { name = asking.variable; given = given }

-- the rehearsal that an environment, a device list and what is asked give, if a text is given or the variable is set
abbrev pub task_asked : List (Text × Text) → Devices → (given : Option Text) → Asking → Option Task
task_asked environment devices given asking = task_found environment devices (source_asked given asking) asking.bounds

-- a rehearsal was found, and this holds of it and of the words of its runs
pub record WithRuns (found : Option Task) (wanted : Wanted) (IsSo : Task → List OutcomeWord → Type 0) : Type 0 where
  pub task : Task
  pub task_is : found ≡ Some task
  pub words : List OutcomeWord
  -- "exactly the runs .., each once, in dictionary order": all of them, or those in which no more device commands fail
  -- than the bounds say; "started after any run's word": those that follow that run; or the run of a word alone
  pub to_come : AreToCome task wanted words
  pub so : IsSo task words

-- "the records": what the run on a word did, its last line saying how it ended, "runs that meet a bound marked cut"
abbrev pub text_asked : Asking → Task → List OutcomeWord → Text
text_asked asking task words = page_text (record_of task asking.names) words (page_of asking.wanted)

-- "the rehearsal writes": the whole listing is written, and the answer is the one that its last line gives
abbrev pub Rehearses : (found : Option Task) → Asking → (old new : Sink) → Finish → Type 0
Rehearses found asking old new finish = WithRuns found asking.wanted (λ task words.
    Wrote old new (text_asked asking task words) × (finish ≡ finish_of words (page_of asking.wanted)))

-- the word that was given is not in the listing, or no run has it
pub record LacksRun (found : Option Task) (wanted : Wanted) : Type 0 where
  pub task : Task
  pub task_is : found ≡ Some task
  pub no_run : GivesNoRun task wanted

-- "or a failing writer leaves a prefix": a prefix of the listing, and one write failed
abbrev pub LeavesPrefix : (found : Option Task) → Asking → (old new : Sink) → Type 0
LeavesPrefix found asking old new = WithRuns found asking.wanted (λ task words.
    BreaksOff task asking.names words (page_of asking.wanted) old new)

-- "out of memory .. leaves a prefix": whole records of the listing, starting with its first
abbrev pub LeavesRecords : (found : Option Task) → Asking → (old new : Sink) → Type 0
LeavesRecords found asking old new = WithRuns found asking.wanted (λ task words.
    LacksMemory task asking.names words (page_of asking.wanted) old new)

-- why it is refused
abbrev pub Refuses : (found : Option Task) → Asking → (old new : Sink) → RehearseError → Type 0
Refuses found asking old new NoSuchVariable = (found ≡ None) × (new ≡ old)
Refuses found asking old new NotARun = LacksRun found asking.wanted × (new ≡ old)
Refuses found asking old new Write = LeavesPrefix found asking old new
Refuses found asking old new Memory = (new ≡ old) ⊎ LeavesRecords found asking old new
Refuses found asking old new _ = ⊥

-- where the runs of a listing start
pub record Begins (environment : List (Text × Text)) (devices : Devices) (source : SourceShown) (bounds : BoundsShown)
    (after : Option Text) (r : RunsShown) : Type 0 where
  pub task_is : task_found environment devices source bounds ≡ Some r.task
  pub to_come : AreToCome r.task (Listed after whole_page) r.to_come
  pub sound : r.failed ≡ false

-- why a listing does not start
abbrev pub RefusesRuns : List (Text × Text) → Devices → SourceShown → BoundsShown → (after : Option Text) →
    RehearseError → Type 0
RefusesRuns environment devices source bounds after NoSuchVariable = task_found environment devices source bounds ≡ None
RefusesRuns environment devices source bounds after Memory = Unit {0}
RefusesRuns environment devices source bounds after NotARun =
    LacksRun (task_found environment devices source bounds) (Listed after whole_page)
RefusesRuns environment devices source bounds after _ = ⊥
