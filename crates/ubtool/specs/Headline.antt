-- For every valid environment image, device list and bounds, the rehearsal writes the records of exactly the runs of a
-- variable or of a given text, each once, in dictionary order of outcome words with success before failure, runs that
-- meet a bound marked cut; started after any run's word it writes exactly the records that follow; want of memory or a
-- failing writer leaves a prefix. The variable is the one that is named, bootcmd if none is.
--
-- What is rehearsed is explained here, phrase by phrase. What is written of it is in
-- rehearse_runs/specs/RehearsedEnvironment.antt, which explains the other phrases. The rehearsal is ours. What it
-- rehearses is U-Boot's command line and environment (U-Boot documentation, doc/usage).
use Rattle.std.specs.Prelude.{◌≡◌, Option, Ok}
use Rattle.output.specs.Sink.{Sink}
use Rattle.rehearse_rules.specs.Runs.{Task}
use Rattle.rehearse_runs.specs.RehearsedEnvironment as below
use Rattle.rehearse_runs.specs.declared.listing.Finish.{Finish}
use Rattle.rehearse_terms.specs.Asking.{Asking}
use Rattle.ubtool.specs.Beginning.{Beginning, beginning_of}
use Rattle.ubtool.specs.Given.{Given}

-- what is asked of the runs: as it is given, but with the names that the rehearsal begins with
abbrev pub asked_of : Beginning → Asking → Asking
asked_of beginning asking = record asking { names = beginning.names }

-- a rehearsal begins with what is given, and this holds of what is asked of its runs and of it, if a text is given or the
-- variable is set
pub record HasBoard (g : Given) (IsSo : Asking → Option Task → Type 0) : Type 0 where
  -- "every valid environment image": the variables of the copy that counts, as a board of the shell that is asked for has
  -- them; "device list": all of it is steady if that is asked, and its lines of the start are followed
  pub beginning : Beginning
  pub found : beginning_of g ≡ Ok beginning
  -- "and bounds"; "a variable or of a given text": the text that is given, or else that of the variable that is named
  pub so : IsSo (asked_of beginning g.asking)
      (below.task_asked beginning.environment beginning.devices beginning.text (asked_of beginning g.asking))

-- "the rehearsal writes the records"
abbrev pub Rehearses : Given → (old new : Sink) → Finish → Type 0
Rehearses g old new finish = HasBoard g (λ asking found. below.Rehearses found asking old new finish)

-- "want of memory .. leaves a prefix"
abbrev pub LeavesRecords : Given → (old new : Sink) → Type 0
LeavesRecords g old new = HasBoard g (λ asking found. below.LeavesRecords found asking old new)

-- "or a failing writer leaves a prefix"
abbrev pub LeavesPrefix : Given → (old new : Sink) → Type 0
LeavesPrefix g old new = HasBoard g (λ asking found. below.LeavesPrefix found asking old new)
