-- From the boots of a board to those of a board whose image and list are given.
use Rattle.std.proofs.Common.{Bool, List}
use Rattle.output.specs.Sink.{Sink}
use Rattle.board_start.specs.declared.board_error.BoardError.TheVariants as board
use Rattle.envimage.specs.Data.{Pair}
use Rattle.rehearse_boots.specs.Boots.{Asked, StartOf}
use Rattle.rehearse_boots.specs.TellingBoots as below
use Rattle.rehearse_boots.specs.declared.boots_error.BootsError.{BootsError}
use Rattle.rehearse_boots.specs.declared.boots_error.BootsError.TheVariants as boots
use Rattle.rehearse_terms.specs.State.{Text}
use Rattle.ubtool.specs.BootStarts.{boot_start}
use Rattle.ubtool.specs.BootsOfImages.{BootLimits, HasBoots, HasEnvironment, RefusesBoots, TellsBoots, asked_of}
use Rattle.ubtool.specs.Faults.{boots_error}
use Rattle.ubtool.specs.Given.{Given}
use Rattle.ubtool.specs.KeptNames.{IsKept}
use Rattle.ubtool.specs.Refusing.{HasImage}

-- where the board has an environment of it, the image is right
pub right-image : (g : Given) (environment : List Pair) → HasEnvironment g environment → HasImage g
right-image g environment found = record { environment = found.0; image = found.1 }

module _ (g : Given) (limits : BootLimits) (environment : List Pair) (kept : List Text) (old new : Sink) (found : HasEnvironment g environment) (is : IsKept g limits.changes environment kept) where
  abbrev pub start : StartOf
  start = boot_start g.device_list g.taking g.asking.variable g.text kept

  has-boots : (IsSo : StartOf → Asked → Type 0) → IsSo start (asked_of g limits environment kept) → HasBoots g limits IsSo
  has-boots IsSo h = record { environment = environment; found = found; kept = kept; is_kept = is; so = h }

  pub tells-boots : (holds : Bool) → below.TellsBoots start (asked_of g limits environment kept) limits.boots old new holds → TellsBoots g limits old new holds
  tells-boots holds h = has-boots (λ start_of asked. below.TellsBoots start_of asked limits.boots old new holds) h

  refuses : (error : BootsError) → below.RefusesBoots start (asked_of g limits environment kept) limits.states limits.work limits.bytes limits.boots old new error
      → HasBoots g limits (λ start_of asked. below.RefusesBoots start_of asked limits.states limits.work limits.bytes limits.boots old new error)
  refuses error h = has-boots (λ start_of asked. below.RefusesBoots start_of asked limits.states limits.work limits.bytes limits.boots old new error) h

  pub refused-boots : (error : BootsError) → below.RefusesBoots start (asked_of g limits environment kept) limits.states limits.work limits.bytes limits.boots old new error → RefusesBoots g limits old new (boots_error error)
  refused-boots (boots.Board (board.Start fault)) h = refuses (boots.Board (board.Start fault)) h
  refused-boots (boots.Board (board.Devices fault)) h = refuses (boots.Board (board.Devices fault)) h
  refused-boots (boots.Board board.Memory) h = absurd h.0
  refused-boots (boots.Changes fault) h = refuses (boots.Changes fault) h
  refused-boots boots.NoSuchVariable h = refuses boots.NoSuchVariable h
  refused-boots boots.Boots h = refuses boots.Boots h
  refused-boots boots.States h = refuses boots.States h
  refused-boots (boots.Steps count) h = refuses (boots.Steps count) h
  refused-boots (boots.Bytes count) h = refuses (boots.Bytes count) h
  refused-boots boots.Write h = refuses boots.Write h
  refused-boots boots.Memory h = (right-image g environment found, h.1)
