-- What a whole program has done when it ends with a status, by what it answers to its words, what is done for that and
-- why that may be refused (`Fault`). The statuses are ours.
use Rattle.std.specs.Prelude.{◌≡◌, ◌⊎◌, ℕ, Bool, true, false, List, Option, Result, Ok, Err, string_bytes}
use Rattle.clap.specs.Words.{Text}
use Rattle.output.specs.Sink.{BrokeOff, Sink, Wrote}
use Rattle.tool_words.specs.declared.ask.UseError.{UseError}
use Rattle.tool_words.specs.declared.ask.UseError.TheVariants.{Line}
use Rattle.output.specs.Outputs.{Outputs}
use Rattle.tool_files.specs.Told.{Told}
use Rattle.tool_files.specs.declared.files.Files.{Ghosts}
use Rattle.tool_images.specs.FaultLines.{TellsLine}
use Rattle.tool_steps.specs.declared.starting.StartError.{StartError}

-- What the files show at a moment: how often the device has failed, what is in the files, if that is known, and whether
-- the lock was taken.
pub record FilesShown : Type 0 where
  pub faults : ℕ
  pub told : Option Told
  pub locked : Bool

-- what some files show
abbrev pub files_shown : {F : Type 0} → Ghosts F → F → FilesShown
files_shown g files = record { faults = g.faults files; told = g.told files; locked = g.locked files }

-- Status 0: the words ask for something, and it was done. What the files show then is as what was asked for allows.
pub record HasDone {Ask Fault : Type 0} (Answers : List Text → Result Ask UseError → Type 0)
    (Leaves : Ask → Result Bool Fault → FilesShown → FilesShown → Type 0)
    (Does : Ask → Option Told → Option Told → Outputs → Result Bool Fault → Type 0)
    (words : List Text) (before after : FilesShown) (outputs : Outputs) : Type 0 where
  pub ask : Ask
  pub asked : Answers words (Ok ask)
  pub leaves : Leaves ask (Ok true) before after
  pub does : Does ask before.told after.told outputs (Ok true)

-- a fault is reported last, in one line, and with any other answer nothing is reported
abbrev pub TellsLast : {Fault : Type 0} → (program : List ℕ) → Result Bool Fault → Sink → Sink → Type 0
TellsLast program (Ok all) old new = new ≡ old
TellsLast program (Err fault) old new = TellsLine program old new

-- Status 1: the words ask for something. Either the answer is no, as for a missing variable; or it was refused, and one
-- line of the program is the last thing reported on the error output. What the files show then is as what was asked for and
-- the answer say.
pub record HasRefused {Ask Fault : Type 0} (program : List ℕ) (Answers : List Text → Result Ask UseError → Type 0)
    (Leaves : Ask → Result Bool Fault → FilesShown → FilesShown → Type 0)
    (Does : Ask → Option Told → Option Told → Outputs → Result Bool Fault → Type 0)
    (words : List Text) (before after : FilesShown) (outputs : Outputs) : Type 0 where
  pub ask : Ask
  pub asked : Answers words (Ok ask)
  pub answer : Result Bool Fault
  pub is_refusal : (answer ≡ Ok true) → ⊥
  pub leaves : Leaves ask answer before after
  pub told_from : Sink
  pub told : TellsLast program answer told_from outputs.err'
  pub does : Does ask before.told after.told (record outputs { err' = told_from }) answer

-- what is reported if words are refused: what `clap` says, as it is, or a prefix of it if the output failed; of any
-- other refusal one line of the program
abbrev pub Tells : (program : List ℕ) → UseError → Sink → Sink → Type 0
Tells program (Line text) old new = Wrote old new (string_bytes text) ⊎ BrokeOff old new (string_bytes text)
Tells program error old new = TellsLine program old new

-- Status 2: the words were refused. No file was touched, no lock was taken, and nothing was printed.
pub record IsMisused {Ask : Type 0} (program : List ℕ) (Answers : List Text → Result Ask UseError → Type 0)
    (words : List Text) (before after : FilesShown) (outputs : Outputs) : Type 0 where
  pub error : UseError
  pub refused : Answers words (Err error)
  pub sound : after.faults ≡ before.faults
  pub files : after.told ≡ before.told
  pub lock : after.locked ≡ before.locked
  pub output : outputs.out' ≡ outputs.out
  pub tells : Tells program error outputs.err outputs.err'

-- the status with which a program ended, or 2 if it did not start
abbrev pub EndsAs : Result ℕ StartError → ℕ → Type 0
EndsAs (Ok came) status = status ≡ came
EndsAs (Err error) status = status ≡ 2

-- The status of an answer, which leaves the error output as it is if there is no fault. A fault is reported in one line,
-- and has the status with which the program says that something was refused.
abbrev pub Ends : {Fault : Type 0} → (program : List ℕ) → (refused : ℕ) → Result Bool Fault → Sink → Sink → ℕ → Type 0
Ends program refused (Ok true) old new status = (status ≡ 0) × (new ≡ old)
Ends program refused (Ok false) old new status = (status ≡ 1) × (new ≡ old)
Ends program refused (Err fault) old new status = (status ≡ refused) × TellsLine program old new
