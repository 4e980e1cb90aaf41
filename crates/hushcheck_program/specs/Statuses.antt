-- What the statuses 1 and 3 say: 1 that a text or a command is wrong, 3 that something was refused. Ours.
use Rattle.std.specs.Prelude.{◌≡◌, ℕ, Bool, false, List, Option, Result, Ok, Err}
use Rattle.clap.specs.Words.{Text}
use Rattle.tool_words.specs.declared.ask.UseError.{UseError}
use Rattle.output.specs.Outputs.{Outputs}
use Rattle.tool_files.specs.Told.{Told}
use Rattle.hushcheck_program.specs.declared.fault.CheckFault.{CheckFault}
use Rattle.tool_steps.specs.Running.{FilesShown, HasRefused}

-- status 1: the answer is no, and nothing was refused
pub record IsUnsound {Ask : Type 0} (program : List ℕ) (Answers : List Text → Result Ask UseError → Type 0)
    (Leaves : Ask → Result Bool CheckFault → FilesShown → FilesShown → Type 0)
    (Does : Ask → Option Told → Option Told → Outputs → Result Bool CheckFault → Type 0)
    (words : List Text) (before after : FilesShown) (outputs : Outputs) : Type 0 where
  pub ended : HasRefused program Answers Leaves Does words before after outputs
  pub answer_is : ended.answer ≡ Ok false

-- status 3: something was refused
pub record IsRefused {Ask : Type 0} (program : List ℕ) (Answers : List Text → Result Ask UseError → Type 0)
    (Leaves : Ask → Result Bool CheckFault → FilesShown → FilesShown → Type 0)
    (Does : Ask → Option Told → Option Told → Outputs → Result Bool CheckFault → Type 0)
    (words : List Text) (before after : FilesShown) (outputs : Outputs) : Type 0 where
  pub ended : HasRefused program Answers Leaves Does words before after outputs
  pub fault : CheckFault
  pub answer_is : ended.answer ≡ Err fault
