-- What is written of the boots of a board, and why it is refused. Ours.
use Rattle.std.specs.Prelude.{◌≡◌, ℕ, ◌+◌, ◌≤◌, Bool, true, false, Option, Some, None, Ok, Err, length, List}
use Rattle.board_start.specs.Boards.{Fault, OfDevices, OfStart}
use Rattle.board_start.specs.declared.board_error.BoardError.TheVariants as board
use Rattle.envtools.specs.Scripting.{scripted}
use Rattle.envtools.specs.declared.script.ScriptError.{ScriptError}
use Rattle.envtools.specs.declared.script.ScriptError.TheVariants as script
use Rattle.output.specs.Sink.{Sink, Wrote, BrokeOff}
use Rattle.rehearse_boots.specs.Boots.{AreBoots, Asked, Boot, Expected, HasMoreBoots, IsReached, Kept, StartOf, Started, boot_of, found_by, rehearsed, told_apart}
use Rattle.rehearse_boots.specs.BootLines.{boots_text}
use Rattle.rehearse_boots.specs.Expecting.{AllLead, OneIsLost}
use Rattle.rehearse_boots.specs.declared.boots_error.BootsError.{BootsError}
use Rattle.rehearse_boots.specs.declared.boots_error.BootsError.TheVariants.{Board, Changes, NoSuchVariable, Boots, States, Steps, Bytes, Write, Memory}
use Rattle.rehearse_endings.specs.Held.{ComesToBytes}
use Rattle.rehearse_endings.specs.States.{ComesToStates, ComesToSteps}
use Rattle.rehearse_rules.specs.Runs.{Task, unheard}
use Rattle.rehearse_terms.specs.State.{Text}

-- the script of changes has no faulty line, if one is given
abbrev pub AreRightChanges : Asked → (changes : Option Text) → Type 0
AreRightChanges asked None = Unit {0}
AreRightChanges asked (Some changes) = (scripted asked.environment changes).fault ≡ None

-- it has one, and this is the first
abbrev pub HasFault : Asked → (changes : Option Text) → ScriptError → Type 0
HasFault asked None fault = ⊥
HasFault asked (Some changes) fault = (scripted asked.environment changes).fault ≡ Some fault

module _ (start_of : StartOf) (asked : Asked) where
  -- the lines of all boots; or the answer, if an ending is expected
  abbrev pub IsAnswer : (boots : List Kept) → Option Expected → (text : Text) → (holds : Bool) → Type 0
  IsAnswer boots None text holds = (text ≡ boots_text start_of asked boots) × (holds ≡ true)
  IsAnswer boots (Some expected) text true = AllLead start_of asked expected boots text
  IsAnswer boots (Some expected) text false = OneIsLost start_of asked expected boots text

  -- the answer of all boots, of which there are no more than allowed
  pub record AreLines (most : ℕ) (text : Text) (holds : Bool) : Type 0 where
    pub changes : AreRightChanges asked asked.changes
    pub boots : List Kept
    pub are : AreBoots start_of asked boots
    pub few : length boots ≤ most
    pub answer : IsAnswer boots asked.expected text holds

  -- a boot that is reached does not start
  pub record DoesNotStart (fault : Fault) : Type 0 where
    pub kept : Kept
    pub reached : IsReached start_of asked kept
    pub faulty : start_of (found_by asked kept) ≡ Err fault

  -- a boot that is reached starts, and has no text to run
  pub record HasNoText : Type 0 where
    pub kept : Kept
    pub started : Started
    pub reached : IsReached start_of asked kept
    pub starts : start_of (found_by asked kept) ≡ Ok started
    pub missing : rehearsed asked kept started ≡ None

  -- this holds of the rehearsal of a boot that is reached
  pub record HasBoot (IsSo : Task → Type 0) : Type 0 where
    pub kept : Kept
    pub boot : Boot
    pub reached : IsReached start_of asked kept
    pub rehearsed : boot_of start_of asked kept ≡ Some boot
    pub so : IsSo boot.task

  -- why there are no lines
  abbrev pub IsUntold : (states work bytes most : ℕ) → BootsError → Type 0
  IsUntold states work bytes most (Board (board.Start fault)) = DoesNotStart (OfStart fault)
  IsUntold states work bytes most (Board (board.Devices fault)) = DoesNotStart (OfDevices fault)
  IsUntold states work bytes most (Board board.Memory) = ⊥
  IsUntold states work bytes most (Changes (script.BadName number)) = HasFault asked asked.changes (script.BadName number)
  IsUntold states work bytes most (Changes (script.BadValue number)) = HasFault asked asked.changes (script.BadValue number)
  IsUntold states work bytes most (Changes script.Memory) = ⊥
  IsUntold states work bytes most NoSuchVariable = HasNoText
  IsUntold states work bytes most Boots = HasMoreBoots start_of asked most
  IsUntold states work bytes most States = HasBoot (λ task. ComesToStates (told_apart asked) (unheard task) (states + 1))
  IsUntold states work bytes most (Steps count) = HasBoot (λ task. ComesToSteps (told_apart asked) (unheard task) count work)
  IsUntold states work bytes most (Bytes count) = HasBoot (λ task. ComesToBytes (told_apart asked) (unheard task) count bytes)
  IsUntold states work bytes most Memory = Unit {0}
  IsUntold states work bytes most Write = ⊥

  -- the lines were written
  abbrev pub TellsBoots : (most : ℕ) → (old new : Sink) → (holds : Bool) → Type 0
  TellsBoots most old new holds = (text : Text) × AreLines most text holds × Wrote old new text

  -- why they were not: nothing is written, or a prefix of the lines
  abbrev pub RefusesBoots : (states work bytes most : ℕ) → (old new : Sink) → BootsError → Type 0
  RefusesBoots states work bytes most old new Write = (text : Text) × (holds : Bool) × AreLines most text holds × BrokeOff old new text
  RefusesBoots states work bytes most old new error = IsUntold states work bytes most error × (new ≡ old)
