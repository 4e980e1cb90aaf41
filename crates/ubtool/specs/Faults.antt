-- What a refusal of a part is for a rehearsal, and how it is reported. Running out of memory is one refusal, wherever it
-- comes from. Ours.
use Rattle.std.specs.Prelude.{◌≡◌, ℕ, Bool, Result, Ok, Err}
use Rattle.board_start.specs.declared.board_error.BoardError.{BoardError}
use Rattle.board_start.specs.declared.board_error.BoardError.TheVariants as board
use Rattle.envimage.specs.declared.image.ImageError.{ImageError}
use Rattle.envimage.specs.declared.image.ImageError.TheVariants as image
use Rattle.rehearse_boots.specs.declared.boots_error.BootsError.{BootsError}
use Rattle.rehearse_boots.specs.declared.boots_error.BootsError.TheVariants as boots
use Rattle.rehearse_rules.specs.declared.rehearse_error.RehearseError.{RehearseError}
use Rattle.rehearse_rules.specs.declared.rehearse_error.RehearseError.TheVariants as rehearsal
use Rattle.tool_images.specs.declared.error.ToolError.TheVariants as tool
use Rattle.tool_images.specs.declared.fault.Fault.{Fault}
use Rattle.tool_images.specs.declared.fault.Fault.TheVariants as told
use Rattle.tool_steps.specs.Faults as files
use Rattle.ubtool.specs.declared.fault.ProgramFault.{ProgramFault}
use Rattle.ubtool.specs.declared.fault.ProgramFault.TheVariants as program
use Rattle.ubtool.specs.declared.fault.ProgramFault.TheVariants.{Shared}
use Rattle.ubtool.specs.declared.rehearsal_error.RehearsalError.{RehearsalError}
use Rattle.ubtool.specs.declared.rehearsal_error.RehearsalError.TheVariants.{Boots, Changes, Image, Memory, Rehearsal, Start, Unnamed, Write}

abbrev pub image_error : ImageError → RehearsalError
image_error image.Memory = Memory
image_error error = Image error

abbrev pub rehearse_error : RehearseError → RehearsalError
rehearse_error rehearsal.Write = Write
rehearse_error rehearsal.Memory = Memory
rehearse_error error = Rehearsal error

abbrev pub board_error : BoardError → RehearsalError
board_error (board.Start fault) = Start fault
board_error (board.Devices fault) = Rehearsal (rehearsal.DeviceList fault)
board_error board.Memory = Memory

abbrev pub boots_error : BootsError → RehearsalError
boots_error (boots.Board fault) = board_error fault
boots_error (boots.Changes fault) = Changes fault
boots_error boots.NoSuchVariable = Rehearsal rehearsal.NoSuchVariable
boots_error boots.Boots = Boots
boots_error boots.States = Rehearsal rehearsal.States
boots_error (boots.Steps count) = Rehearsal (rehearsal.Steps count)
boots_error (boots.Bytes count) = Rehearsal (rehearsal.Bytes count)
boots_error boots.Write = Write
boots_error boots.Memory = Memory

-- what the program reports of it, where it names no word of the call
abbrev pub reported : RehearsalError → ProgramFault
reported (Image error) = Shared (told.Tool (tool.Image error))
reported (Rehearsal error) = program.Rehearsal error
reported (Start error) = program.Start error
reported (Changes error) = Shared (told.Tool (tool.Script error))
reported Boots = program.Boots
reported Unnamed = program.Unnamed
reported Write = Shared (told.Tool tool.Write)
reported Memory = Shared told.Memory

-- this holds of an answer that other programs give too, and the other thing of a refusal of a rehearsal
abbrev pub SharedOr : (Other : Type 0) → (Result Bool Fault → Type 0) → Result Bool ProgramFault → Type 0
SharedOr Other IsSo (Ok all) = IsSo (Ok all)
SharedOr Other IsSo (Err (Shared fault)) = IsSo (Err fault)
SharedOr Other IsSo (Err _) = Other

-- no rehearsal is refused, and this holds of the answer
abbrev pub IsShared : (Result Bool Fault → Type 0) → Result Bool ProgramFault → Type 0
IsShared IsSo answer = SharedOr ⊥ IsSo answer

-- the count of failures of the device, to which a refusal of a rehearsal adds none
abbrev pub CountsShared : ℕ → ℕ → Result Bool ProgramFault → Type 0
CountsShared old new answer = SharedOr (new ≡ old) (files.CountsTold old new) answer
