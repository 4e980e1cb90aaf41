-- How the refusals of the parts are reported. Ours.
use Rattle.std.specs.Prelude.{◌≡◌, ℕ, Bool, Result, Ok, Err}
use Rattle.envimage.specs.declared.image.ImageError.{ImageError}
use Rattle.tool_images.specs.Errors.{image_fault, tool_fault}
use Rattle.tool_images.specs.declared.fault.Fault.{Fault}
use Rattle.tool_steps.specs.Faults as files
use Rattle.hushcheck_program.specs.declared.fault.CheckFault.{CheckFault}
use Rattle.hushcheck_program.specs.declared.fault.CheckFault.TheVariants.{DeviceList, Shared}

-- a refusal of the image
abbrev pub of_image : ImageError → CheckFault
of_image error = Shared (tool_fault (image_fault error))

-- this holds of an answer that other programs give too, and the other thing of a refusal of the device list
abbrev pub SharedOr : (Other : Type 0) → (Result Bool Fault → Type 0) → Result Bool CheckFault → Type 0
SharedOr Other IsSo (Ok all) = IsSo (Ok all)
SharedOr Other IsSo (Err (Shared fault)) = IsSo (Err fault)
SharedOr Other IsSo (Err (DeviceList fault)) = Other

-- the device list is not refused, and this holds of the answer
abbrev pub IsShared : (Result Bool Fault → Type 0) → Result Bool CheckFault → Type 0
IsShared IsSo answer = SharedOr ⊥ IsSo answer

-- the count of failures of the device, to which a refusal of the device list adds none
abbrev pub CountsShared : ℕ → ℕ → Result Bool CheckFault → Type 0
CountsShared old new answer = SharedOr (new ≡ old) (files.CountsTold old new) answer
