-- What files that were read give a rehearsal. Ours.
use Rattle.std.specs.Prelude.{List, Option, option_map}
use Rattle.board_files.specs.BoardFiles.{AreAllRead}
use Rattle.board_files.specs.declared.board_files.BoardFiles.{BoardFiles}
use Rattle.board_start.specs.Boards.{ListRead}
use Rattle.envimage.specs.declared.image.ByteOrder.{ByteOrder}
use Rattle.rehearse_terms.specs.Asking.{Asking}
use Rattle.rehearse_terms.specs.State.{Text}
use Rattle.tool_files.specs.Told.{Told}
use Rattle.tool_steps.specs.Images.{Copy}
use Rattle.tool_steps.specs.PrintingFiles.{first_bytes, second_bytes}
use Rattle.tool_words.specs.Asked.{InputsShown}
use Rattle.tool_words.specs.declared.ask.Taking.{Taking}
use Rattle.ubtool.specs.Given.{Given, given}

-- the bytes of these copies, the device list and how it is taken, the text that is rehearsed, and what the
-- words ask for
abbrev pub given_by : ByteOrder → List Copy → (device_list : ListRead) → (taking : Taking) → (text : Option Text) → Asking →
    Given
given_by order found device_list taking text asking =
    given order (first_bytes found) (second_bytes found) device_list taking text asking

-- the script that was read, if one was
abbrev pub script_of : BoardFiles → Option Text
script_of board = option_map (λ v. v.items) board.script

-- All that a rehearsal reads was read, and this holds of what it gives.
abbrev pub FromFiles : ByteOrder → InputsShown → Asking → (old new : Told) → (Given → Type 0) → Type 0
FromFiles order inputs asking old new IsSo =
    AreAllRead inputs old new (λ found list script. IsSo (given_by order found list inputs.taking script asking))
