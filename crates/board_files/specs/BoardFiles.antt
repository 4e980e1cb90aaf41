-- All that a rehearsal reads: the images, the device list, a script, if one is named, and then the files that the list names. The
-- order of work is ours.
use Rattle.std.specs.Prelude.{◌≡◌, ◌⊎◌, ℕ, List, Option, option_map, Result, Ok, Err}
use Rattle.board_files.specs.NamedFiles.{HaveReadNamed, IsNamedFilesFault}
use Rattle.board_files.specs.declared.board_files.BoardFiles.{BoardFiles}
use Rattle.board_start.specs.Boards.{ListRead}
use Rattle.device_list.specs.CallLines.{Files}
use Rattle.device_list.specs.CommandsShown.{files_shown}
use Rattle.device_list.specs.NamedFiles.{named_files}
use Rattle.tool_files.specs.CallOrder.{OnlyReads}
use Rattle.tool_files.specs.Told.{Told}
use Rattle.tool_images.specs.declared.fault.Fault.{Fault}
use Rattle.tool_steps.specs.Images.{Copy, copies}
use Rattle.tool_steps.specs.Sources.{AreRead, IsUnread}
use Rattle.tool_words.specs.Asked.{InputsShown}

-- a list with the files that it names
abbrev pub list_read : (text : List ℕ) → Files → ListRead
list_read text files = record { text = text; files = files }

-- All was read, and this holds of what it gives.
pub record AreAllRead (inputs : InputsShown) (old new : Told) (IsSo : List Copy → ListRead → (script : Option (List ℕ)) → Type 0) :
    Type 0 where
  pub middle : Told
  pub files : Files
  pub read : AreRead inputs old middle (λ found text script.
      HaveReadNamed inputs.files (named_files text) middle new files × IsSo found (list_read text files) script)

-- All but the files that the list names was read, and one of these is refused for this.
pub record AreUnnamed (inputs : InputsShown) (old : Told) (fault : Fault) : Type 0 where
  pub middle : Told
  pub read : AreRead inputs old middle (λ found text script. IsNamedFilesFault inputs.files (named_files text) old.stored fault)

-- why not all is read: files were only read
abbrev pub IsNotRead : InputsShown → (old new : Told) → Fault → Type 0
IsNotRead inputs old new fault = OnlyReads old new × (IsUnread inputs old new fault ⊎ AreUnnamed inputs old fault)

-- the list that was read
abbrev pub list_of : BoardFiles → ListRead
list_of board = list_read board.device_list.items (files_shown board.files.entries)

-- each answer to the reading
abbrev pub ReadsBoard : InputsShown → (old new : Told) → Result BoardFiles Fault → Type 0
ReadsBoard inputs old new (Ok board) = AreAllRead inputs old new (λ found list script.
    (found ≡ copies board.images) × (list ≡ list_of board) × (script ≡ option_map (λ v. v.items) board.script))
ReadsBoard inputs old new (Err fault) = IsNotRead inputs old new fault
