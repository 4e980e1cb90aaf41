-- The texts and sizes of the files that a device list names, read from a folder. The order of work is ours.
use Rattle.std.specs.Prelude.{◌≡◌, ◌⊎◌, ◌+◌, ◌<◌, ◌≤◌, IsSomeAnd, ℕ, List, [], ◌∷◌, ◌++◌, length, map, fold, false, Option, Some, None, Result, Ok, Err, if◌then◌else◌}
use Rattle.std.specs.List.{list_any, AllByRecursion}
use Rattle.std.specs.Str.{bytes_eq}
use Rattle.device_list.specs.CallLines.{FileText, Files}
use Rattle.device_list.specs.CommandsShown.{files_shown}
use Rattle.device_list.specs.DevicesShown.{Bytes}
use Rattle.device_list.specs.declared.file_text.FileText.{FileText as KeptFile}
use Rattle.envimage.specs.Config.{is_text}
use Rattle.indexmap.specs.IndexMap.{IndexMap}
use Rattle.script_file.specs.ScriptFiles.{script_in}
use Rattle.tool_files.specs.CallOrder.{OnlyReads}
use Rattle.tool_files.specs.Told.{Stored, Told, file_at}
use Rattle.tool_files.specs.declared.files.Action.{Action}
use Rattle.tool_files.specs.declared.files.Action.TheVariants.{ReadAll}
use Rattle.tool_images.specs.FileFaults.{IsPathOf}
use Rattle.tool_images.specs.declared.fault.Fault.{Fault}
use Rattle.tool_images.specs.declared.fault.Fault.TheVariants.{FileTooLong, Memory}
use Rattle.tool_steps.specs.Scripts.{HasReadSized, IsScriptFault}

-- the path of a file below a folder
abbrev pub path_below : (folder name : List ℕ) → List ℕ
path_below folder name = folder ++ 47 ∷ name

-- ---- the names

-- one more name, if a path may have it, since it is UTF-8, and it was not there before
abbrev pub once_more : List (List ℕ) → (name : List ℕ) → List (List ℕ)
once_more names name = if list_any (bytes_eq name) names then names else names ++ name ∷ []

abbrev pub one_more : List (List ℕ) → (name : List ℕ) → List (List ℕ)
one_more names name = if is_text name then once_more names name else names

-- the files that are read: each once, in the order in which they are named
abbrev pub each_once : List (List ℕ) → List (List ℕ)
each_once names = fold one_more [] names

abbrev pub names_of : Files → List (List ℕ)
names_of = map (λ f. f.0)

-- ---- the texts

-- the most bytes that the texts have together: 16 MiB
abbrev pub most_bytes : ℕ
most_bytes = 16777216

abbrev pub total : Files → ℕ
total [] = 0
total (file ∷ files) = length file.1.text + total files

-- a file holds this script, and has this size
abbrev pub HoldsScript : (path : List ℕ) → Stored → FileText → Type 0
HoldsScript path stored file =
    IsSomeAnd (file_at path stored) (λ all. (script_in all ≡ Ok file.text) × (file.size ≡ length all))

-- each is the script of the file of its name, with the size of the file
abbrev pub AreScripts : (folder : List ℕ) → Stored → Files → Type 0
AreScripts folder stored files = AllByRecursion (λ f. HoldsScript (path_below folder f.0) stored f.1) files

-- the call that reads a file
abbrev pub read_of : (folder : List ℕ) → List ℕ × FileText → List ℕ × Action
read_of folder file = (path_below folder file.0, ReadAll)

-- These files were read, one after another, and no file was changed.
pub record HaveRead (folder : List ℕ) (old new : Told) (files : Files) : Type 0 where
  pub scripts : AreScripts folder old.stored files
  pub calls : new.calls ≡ old.calls ++ map (read_of folder) files
  pub stored : new.stored ≡ old.stored

-- ---- one of them

-- there is no room for its script
abbrev pub IsOver : (path : List ℕ) → (room : ℕ) → Stored → Fault → Type 0
IsOver path room stored (FileTooLong told) =
    IsPathOf told path × ((file : FileText) × HoldsScript path stored file × (room < length file.text))
IsOver path room stored fault = ⊥

-- a file is refused: it fails or has no script, or there is no room for its script; the fault names the file
abbrev pub IsRefused : (path : List ℕ) → (room : ℕ) → Stored → Fault → Type 0
IsRefused path room stored fault = IsScriptFault path (file_at path stored) fault ⊎ IsOver path room stored fault

-- its script was read, or refused, and files were only read
abbrev pub ReadsWithin : (path : List ℕ) → (room : ℕ) → (old new : Told) → Result KeptFile Fault → Type 0
ReadsWithin path room old new (Ok file) =
    HasReadSized path old new file.text.items file.size × (length file.text.items ≤ room)
ReadsWithin path room old new (Err fault) = OnlyReads old new × IsRefused path room old.stored fault

-- no file has this name
abbrev pub IsNew : Files → (name : List ℕ) → Type 0
IsNew files name = list_any (bytes_eq name) (names_of files) ≡ false

-- a name that is read, since a path may have it and no file has it yet
abbrev pub IsNext : Files → (name : List ℕ) → Type 0
IsNext files name = one_more (names_of files) name ≡ names_of files ++ name ∷ []

-- what reading one more of the files makes of those that were read
abbrev pub IsOneMore : (folder name : List ℕ) → (old new : Told) → (before after : Files) → Type 0
IsOneMore folder name old new before after =
    ((one_more (names_of before) name ≡ names_of before) × (after ≡ before) × (new ≡ old))
    ⊎ (IsNext before name
    × ((file : FileText) × (after ≡ before ++ (name, file) ∷ [])
    × HasReadSized (path_below folder name) old new file.text file.size))

abbrev pub ReadsOne : (folder name : List ℕ) → (old new : Told) → (before after : Files) → (room left : ℕ) →
    Result (Unit {0}) Fault → Type 0
ReadsOne folder name old new before after room left (Ok u) =
    IsOneMore folder name old new before after × (total after + left ≡ total before + room)
ReadsOne folder name old new before after room left (Err fault) =
    OnlyReads old new × IsNext before name × IsRefused (path_below folder name) room old.stored fault

-- ---- all of them

-- The first of the files that is refused, after those before it were read; `left` is the room that these leave.
pub record IsFilesFault (folder : List ℕ) (names : List (List ℕ)) (stored : Stored) (fault : Fault) : Type 0 where
  pub before : Files
  pub name : List ℕ
  pub after : List (List ℕ)
  pub order : each_once names ≡ names_of before ++ name ∷ after
  pub scripts : AreScripts folder stored before
  pub left : ℕ
  pub room : total before + left ≡ most_bytes
  pub refused : IsRefused (path_below folder name) left stored fault

-- the files of these names were read
abbrev pub ReadsFiles : {S : Type 0} → (folder : List ℕ) → (names : List (List ℕ)) → (old new : Told) →
    Result (IndexMap Bytes KeptFile S) Fault → Type 0
ReadsFiles folder names old new (Ok files) =
    HaveRead folder old new (files_shown files.entries) × (names_of (files_shown files.entries) ≡ each_once names)
ReadsFiles folder names old new (Err fault) = OnlyReads old new × IsFilesFault folder names old.stored fault

-- if a folder is named
abbrev pub HaveReadNamed : (folder : Option (List ℕ)) → (names : List (List ℕ)) → (old new : Told) → Files → Type 0
HaveReadNamed None names old new files = (new ≡ old) × (files ≡ [])
HaveReadNamed (Some folder) names old new files = HaveRead folder old new files × (names_of files ≡ each_once names)

-- memory may run out before it is known which files are named
abbrev pub IsNamedFilesFault : (folder : Option (List ℕ)) → (names : List (List ℕ)) → Stored → Fault → Type 0
IsNamedFilesFault None names stored fault = ⊥
IsNamedFilesFault (Some folder) names stored fault = (fault ≡ Memory) ⊎ IsFilesFault folder names stored fault

abbrev pub ReadsNamedFiles : {S : Type 0} → (folder : Option (List ℕ)) → (names : List (List ℕ)) → (old new : Told) →
    Result (IndexMap Bytes KeptFile S) Fault → Type 0
ReadsNamedFiles folder names old new (Ok files) = HaveReadNamed folder names old new (files_shown files.entries)
ReadsNamedFiles folder names old new (Err fault) = OnlyReads old new × IsNamedFilesFault folder names old.stored fault
