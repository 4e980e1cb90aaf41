-- The files that a rehearsal reads: the images, then a device list, and then a script, if one is named. The order of work
-- is ours.
use Rattle.std.specs.Prelude.{◌≡◌, ◌⊎◌, ℕ, List, Option, option_map, Result, Ok, Err}
use Rattle.tool_images.specs.declared.fault.Fault.{Fault}
use Rattle.tool_files.specs.CallOrder.{OnlyReads}
use Rattle.tool_files.specs.Told.{Told, file_at}
use Rattle.tool_files.specs.declared.files.Action.TheVariants.{ReadAll}
use Rattle.tool_steps.specs.Images.{Copy, copies}
use Rattle.tool_steps.specs.Origins.{HasReadImages, IsOriginFault}
use Rattle.tool_steps.specs.ReadingFiles.{IsTextFault, Reads}
use Rattle.tool_steps.specs.Scripts.{HasReadNamed, IsNamedFault}
use Rattle.tool_steps.specs.declared.sources.Sources.{Sources}
use Rattle.tool_words.specs.Asked.{InputsShown, OriginShown}

-- The images were read, and then the device list.
pub record AreListed (origin : OriginShown) (device_list : List ℕ) (old new : Told) (found : List Copy) (text : List ℕ) : Type 0
  where
    pub after_images : Told
    pub read : HasReadImages origin old after_images found
    pub listed : Reads (device_list, ReadAll) (file_at device_list after_images.stored) after_images new text

-- The images were read, then the device list, and then the script, if one is named; and this holds of what they give.
pub record AreRead (inputs : InputsShown) (old new : Told) (IsSo : List Copy → (text : List ℕ) → (script : Option (List ℕ)) → Type 0) :
    Type 0 where
  pub found : List Copy
  pub text : List ℕ
  pub after_list : Told
  pub listed : AreListed inputs.origin inputs.device_list old after_list found text
  pub script : Option (List ℕ)
  pub scripted : HasReadNamed inputs.script after_list new script
  pub so : IsSo found text script

-- The images were read, and the device list is refused for this.
pub record IsUnlisted (origin : OriginShown) (device_list : List ℕ) (old : Told) (fault : Fault) : Type 0 where
  pub found : List Copy
  pub after_images : Told
  pub read : HasReadImages origin old after_images found
  pub refused : IsTextFault device_list (file_at device_list old.stored) fault

-- The images and the device list were read, and the script is refused for this.
pub record IsUnscripted (inputs : InputsShown) (old : Told) (fault : Fault) : Type 0 where
  pub found : List Copy
  pub text : List ℕ
  pub after_list : Told
  pub listed : AreListed inputs.origin inputs.device_list old after_list found text
  pub refused : IsNamedFault inputs.script old.stored fault

-- why they are not all read: files were only read
abbrev pub IsUnread : InputsShown → (old new : Told) → Fault → Type 0
IsUnread inputs old new fault = OnlyReads old new
    × (IsOriginFault inputs.origin old.stored fault
    ⊎ (IsUnlisted inputs.origin inputs.device_list old fault ⊎ IsUnscripted inputs old fault))

-- each answer to the reading of them
abbrev pub ReadsSources : InputsShown → (old new : Told) → Result Sources Fault → Type 0
ReadsSources inputs old new (Ok sources) = AreRead inputs old new (λ found text script.
    (found ≡ copies sources.images) × (text ≡ sources.device_list.items) × (script ≡ option_map (λ v. v.items) sources.script))
ReadsSources inputs old new (Err fault) = IsUnread inputs old new fault
