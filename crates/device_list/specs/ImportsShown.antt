-- The entries of the program, seen as those of the definition.
use Rattle.std.specs.Prelude.{◌≡◌, ◌++◌, Bool, true, false, List, map, Option, Some, None}
use Rattle.text.specs.TextsShown.{option_items}
use Rattle.device_list.specs.Imports as spec
use Rattle.device_list.specs.Settings.{Setting}
use Rattle.device_list.specs.declared.imports.Entry.{Entry}

abbrev pub entry_shown : Entry → spec.Entry
entry_shown e = (e.name.items, option_items e.value)

abbrev pub all_entries : List Entry → List spec.Entry
all_entries = map entry_shown

-- the settings of a reading were added, or the text has a fault
abbrev pub IsRead : (said : Option (List Setting)) → (old new : List Setting) → (sound : Bool) → Type 0
IsRead said old new true = (more : List Setting) × (said ≡ Some more) × (new ≡ old ++ more)
IsRead said old new false = said ≡ None
