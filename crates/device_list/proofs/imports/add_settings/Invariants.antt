use Rattle.std.proofs.Common.{◌≡◌, ◌++◌, [], drop}
use Rattle.device_list.specs.DevicesShown.{settings_shown}
use Rattle.device_list.specs.Imports.{settings_from}
use Rattle.device_list.specs.ImportsShown.{all_entries}
use Rattle.device_list.proofs.ImportLemmas.{keys_shown}
use Rattle.device_list.proofs.imports.add_settings.Given as goal

-- the settings so far, and then those of the entries left
abbrev pub invariant-loop-entry : goal.invariant-loop-entry
invariant-loop-entry l = settings_shown l.settings ++ settings_from l.reading (keys_shown l.seen.keys) (all_entries (drop l.entry-index l.entries))
    ≡ settings_shown l.fn.settings ++ settings_from l.reading [] (all_entries l.entries)
