use Rattle.std.proofs.Common.{◌≡◌, take}
use Rattle.std.specs.List.{fold}
use Rattle.device_list.specs.DevicesShown.{setting_shown}
use Rattle.hushcheck.specs.CallSets.{set_by_setting}
use Rattle.hushcheck.specs.CallSetsShown.{all_written}
use Rattle.hushcheck.proofs.call_sets.Sets.add_settings.Given as goal

-- what the settings so far set
abbrev pub invariant-loop-setting : goal.invariant-loop-setting
invariant-loop-setting l = l.self ≡ fold (λ t s. set_by_setting (all_written l.words) t (setting_shown s)) l.fn.self (take l.setting-index l.settings)
