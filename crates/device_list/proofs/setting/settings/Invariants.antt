use Rattle.std.proofs.Common.{◌≡◌, ◌++◌, drop, map}
use Rattle.std.specs.Option.{option_map}
use Rattle.device_list.specs.DeviceList.{settings}
use Rattle.device_list.specs.DevicesShown.{settings_shown}
use Rattle.device_list.proofs.setting.settings.Given as goal

-- the settings so far come before the settings of the words left
abbrev pub invariant-loop-word : goal.invariant-loop-word
invariant-loop-word l = settings l.of_calls (map (λ w. w.now) l.words)
    ≡ option_map (λ more. settings_shown l.list ++ more) (settings l.of_calls (map (λ w. w.now) (drop l.word-index l.words)))
