use Rattle.std.proofs.Common.{◌≡◌, drop, map}
use Rattle.std.specs.List.{list_any}
use Rattle.device_list.specs.CallLines.{is_saving}
use Rattle.device_list.specs.DevicesShown.{setting_shown}
use Rattle.device_list.proofs.saving.are_saving.Given as goal

-- none so far is one
abbrev pub invariant-loop-set : goal.invariant-loop-set
invariant-loop-set l = list_any is_saving (map setting_shown l.sets) ≡ list_any is_saving (map setting_shown (drop l.set-index l.sets))
