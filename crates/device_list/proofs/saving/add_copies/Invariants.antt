use Rattle.std.proofs.Common.{◌≡◌, ◌++◌, drop, map}
use Rattle.device_list.specs.DevicesShown.{settings_shown}
use Rattle.device_list.specs.Saving.{copying}
use Rattle.device_list.proofs.saving.add_copies.Given as goal

-- the settings so far, and then those of the names left
abbrev pub invariant-loop-name : goal.invariant-loop-name
invariant-loop-name l = settings_shown l.sets ++ map copying (map (λ n. n.now) (drop l.name-index l.names))
    ≡ settings_shown l.fn.sets ++ map copying (map (λ n. n.now) l.names)
