use Rattle.std.proofs.Common.{◌≡◌, ◌++◌, drop, map}
use Rattle.device_list.specs.Saving.{saved_name}
use Rattle.text.specs.TextsShown.{bytes_of_words}
use Rattle.ubtool.proofs.beginning.add_saved.Given as goal

-- the names so far, and then those of the copies of the variables left
abbrev pub invariant-loop-variable : goal.invariant-loop-variable
invariant-loop-variable l = bytes_of_words l.names.items ++ map saved_name (map (λ n. n.now) (drop l.variable-index l.variables))
    ≡ bytes_of_words l.fn.names.items ++ map saved_name (map (λ n. n.now) l.variables)
