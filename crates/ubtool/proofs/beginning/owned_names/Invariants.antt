use Rattle.std.proofs.Common.{◌≡◌, map, take}
use Rattle.text.specs.TextsShown.{bytes_of_words}
use Rattle.ubtool.proofs.beginning.owned_names.Given as goal

-- the names so far are copied
abbrev pub invariant-loop-name : goal.invariant-loop-name
invariant-loop-name l = bytes_of_words l.owned.items ≡ map (λ n. n.now) (take l.name-index l.names)
