use Rattle.std.proofs.Common.{◌≡◌, map, take}
use Rattle.text.specs.TextsShown.{bytes_of_words}
use Rattle.ubtool.proofs.beginning.slices_of.Given as goal

-- the bytes of the names so far
abbrev pub invariant-loop-name : goal.invariant-loop-name
invariant-loop-name l = map (λ s. s.now) l.slices.items ≡ bytes_of_words (take l.name-index l.names)
