use Rattle.std.proofs.Common.{◌≡◌, ◌++◌, map, take}
use Rattle.text.specs.TextsShown.{bytes_of_words}
use Rattle.rehearse_boots.proofs.telling.with_copies.Given as goal

-- the names, and those of the copies so far
abbrev pub invariant-loop-copy : goal.invariant-loop-copy
invariant-loop-copy l = map (λ n. n.now) l.all.items ≡ map (λ n. n.now) l.names ++ bytes_of_words (take l.copy-index l.copies)
