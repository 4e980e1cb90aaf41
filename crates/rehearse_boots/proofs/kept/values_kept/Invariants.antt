use Rattle.std.proofs.Common.{◌≡◌, map, take}
use Rattle.text.specs.TextsShown.{bytes_of_words}
use Rattle.rehearse_boots.specs.Boots.{values_kept}
use Rattle.rehearse_boots.proofs.kept.values_kept.Given as goal

-- the values so far
abbrev pub invariant-loop-name : goal.invariant-loop-name
invariant-loop-name l = bytes_of_words l.kept.items ≡ values_kept (map (λ n. n.now) (take l.name-index l.names)) l.env
