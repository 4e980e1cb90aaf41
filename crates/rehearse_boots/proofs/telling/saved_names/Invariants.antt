use Rattle.std.proofs.Common.{◌≡◌, map, take}
use Rattle.device_list.specs.Saving.{saved_name}
use Rattle.text.specs.TextsShown.{bytes_of_words}
use Rattle.rehearse_boots.proofs.telling.saved_names.Given as goal

-- the names so far
abbrev pub invariant-loop-name : goal.invariant-loop-name
invariant-loop-name l = bytes_of_words l.copies.items ≡ map saved_name (map (λ n. n.now) (take l.name-index l.names))
