use Rattle.std.proofs.Common.{◌≡◌, ◌++◌, map}
use Rattle.std.specs.Iterator.Adapters.{zip_first, zip_second}
use Rattle.std.specs.List.{zip}
use Rattle.std.specs.Slice.Iter.{iter_rest}
use Rattle.envimage.specs.Entries.{pair_at}
use Rattle.text.specs.TextsShown.{bytes_of_words}
use Rattle.rehearse_boots.proofs.kept.add_changes.Given as goal

-- the changes so far, and after them those of what is left, are all changes
abbrev pub invariant-loop-name : goal.invariant-loop-name
invariant-loop-name l =
    map pair_at l.changes.items ++ zip (map (λ n. n.now) (iter_rest (zip_first l.name-iterator))) (bytes_of_words (iter_rest (zip_second l.name-iterator)))
    ≡ map pair_at l.initial.changes.items ++ zip (map (λ n. n.now) l.names) (bytes_of_words l.kept)
