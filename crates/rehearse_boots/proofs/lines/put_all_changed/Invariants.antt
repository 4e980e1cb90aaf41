use Rattle.std.proofs.Common.{◌≡◌, ◌++◌, map}
use Rattle.std.specs.Iterator.Adapters.{zip_first, zip_second}
use Rattle.std.specs.Slice.Iter.{iter_rest}
use Rattle.text.specs.TextsShown.{bytes_of_words}
use Rattle.rehearse_boots.specs.BootLines.{changed_lines}
use Rattle.rehearse_boots.proofs.lines.put_all_changed.Given as goal

-- the lines so far, and after them those of what is left, are all lines
abbrev pub invariant-loop-name : goal.invariant-loop-name
invariant-loop-name l =
    l.text.items ++ changed_lines (map (λ n. n.now) (iter_rest (zip_first l.name-iterator))) (bytes_of_words (iter_rest (zip_second l.name-iterator))) (bytes_of_words l.left)
    ≡ l.initial.text.items ++ changed_lines (map (λ n. n.now) l.names) (bytes_of_words l.first) (bytes_of_words l.kept)
