use Rattle.std.proofs.Common.{◌≡◌, ◌++◌, drop, map}
use Rattle.text.specs.TextsShown.{bytes_of_words}
use Rattle.rehearse_boots.specs.Boots.{kept_after}
use Rattle.rehearse_states.specs.RowsShown.{value_shown}
use Rattle.rehearse_boots.proofs.kept.add_kept.Given as goal

-- the values so far, and after them those of what is left, are all values
abbrev pub invariant-loop-value : goal.invariant-loop-value
invariant-loop-value l =
    bytes_of_words l.after.items ++ kept_after (bytes_of_words (drop l.value-index l.before)) (map value_shown l.left)
    ≡ bytes_of_words l.initial.after.items ++ kept_after (bytes_of_words l.before) (map value_shown l.copies)
