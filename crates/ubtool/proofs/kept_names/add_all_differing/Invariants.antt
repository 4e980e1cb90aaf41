use Rattle.std.proofs.Common.{◌≡◌, ◌++◌, drop, filter, map}
use Rattle.text.specs.TextsShown.{bytes_of_words}
use Rattle.ubtool.specs.KeptNames.{differs}
use Rattle.ubtool.proofs.kept_names.add_all_differing.Given as goal

-- the names so far, and then those of the variables left that differ
abbrev pub invariant-loop-name : goal.invariant-loop-name
invariant-loop-name l = bytes_of_words l.names.items ++ filter (differs l.before l.after) (map (λ p. p.0.now) (drop l.name-index l.pairs))
    ≡ bytes_of_words l.fn.names.items ++ filter (differs l.before l.after) (map (λ p. p.0.now) l.pairs)
