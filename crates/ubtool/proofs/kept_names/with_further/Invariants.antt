use Rattle.std.proofs.Common.{◌≡◌, ◌++◌, drop}
use Rattle.text.specs.TextsShown.{bytes_of_words}
use Rattle.ubtool.proofs.kept_names.with_further.Given as goal

-- the names so far, and then the further ones that are left
abbrev pub invariant-loop-name : goal.invariant-loop-name
invariant-loop-name l = bytes_of_words l.names.items ++ bytes_of_words (drop l.name-index l.further) ≡ bytes_of_words l.initial.names.items ++ bytes_of_words l.further
