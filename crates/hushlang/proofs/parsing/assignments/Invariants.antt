use Rattle.std.proofs.Common.{◌≡◌, length, map}
use Rattle.hushlang.specs.Grammar.{words}
use Rattle.hushlang.specs.Parsing.{all_values, values_by, assignments}
use Rattle.hushlang.specs.TreesShown as view
use Rattle.hushlang.proofs.WordLists.{ahead}
use Rattle.hushlang.proofs.parsing.assignments.Given as goal

abbrev pub invariant-words : goal.invariant-words
invariant-words l = all_values l.fn.tokens ≡ values_by (ahead (map view.value l.all.items) (assignments (words l.tokens.tokens))) l.tokens

abbrev pub decreases-words : goal.decreases-words
decreases-words l = length l.tokens.tokens
