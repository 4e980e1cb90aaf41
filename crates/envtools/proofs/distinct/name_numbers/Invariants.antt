use Rattle.std.proofs.Common.{◌≡◌, ◌++◌, map}
use Rattle.envimage.specs.Data.{pairs_of}
use Rattle.envimage.specs.Entries.{pairs_left}
use Rattle.envtools.specs.Listed.{name_number}
use Rattle.envtools.proofs.distinct.name_numbers.Given as goal

-- the numbers of the names that are left follow those that were listed
abbrev pub invariant-loop-name : goal.invariant-loop-name
invariant-loop-name l = l.numbers.items ++ map (λ p. name_number p.0) (pairs_left l.name-iterator) ≡ map (λ p. name_number p.0) (pairs_of l.body)
