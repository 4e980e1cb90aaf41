use Rattle.std.proofs.Common.{◌∙◌, List, [], ℕ, refl, subst, sym}
use Rattle.std.proofs.lemmas.Bool.{false≢true}
use Rattle.std.specs.List.Sorted.{IsPermutation}
use Rattle.envimage.specs.Data.{pairs_of}
use Rattle.envtools.specs.Listed.{Rise}
use Rattle.envtools.proofs.DistinctLemmas.{rising-distinct}
use Rattle.envtools.proofs.ListLemmas.{ascend-distinct}
use Rattle.envtools.proofs.distinct.are_distinct.Goals as goal

pub returns-then-is_ascending : goal.returns-then-is_ascending
returns-then-is_ascending c = record {
  distinct = λ is. ascend-distinct [] (pairs_of c.args.body.now) (c.is_ascending.ensures.0 c.if-is_ascending.true);
  ascending = λ ascend. refl;
}

pub returns : goal.returns
returns c =
    let numbers : List ℕ = c.sort_unstable.new.self.items in
    let moved : IsPermutation c.in_ok-numbers.numbers.items numbers = c.sort_unstable.ensures.permutation in
    record {
      distinct = λ is.
          rising-distinct (pairs_of c.args.body.now) numbers (subst (λ (ns : List ℕ). IsPermutation ns numbers) c.in_ok-numbers.ensures moved)
          (subst Rise c.deref.ensures.value (c.rise.ensures.0 is));
      ascending = λ ascend. absurd (false≢true (sym c.if-is_ascending.false ∙ c.is_ascending.ensures.1 ascend));
    }
