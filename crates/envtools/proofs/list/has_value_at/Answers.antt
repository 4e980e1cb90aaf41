use Rattle.std.proofs.Common.{◌≡◌, ◌∙◌, map, arith, List, Some, sym, subst}
use Rattle.std.specs.Prelude.{slice_get}
use Rattle.std.proofs.lemmas.List.{length-map}
use Rattle.envimage.specs.Data.{Pair}
use Rattle.envimage.specs.Entries.{pair_at}
use Rattle.envtools.specs.Listed.{IsPlaceOf}
use Rattle.envtools.proofs.ListLemmas.{valueless-place, valued-place, get-mapped, there}
use Rattle.envtools.proofs.list.has_value_at.Goals as goal

pub returns-in_default : goal.returns-in_default
returns-in_default c = λ name place.
    let ps : List Pair = map pair_at c.args.pairs.now in
    sym (valueless-place ps name c.args.value.now (subst (IsPlaceOf ps name) c.in_default.is place))

pub returns-in-Some-get : goal.returns-in-Some-get
returns-in-Some-get c = λ name place.
    let ps : List Pair = map pair_at c.args.pairs.now in
    let pair = c.in-Some-get.pair.now in
    let there : slice_get ps c.in-Some.at ≡ Some (pair_at pair) = get-mapped c.args.pairs.now c.in-Some.at pair pair c.in-Some-get.ensures.lookup.3.0 c.in-Some-get.ensures.lookup.1 in
    c.eq.ensures ∙ sym (valued-place ps name c.args.value.now c.in-Some.at (pair_at pair) c.requires (subst (IsPlaceOf ps name) c.in-Some.is place) there)

pub returns-in-None : goal.returns-in-None
returns-in-None c = λ name place.
    let ps : List Pair = map pair_at c.args.pairs.now in
    let within = there ps name c.in-Some.at (subst (IsPlaceOf ps name) c.in-Some.is place) in
    absurd (omega (arith, within, length-map c.args.pairs.now pair_at, c.in-None.ensures.lookup.3))
