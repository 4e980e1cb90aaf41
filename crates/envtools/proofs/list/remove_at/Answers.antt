use Rattle.std.proofs.Common.{◌∙◌, map, List, ap, sym, subst, arith}
use Rattle.std.proofs.lemmas.List.{length-map}
use Rattle.indexmap.proofs.SetLemmas.{map-remove}
use Rattle.envimage.specs.Data.{Pair}
use Rattle.envimage.specs.Entries.{pair_at}
use Rattle.envtools.specs.Listed.{IsPlaceOf}
use Rattle.envtools.proofs.ListLemmas.{removed-place, there, none-dropped}
use Rattle.envtools.proofs.list.remove_at.Goals as goal

pub returns-then-at-len : goal.returns-then-at-len
returns-then-at-len c = λ name place.
    let ps : List Pair = map pair_at c.args.pairs.now.items in
    ap (map pair_at) c.remove.ensures.items
    ∙ (map-remove pair_at c.args.pairs.now.items c.in-Some.at
    ∙ removed-place ps name c.in-Some.at c.requires (subst (IsPlaceOf ps name) c.in-Some.is place))

pub returns-else-at-len : goal.returns-else-at-len
returns-else-at-len c = λ name place.
    let ps : List Pair = map pair_at c.args.pairs.now.items in
    let within = there ps name c.in-Some.at (subst (IsPlaceOf ps name) c.in-Some.is place) in
    absurd (omega (arith, within, length-map c.args.pairs.now.items pair_at, c.if-at-len.false))

pub returns-in_default : goal.returns-in_default
returns-in_default c = λ name place.
    let ps : List Pair = map pair_at c.args.pairs.now.items in
    sym (none-dropped name ps (subst (IsPlaceOf ps name) c.in_default.is place))
