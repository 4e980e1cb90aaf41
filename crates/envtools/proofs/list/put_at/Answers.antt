use Rattle.std.proofs.Common.{◌∙◌, ◌∷◌, [], map, List, ap, subst}
use Rattle.std.proofs.lemmas.List.{map-append}
use Rattle.std.specs.List.{remove}
use Rattle.indexmap.proofs.SetLemmas.{map-remove}
use Rattle.envimage.specs.Data.{Pair}
use Rattle.envimage.specs.Entries.{pair_at}
use Rattle.envtools.specs.Listed.{IsPlaceOf}
use Rattle.envtools.proofs.ListLemmas.{put-place, put-absent}
use Rattle.envtools.proofs.list.put_at.Goals as goal

pub returns-in-Some-clause-ok : goal.returns-in-Some-clause-ok
returns-in-Some-clause-ok c =
    let ps : List Pair = map pair_at c.args.pairs.now.items in
    let name = c.args.name.now in
    ap (map pair_at) c.remove.ensures.items
    ∙ (map-remove pair_at c.push.new.self.items c.in-Some.at
    ∙ (ap (λ xs. remove (map pair_at xs) c.in-Some.at) c.in_ok-push.ensures.items
    ∙ (ap (λ xs. remove xs c.in-Some.at) (map-append pair_at c.args.pairs.now.items ((c.args.name, c.args.value) ∷ []))
    ∙ put-place ps name c.args.value.now c.in-Some.at c.requires.distinct (subst (IsPlaceOf ps name) c.in-Some.is c.requires.place))))

pub returns-in_default-clause-ok : goal.returns-in_default-clause-ok
returns-in_default-clause-ok c =
    let ps : List Pair = map pair_at c.args.pairs.now.items in
    let name = c.args.name.now in
    ap (map pair_at) c.in_ok-push.ensures.items
    ∙ (map-append pair_at c.args.pairs.now.items ((c.args.name, c.args.value) ∷ [])
    ∙ put-absent ps name c.args.value.now (subst (IsPlaceOf ps name) c.in_default.is c.requires.place))
