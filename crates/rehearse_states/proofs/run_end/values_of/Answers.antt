use Rattle.std.proofs.Common.{◌∙◌, ap, sym, map, take, List, Option, ◌++◌, ◌∷◌, []}
use Rattle.std.proofs.lemmas.List.{map_more, map-append}
use Rattle.std.specs.FinMap.{entries, get-entries}
use Rattle.rehearse_terms.specs.State.{Text, Variables, get}
use Rattle.rehearse_states.specs.Endings.{values_in}
use Rattle.rehearse_states.specs.RowsShown.{value_shown}
use Rattle.rehearse_states.proofs.run_end.values_of.Goals as goal

pub loop-name-preserved : goal.loop-name-preserved
loop-name-preserved g c =
    let environment : Variables = entries (g.S.Store.record_of c.args.store.now).present.environment in
    let i = c.loop-name.name-index in
    let before : List Text = map (λ n. n.now) (take i c.args.names.now) in
    let more = map_more (λ n. n.now) c.args.names.now i _ c.loop-name-test.true in
    ap (map value_shown) c.in_ok-push.ensures.items
    ∙ map-append value_shown c.loop-name.values.items (c.in_ok-value.value ∷ [])
    ∙ ap (λ (x : List (Option Text)). x ++ value_shown c.in_ok-value.value ∷ []) c.loop-name.invariant
    ∙ ap (λ (x : Option Text). values_in environment before ++ x ∷ []) (c.in_ok-value.ensures ∙ get-entries _ _)
    ∙ sym (ap (values_in environment) more ∙ map-append (get environment) before (_ ∷ []))
