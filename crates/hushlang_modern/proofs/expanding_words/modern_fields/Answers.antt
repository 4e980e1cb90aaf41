use Rattle.std.proofs.Common.{◌∙◌, ◌++◌, ap, map, arith}
use Rattle.std.proofs.Math.ListN.{drop_of_length-le}
use Rattle.std.proofs.lemmas.List.{map-append}
use Rattle.hushlang.specs.TreesShown as view
use Rattle.hushlang.proofs.ExpandLemmas.{drop_next}
use Rattle.hushlang_uboot.proofs.WordLemmas.{flat_next, flat_done}
use Rattle.hushlang_modern.specs.ModernFields.{modern_fields_of_word, modern_fields}
use Rattle.hushlang_modern.proofs.expanding_words.modern_fields.Goals as goal

pub loop-word-preserved : goal.loop-word-preserved
loop-word-preserved g c =
    let parameters = g.V.Vars.parameters c.args.vars.now in
    let first = ap (map view.word) (drop_next c.args.words.now c.loop-word.word-index c.word-item.result (omega arith) c.word-item.is) in
    flat_next (modern_fields_of_word parameters) _ _ _ (view.word c.word-item.result) _ _ first c.loop-word.invariant
    (ap (map (λ field. field.items)) c.in_ok-append.ensures.items
    ∙ map-append (λ field. field.items) c.loop-word.fields.items c.in_ok-found.found.items
    ∙ ap (λ more. map (λ field. field.items) c.loop-word.fields.items ++ more) c.in_ok-found.ensures)

pub returns : goal.returns
unfolding modern_fields
returns g c =
    let parameters = g.V.Vars.parameters c.args.vars.now in
    let done = ap (map view.word) (drop_of_length-le c.args.words.now {i = c.loop-word.word-index} (omega arith)) in
    flat_done (modern_fields_of_word parameters) _ _ _ done c.loop-word.invariant
