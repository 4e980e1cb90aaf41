use Rattle.std.proofs.Common.{◌≡◌, ◌∙◌, sym, ap, subst, map, arith, IfOk}
use Rattle.std.proofs.Math.ListN.{drop_of_length-le}
use Rattle.hushlang.specs.TreesShown as view
use Rattle.hushlang_modern.specs.ModernFields.{with_pieces, all_fields, expanded}
use Rattle.hushlang_modern.specs.ModernFieldsShown as shown
use Rattle.hushlang_modern.specs.ModernWords.{without_guards}
use Rattle.hushlang_modern.proofs.expanding_words.expanded.Goals as goal

pub returns : goal.returns
unfolding expanded
returns g c =
    let parameters = g.V.Vars.parameters c.args.vars.now in
    let done = ap (map view.piece) (drop_of_length-le c.args.word.now.pieces.items {i = c.loop-piece.piece-index} (omega arith)) in
    let all = sym (ap (λ these. with_pieces parameters these (shown.expanding c.loop-piece.expanding)) done) ∙ c.loop-piece.invariant in
    subst (λ fields. IfOk c.without_all_guards.result (λ found. map (λ field. field.items) found.items ≡ fields))
    (ap (map without_guards) (c.in_ok-end_word.ensures ∙ ap all_fields all)) c.without_all_guards.ensures
