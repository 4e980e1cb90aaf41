use Rattle.std.proofs.Common.{◌≡◌, ◌∙◌, sym, ap, subst, map, IfOk}
use Rattle.std.specs.List.{list_all}
use Rattle.hushlang.specs.KnownFields.{is_constant}
use Rattle.hushlang.specs.TreesShown as view
use Rattle.hushlang_uboot.proofs.WordLemmas.{all_of_pieces}
use Rattle.hushlang_modern.proofs.FieldLemmas.{constant_word, variable_word}
use Rattle.hushlang_modern.proofs.expanding_words.word_fields.Goals as goal

pub returns-then-not-are_constant_pieces : goal.returns-then-not-are_constant_pieces
returns-then-not-are_constant_pieces g c =
    let constant = all_of_pieces c.args.word.now.pieces.items
    ∙ ap (list_all (λ piece. is_constant (view.piece piece))) (sym c.deref.ensures.value)
    ∙ sym c.are_constant_pieces.ensures ∙ c.if-not-are_constant_pieces.true in
    subst (λ all. IfOk c.expanded.result (λ found. map (λ field. field.items) found.items ≡ all))
    (sym (variable_word (g.V.Vars.parameters c.args.vars.now) (view.word c.args.word.now) constant)) c.expanded.ensures

pub returns : goal.returns
returns g c =
    let constant = all_of_pieces c.args.word.now.pieces.items
    ∙ ap (list_all (λ piece. is_constant (view.piece piece))) (sym c.deref.ensures.value)
    ∙ sym c.are_constant_pieces.ensures ∙ c.if-not-are_constant_pieces.false in
    subst (λ all. IfOk c.constant_field.result (λ found. map (λ field. field.items) found.items ≡ all))
    (sym (constant_word (g.V.Vars.parameters c.args.vars.now) (view.word c.args.word.now) constant)) c.constant_field.ensures
