use Rattle.std.proofs.Common.{◌≡◌, ◌∙◌, sym, ap, [], ◌∷◌, ◌++◌, map, arith, append-nil}
use Rattle.std.proofs.lemmas.List.{map_push}
use Rattle.std.specs.List.{list_any}
use Rattle.std.proofs.Math.ListN.{drop_of_length-le}
use Rattle.hushlang.specs.Expansion.{fields_of_word, fields, joined}
use Rattle.hushlang.specs.TreesShown as view
use Rattle.hushlang.proofs.ExpandLemmas.{drop_next}
use Rattle.hushlang_uboot.specs.Pieces.{is_something}
use Rattle.hushlang_uboot.proofs.WordLemmas.{flat_next, flat_done, one_field, constant_first, any_of_map, whole_field}
use Rattle.hushlang_old.proofs.constant.constant_fields.Goals.{then-has_something+in_ok-joined+in_ok-push, else-has_something}
use Rattle.hushlang_old.specs.Defaults.{looked_up}
use Rattle.hushlang_old.proofs.OldFieldLemmas.{constant_joined}
use Rattle.hushlang_old.proofs.constant.constant_fields.Goals as goal

pub loop-word-preserved : goal.loop-word-preserved
loop-word-preserved g c =
    let parameters = g.V.Vars.parameters c.args.vars.now in
    let word = view.word c.word-item.result in
    let before = map (λ field. field.items) c.loop-word.fields.items in
    let first = ap (map view.word) (drop_next c.args.words.now c.loop-word.word-index c.word-item.result (omega arith) c.word-item.is) in
    let parts = constant_first word _ _ first c.loop-word.invariant.constant in
    let some : c.has_something.result ≡ list_any is_something word =
    c.has_something.ensures ∙ ap (list_any (λ piece. is_something (view.piece piece))) c.deref.ensures.value
    ∙ sym (any_of_map is_something view.piece c.word-item.result.pieces.items) in
    let bytes = joined (looked_up parameters) word in
    let added : map (λ field. field.items) c.if-has_something.fields.items ≡ before ++ whole_field (list_any is_something word) bytes = elim c.if-has_something.branch [
      | then-has_something+in_ok-joined+in_ok-push w ↦
          ap (λ fields. map (λ field. field.items) fields.items) w.fields-is
          ∙ ap (map (λ field. field.items)) w.in_ok-push.ensures.items
          ∙ map_push (λ field. field.items) c.loop-word.fields.items w.in_ok-joined.field-0
          ∙ ap (λ field. before ++ field ∷ []) w.in_ok-joined.ensures
          ∙ ap (λ found. before ++ whole_field found bytes) (sym (sym some ∙ w.if-has_something.true))
      | else-has_something w ↦
          ap (λ fields. map (λ field. field.items) fields.items) w.fields-is
          ∙ sym (append-nil before)
          ∙ ap (λ found. before ++ whole_field found bytes) (sym (sym some ∙ w.if-has_something.false))
    ] in
    record {
      same = flat_next (fields_of_word parameters) _ _ _ word _ _ first c.loop-word.invariant.same (added ∙ ap (λ more. before ++ more) (ap (whole_field (list_any is_something word)) (constant_joined (looked_up parameters) parameters word parts.0) ∙ sym (one_field parameters word parts.0)));
      constant = parts.1;
    }

pub returns : goal.returns
unfolding fields
returns g c =
    let parameters = g.V.Vars.parameters c.args.vars.now in
    let done = ap (map view.word) (drop_of_length-le c.args.words.now {i = c.loop-word.word-index} (omega arith)) in
    flat_done (fields_of_word parameters) _ _ _ done c.loop-word.invariant.same
