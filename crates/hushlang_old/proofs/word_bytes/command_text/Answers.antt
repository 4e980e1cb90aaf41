use Rattle.std.proofs.Common.{◌≡◌, ◌∙◌, sym, ap, [], ◌∷◌, ◌++◌, map, if◌then◌else◌, arith}
use Rattle.std.specs.List.{list_any}
use Rattle.std.proofs.Math.ListN.{drop_of_length-le}
use Rattle.hushlang.specs.TreesShown as view
use Rattle.hushlang.proofs.ExpandLemmas.{drop_next}
use Rattle.hushlang_old.specs.OldFields.{word_text, with_end, command_text}
use Rattle.hushlang_uboot.specs.ReadBytes.{is_newline}
use Rattle.hushlang_uboot.proofs.WordLemmas.{flat_next, flat_done}
use Rattle.hushlang_old.proofs.word_bytes.command_text.Goals.{then-has_newline+in_ok-push, else-has_newline}
use Rattle.hushlang_old.proofs.word_bytes.command_text.Goals as goal

pub loop-word-preserved : goal.loop-word-preserved
loop-word-preserved g c =
    let parameters = g.V.Vars.parameters c.args.vars.now in
    let first = ap (map view.word) (drop_next c.args.words.now c.loop-word.word-index c.word-item.result (omega arith) c.word-item.is) in
    flat_next (λ word. 32 ∷ word_text parameters word) _ _ _ (view.word c.word-item.result) _ _ first c.loop-word.invariant c.in_ok-append_word.ensures

pub returns : goal.returns
unfolding command_text
returns g c =
    let parameters = g.V.Vars.parameters c.args.vars.now in
    let text = c.loop-word.text.items in
    let done = ap (map view.word) (drop_of_length-le c.args.words.now {i = c.loop-word.word-index} (omega arith)) in
    let all = flat_done (λ word. 32 ∷ word_text parameters word) _ _ _ done c.loop-word.invariant in
    let some : c.has_newline.result ≡ list_any is_newline text = c.has_newline.ensures ∙ ap (list_any is_newline) c.deref.ensures.value in
    let front : c.if-has_newline.text.items ≡ (if list_any is_newline text then text ++ 10 ∷ [] else text) = elim c.if-has_newline.branch [
      | then-has_newline+in_ok-push w ↦
          ap (λ all. all.items) w.text-is ∙ w.in_ok-push.ensures.items
          ∙ ap (λ found. if found then text ++ 10 ∷ [] else text) (sym (sym some ∙ w.if-has_newline.true))
      | else-has_newline w ↦
          ap (λ all. all.items) w.text-is
          ∙ ap (λ found. if found then text ++ 10 ∷ [] else text) (sym (sym some ∙ w.if-has_newline.false))
    ] in
    c.in_ok-push-2.ensures.items ∙ ap (λ all. all ++ 10 ∷ []) front ∙ ap with_end all
