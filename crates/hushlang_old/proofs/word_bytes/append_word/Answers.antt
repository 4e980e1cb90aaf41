use Rattle.std.proofs.Common.{◌≡◌, ◌∙◌, sym, ap, ℕ, List, [], ◌∷◌, ◌++◌, if◌then◌else◌, append_assoc}
use Rattle.std.specs.List.{list_any}
use Rattle.hushlang.specs.TreesShown as view
use Rattle.hushlang_old.specs.OldFields.{has_quotes, inserted, word_text}
use Rattle.hushlang_uboot.specs.Pieces.{is_mark}
use Rattle.hushlang_uboot.proofs.WordLemmas.{any_of_map}
use Rattle.hushlang_old.proofs.word_bytes.append_word.Goals as goal

pub returns-then-not-have_quotes : goal.returns-then-not-have_quotes
unfolding word_text
returns-then-not-have_quotes g c =
    let bytes = inserted (g.V.Vars.parameters c.args.vars.now) (view.word c.args.word.now) in
    let text = c.args.text.now.items in
    let quotes : has_quotes (view.word c.args.word.now) ≡ c.have_quotes.result =
    any_of_map is_mark view.piece c.args.word.now.pieces.items
    ∙ ap (list_any (λ piece. is_mark (view.piece piece))) (sym c.deref.ensures.value) ∙ sym c.have_quotes.ensures in
    c.in_ok-extend_from_slice.ensures.items
    ∙ ap (λ all. all ++ c.deref-then-not-have_quotes.result.now) c.in_ok-push.ensures.items
    ∙ ap (λ more. (text ++ 32 ∷ []) ++ more) (c.deref-then-not-have_quotes.ensures.value ∙ c.in_ok-bytes.ensures)
    ∙ append_assoc text (32 ∷ []) bytes
    ∙ ap (λ some. text ++ 32 ∷ (if some then (39 ∷ bytes) ++ 39 ∷ [] else bytes)) (sym (quotes ∙ c.if-not-have_quotes.true))

quoted : (text bytes : List ℕ) → (((text ++ 32 ∷ []) ++ 39 ∷ []) ++ bytes) ++ 39 ∷ [] ≡ text ++ 32 ∷ ((39 ∷ bytes) ++ 39 ∷ [])
quoted text bytes = simp append_assoc

pub returns : goal.returns
unfolding word_text
returns g c =
    let bytes = inserted (g.V.Vars.parameters c.args.vars.now) (view.word c.args.word.now) in
    let text = c.args.text.now.items in
    let quotes : has_quotes (view.word c.args.word.now) ≡ c.have_quotes.result =
    any_of_map is_mark view.piece c.args.word.now.pieces.items
    ∙ ap (list_any (λ piece. is_mark (view.piece piece))) (sym c.deref.ensures.value) ∙ sym c.have_quotes.ensures in
    c.in_ok-push-3.ensures.items
    ∙ ap (λ all. all ++ 39 ∷ []) (c.in_ok-extend_from_slice-2.ensures.items
    ∙ ap (λ all. all ++ c.deref-2.result.now) (c.in_ok-push-2.ensures.items ∙ ap (λ all. all ++ 39 ∷ []) c.in_ok-push.ensures.items)
    ∙ ap (λ more. ((text ++ 32 ∷ []) ++ 39 ∷ []) ++ more) (c.deref-2.ensures.value ∙ c.in_ok-bytes.ensures))
    ∙ quoted text bytes
    ∙ ap (λ some. text ++ 32 ∷ (if some then (39 ∷ bytes) ++ 39 ∷ [] else bytes)) (sym (quotes ∙ c.if-not-have_quotes.false))
