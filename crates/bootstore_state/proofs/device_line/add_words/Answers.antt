use Rattle.std.proofs.Common.{◌++◌, ◌∙◌, ap, sym, map, append_assoc, List, ℕ}
use Rattle.std.specs.List.{flat_map}
use Rattle.std.specs.declared.alloc.Global.{Global}
use Rattle.std.specs.declared.vec.Vec.{Vec}
use Rattle.text.specs.TextsShown.{bytes_of_words, spaced}
use Rattle.text.specs.Escapes.{word_form}
use Rattle.text.proofs.SpacedWords.{joined-spaced}
use Rattle.text.specs.Words.{joined_words}
use Rattle.bootstore_state.proofs.device_line.add_words.Goals as goal

pub returns-in_ok-add_spaced-in-Some : goal.returns-in_ok-add_spaced-in-Some
returns-in_ok-add_spaced-in-Some c =
    let old = c.args.text.now.items in
    let rest = flat_map spaced c.in-Some.rest.now in
    let all = λ (ws : List (Vec ℕ Global)). joined_words (map word_form (bytes_of_words ws)) in
    let e = ap (λ (t : List ℕ). word_form t ++ rest) c.deref.ensures.value ∙ joined-spaced c.in-Some.first.now c.in-Some.rest.now ∙ ap all (sym c.in-Some.ensures.cases.0) in
    c.in_ok-add_spaced-in-Some.ensures ∙ ap (λ (t : List ℕ). t ++ rest) c.in_ok-add_word-in-Some.ensures ∙ append_assoc old (word_form c.deref.result.now) rest ∙ ap (λ (t : List ℕ). old ++ t) e
