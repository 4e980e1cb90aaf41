use Rattle.std.proofs.Common.{◌≡◌, ◌≤◌, ◌-◌, ◌&&◌, true, Bool, ◌∷◌, List, ℕ, Vec, length, take, drop, sym, ap, ◌∙◌, arith}
use Rattle.std.specs.Str.{bytes_eq}
use Rattle.std.specs.declared.alloc.Global.{Global}
use Rattle.text.specs.TextsShown.{bytes_of_words}
use Rattle.rehearse_terms.specs.State.{same_words}
use Rattle.rehearse_machine.proofs.CommandMoves.{first_and_rest}
use Rattle.rehearse_machine.proofs.ToldLemmas.{words_compared}
use Rattle.rehearse_machine.proofs.told.is_call.Goals as goal

pub returns-then-eq : goal.returns-then-eq
returns-then-eq c =
    let call = c.args.call.now in
    let name = c.args.name.now in
    let words = bytes_of_words c.args.words.now in
    let some : 1 ≤ length call = omega (arith, c.in-len1-up.len_at_least) in
    let rest : List (Vec ℕ Global) = take (length call - 1) (drop 1 call) in
    let all = first_and_rest call c.first-item.result some c.first-item.is in
    let named : bytes_eq name c.first-item.result.items ≡ true = ap (bytes_eq name) (sym c.as_slice.ensures.value) ∙ sym c.eq.ensures ∙ c.if-eq.true in
    c.eq-then-eq.ensures
    ∙ words_compared c.args.words.now rest
    ∙ ap (λ (b : Bool). b && same_words words (bytes_of_words rest)) (sym named)
    ∙ ap (λ (ws : List (Vec ℕ Global)). same_words (name ∷ words) (bytes_of_words ws)) (sym all)
