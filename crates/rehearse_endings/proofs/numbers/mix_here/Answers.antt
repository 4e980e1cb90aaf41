use Rattle.std.proofs.Common.{◌≡◌, ◌∙◌, sym, ap, List, Vec, Global, ℕ}
use Rattle.text.specs.TextsShown.{bytes_of_words}
use Rattle.rehearse_terms.specs.State.{LoggedCommand}
use Rattle.rehearse_rules.specs.Needs.{has_succeeded}
use Rattle.rehearse_states.specs.PlaceNumbers.{mixed, mixed_words}
use Rattle.rehearse_endings.specs.Numbers.{mixed_flag, mixed_here}
use Rattle.rehearse_endings.proofs.numbers.mix_here.Goals as goal

pub returns-in-Succeeded : goal.returns-in-Succeeded
returns-in-Succeeded g c =
    let m = (g.S.Store.record_of c.args.store.now).present in
    let number = c.args.hash in
    let start = c.in-Succeeded.start.items in
    let words : c.mix_words-in-Succeeded.result ≡ mixed_words (mixed number 4) (bytes_of_words start) =
    c.mix_words-in-Succeeded.ensures
    ∙ ap (λ (n : ℕ). mixed_words n (bytes_of_words c.deref-in-Succeeded.result.now)) c.mix-in-Succeeded.ensures
    ∙ ap (λ (ws : List (Vec ℕ Global)). mixed_words (mixed number 4) (bytes_of_words ws)) c.deref-in-Succeeded.ensures.value in
    let has : c.has_succeeded.result ≡ has_succeeded m.log (bytes_of_words start) =
    c.has_succeeded.ensures
    ∙ ap (λ (ws : List (Vec ℕ Global)). has_succeeded c.log-in-Succeeded.result.now (bytes_of_words ws)) c.deref-in-Succeeded-2.ensures.value
    ∙ ap (λ (log : List LoggedCommand). has_succeeded log (bytes_of_words start)) c.log-in-Succeeded.ensures in
    c.mix_flag.ensures
    ∙ ap (λ (n : ℕ). mixed_flag n c.has_succeeded.result) words
    ∙ ap (mixed_flag (mixed_words (mixed number 4) (bytes_of_words start))) has
    ∙ sym (ap (mixed_here m number) c.in-Succeeded.is)
