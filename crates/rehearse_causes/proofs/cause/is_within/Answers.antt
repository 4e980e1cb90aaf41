use Rattle.std.proofs.Common.{◌≡◌, ◌∙◌, ap, List, ℕ, map, nat_le}
use Rattle.text.specs.TextsShown.{bytes_of_words}
use Rattle.rehearse_terms.specs.State.{LoggedCommand, Text}
use Rattle.rehearse_causes.specs.Causes.{times}
use Rattle.rehearse_causes.proofs.CoveringLemmas.{counted_entries}
use Rattle.rehearse_causes.proofs.cause.is_within.Goals as goal

pub returns : goal.returns
returns c =
    let words = c.args.entry.now.words in
    let fewer = map (λ e. e.words) c.args.fewer.now in
    let more = map (λ e. e.words) c.args.more.now in
    let shown : bytes_of_words c.entry.inside.words.items ≡ words = ap (λ (e : LoggedCommand). e.words) c.entry.view_is in
    let here : c.times.result ≡ times words fewer = c.times.ensures ∙ counted_entries (bytes_of_words c.deref.result.now) c.args.fewer.now ∙ ap (λ (ws : List Text). times ws fewer) (ap bytes_of_words c.deref.ensures.value ∙ shown) in
    let there : c.times-2.result ≡ times words more = c.times-2.ensures ∙ counted_entries (bytes_of_words c.deref-2.result.now) c.args.more.now ∙ ap (λ (ws : List Text). times ws more) (ap bytes_of_words c.deref-2.ensures.value ∙ shown) in
    ap (λ (n : ℕ). nat_le n c.times-2.result) here ∙ ap (λ (n : ℕ). nat_le (times words fewer) n) there
