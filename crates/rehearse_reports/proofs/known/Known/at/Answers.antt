use Rattle.std.proofs.Common.{◌∙◌, sym, ap, List, Vec, Global, ℕ}
use Rattle.text.specs.TextsShown.{bytes_of_words}
use Rattle.rehearse_terms.specs.State.{LoggedCommand}
use Rattle.rehearse_rules.specs.Needs.{has_succeeded}
use Rattle.rehearse_reports.proofs.known.Known.at.Goals as goal

pub returns-in-Succeeded-clause-holds : goal.returns-in-Succeeded-clause-holds
returns-in-Succeeded-clause-holds g c =
    ap (λ (log : List LoggedCommand). has_succeeded log (bytes_of_words c.in-Succeeded.start.items)) (sym c.log-in-Succeeded.ensures)
    ∙ ap (λ (start : List (Vec ℕ Global)). has_succeeded c.log-in-Succeeded.result.now (bytes_of_words start)) (sym c.deref-in-Succeeded.ensures.value)
    ∙ sym c.has_succeeded-has.ensures
