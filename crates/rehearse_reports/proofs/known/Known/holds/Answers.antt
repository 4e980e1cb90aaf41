use Rattle.std.proofs.Common.{sym, ap, subst, ◌∙◌, List, Vec, Global, ℕ}
use Rattle.std.specs.FinMap.{get}
use Rattle.text.specs.TextsShown.{bytes_of_words}
use Rattle.rehearse_terms.specs.State.{LoggedCommand}
use Rattle.rehearse_rules.specs.Needs.{has_succeeded}
use Rattle.rehearse_reports.specs.Known.{Holds}
use Rattle.rehearse_reports.proofs.KnownLemmas.{answer_told, same_answer}
use Rattle.rehearse_reports.proofs.known.Known.holds.Goals as goal

pub returns-in-Environment-clause-same : goal.returns-in-Environment-clause-same
returns-in-Environment-clause-same g c = λ h.
    let m = (g.S.Store.record_of c.args.store.now).present in
    subst (Holds m) (sym c.in-Environment.is) (ap (get m.environment) (sym c.deref.ensures.value) ∙ sym c.get_env.ensures ∙ c.is_value.ensures.same h)

pub returns-in-Environment-clause-told : goal.returns-in-Environment-clause-told
returns-in-Environment-clause-told g c = λ h.
    let m = (g.S.Store.record_of c.args.store.now).present in
    c.is_value.ensures.told (c.get_env.ensures ∙ ap (get m.environment) c.deref.ensures.value ∙ subst (Holds m) c.in-Environment.is h)

pub returns-in-Local-clause-same : goal.returns-in-Local-clause-same
returns-in-Local-clause-same g c = λ h.
    let m = (g.S.Store.record_of c.args.store.now).present in
    subst (Holds m) (sym c.in-Local.is) (ap (get m.locals) (sym c.deref-in-Local.ensures.value) ∙ sym c.get_local.ensures ∙ c.is_value-in-Local.ensures.same h)

pub returns-in-Local-clause-told : goal.returns-in-Local-clause-told
returns-in-Local-clause-told g c = λ h.
    let m = (g.S.Store.record_of c.args.store.now).present in
    c.is_value-in-Local.ensures.told (c.get_local.ensures ∙ ap (get m.locals) c.deref-in-Local.ensures.value ∙ subst (Holds m) c.in-Local.is h)

pub returns-in-Succeeded-clause-same : goal.returns-in-Succeeded-clause-same
returns-in-Succeeded-clause-same g c = λ h.
    let m = (g.S.Store.record_of c.args.store.now).present in
    subst (Holds m) (sym c.in-Succeeded.is)
    (ap (λ (log : List LoggedCommand). has_succeeded log (bytes_of_words c.in-Succeeded.start.items)) (sym c.log-in-Succeeded.ensures)
    ∙ ap (λ (start : List (Vec ℕ Global)). has_succeeded c.log-in-Succeeded.result.now (bytes_of_words start)) (sym c.deref-in-Succeeded.ensures.value)
    ∙ sym c.has_succeeded.ensures
    ∙ same_answer c.has_succeeded.result c.in-Succeeded.has h)

pub returns-in-Succeeded-clause-told : goal.returns-in-Succeeded-clause-told
returns-in-Succeeded-clause-told g c = λ h.
    let m = (g.S.Store.record_of c.args.store.now).present in
    answer_told c.has_succeeded.result c.in-Succeeded.has
    (c.has_succeeded.ensures
    ∙ ap (λ (start : List (Vec ℕ Global)). has_succeeded c.log-in-Succeeded.result.now (bytes_of_words start)) c.deref-in-Succeeded.ensures.value
    ∙ ap (λ (log : List LoggedCommand). has_succeeded log (bytes_of_words c.in-Succeeded.start.items)) c.log-in-Succeeded.ensures
    ∙ subst (Holds m) c.in-Succeeded.is h)
