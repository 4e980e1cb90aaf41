use Rattle.std.proofs.Common.{◌≡◌, ◌∙◌, ap, refl, inl, subst, sym, map, List, ℕ}
use Rattle.std.specs.Borrow.{Bor}
use Rattle.rehearse_runs.specs.AskShown.{asking_by}
use Rattle.rehearse_runs.specs.RehearsedEnvironment as below
use Rattle.rehearse_terms.specs.Asking.{Asking}
use Rattle.text.specs.TextsShown.{bytes_of_words, option_items}
use Rattle.ubtool.specs.Beginning.{beginning_shown}
use Rattle.ubtool.specs.Headline.{asked_of}
use Rattle.ubtool.specs.Refusing.{Refuses}
use Rattle.ubtool.specs.declared.rehearsal_error.RehearsalError.{RehearsalError}
use Rattle.ubtool.proofs.BeginningLemmas.{has-image}
use Rattle.ubtool.proofs.ImageRehearsalLemmas.{rehearses-image, refused-image}
use Rattle.ubtool.proofs.image_rehearsal.rehearse_told.Goals as goal

pub returns-in_default-clause-err : goal.returns-in_default-clause-err
returns-in_default-clause-err g c given starts = inl (has-image given (beginning_shown c.args.beginning.now) starts.0, refl)

pub returns-in-Ok-rehearse_begun-clause-ok : goal.returns-in-Ok-rehearse_begun-clause-ok
returns-in-Ok-rehearse_begun-clause-ok g c given starts =
    let b = c.args.beginning.now in
    let shown = beginning_shown b in
    let out = g.O.Out.sink c.args.out.now in
    let out' = g.O.Out.sink c.rehearse_begun.new.out in
    let ask = c.args.ask.now in
    let names : map (λ (n : Bor (List ℕ)). n.now) c.deref-2.result.now ≡ shown.names =
    ap (map (λ (n : Bor (List ℕ)). n.now)) c.deref-2.ensures.value ∙ c.in-Ok.ensures ∙ ap bytes_of_words c.deref.ensures.value in
    let asked : asked_of shown given.asking ≡ asking_by ask.name.now ask.wanted (map (λ (n : Bor (List ℕ)). n.now) c.deref-2.result.now) =
    ap (asked_of shown) starts.1 ∙ ap (asking_by ask.name.now ask.wanted) (sym names) in
    rehearses-image given shown (option_items b.text) out out' starts.0 refl c.in-Ok-rehearse_begun.finish
    (subst (λ (a : Asking). below.Rehearses (below.task_asked b.env b.devices (option_items b.text) a) a out out' c.in-Ok-rehearse_begun.finish) (sym asked) c.in-Ok-rehearse_begun.ensures.ok)

pub returns-clause-err : goal.returns-clause-err
returns-clause-err g c given starts =
    let b = c.args.beginning.now in
    let shown = beginning_shown b in
    let out = g.O.Out.sink c.args.out.now in
    let out' = g.O.Out.sink c.rehearse_begun.new.out in
    let ask = c.args.ask.now in
    let names : map (λ (n : Bor (List ℕ)). n.now) c.deref-2.result.now ≡ shown.names =
    ap (map (λ (n : Bor (List ℕ)). n.now)) c.deref-2.ensures.value ∙ c.in-Ok.ensures ∙ ap bytes_of_words c.deref.ensures.value in
    let asked : asked_of shown given.asking ≡ asking_by ask.name.now ask.wanted (map (λ (n : Bor (List ℕ)). n.now) c.deref-2.result.now) =
    ap (asked_of shown) starts.1 ∙ ap (asking_by ask.name.now ask.wanted) (sym names) in
    let P : RehearsalError → Type 0 = λ e. Refuses given out out' e in
    subst P (sym c.into.ensures)
    (refused-image given shown (option_items b.text) out out' starts.0 refl c.in-Err.error
    (subst (λ (a : Asking). below.Refuses (below.task_asked b.env b.devices (option_items b.text) a) a out out' c.in-Err.error) (sym asked) c.in-Err.ensures.err))
