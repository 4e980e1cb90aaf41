use Rattle.std.proofs.Common.{◌≡◌, ◌∙◌, ap, refl, subst, sym, map, List, ℕ}
use Rattle.std.specs.Borrow.{Bor}
use Rattle.rehearse_endings.specs.declared.telling.EndingsAsk.{EndingsAsk}
use Rattle.text.specs.TextsShown.{bytes_of_words, option_items}
use Rattle.ubtool.specs.Beginning.{beginning_shown}
use Rattle.ubtool.specs.EndingsOfImages.{RefusesOne, runs_by}
use Rattle.ubtool.specs.Given.{all_runs}
use Rattle.ubtool.specs.Headline.{asked_of}
use Rattle.ubtool.specs.declared.rehearsal_error.RehearsalError.{RehearsalError}
use Rattle.ubtool.proofs.BeginningLemmas.{has-image}
use Rattle.ubtool.proofs.ImageEndingsLemmas.{tells-image, refused-endings}
use Rattle.ubtool.proofs.image_endings.endings_told.Goals as goal

pub returns-in_default-clause-err : goal.returns-in_default-clause-err
returns-in_default-clause-err g c given starts = (has-image given (beginning_shown c.args.beginning.now) starts.0, refl)

pub returns-in-Ok-endings_begun-clause-ok : goal.returns-in-Ok-endings_begun-clause-ok
returns-in-Ok-endings_begun-clause-ok g c given starts =
    let shown = beginning_shown c.args.beginning.now in
    let ask : EndingsAsk = record c.args.ask.now { names = c.deref-2.result } in
    let names : map (λ (n : Bor (List ℕ)). n.now) c.deref-2.result.now ≡ shown.names =
    ap (map (λ (n : Bor (List ℕ)). n.now)) c.deref-2.ensures.value ∙ c.in-Ok.ensures ∙ ap bytes_of_words c.deref.ensures.value in
    let asked : asked_of shown given.asking ≡ runs_by ask = ap (asked_of shown) starts.1 ∙ ap (all_runs ask.name.now ask.bounds) (sym names) in
    tells-image given ask shown (option_items c.args.beginning.now.text) (g.O.Out.sink c.args.out.now) (g.O.Out.sink c.endings_begun.new.out) starts.0 asked refl c.in-Ok-endings_begun.ensures.ok

pub returns-clause-err : goal.returns-clause-err
returns-clause-err g c given starts =
    let out = g.O.Out.sink c.args.out.now in
    let out' = g.O.Out.sink c.endings_begun.new.out in
    let shown = beginning_shown c.args.beginning.now in
    let ask : EndingsAsk = record c.args.ask.now { names = c.deref-2.result } in
    let names : map (λ (n : Bor (List ℕ)). n.now) c.deref-2.result.now ≡ shown.names =
    ap (map (λ (n : Bor (List ℕ)). n.now)) c.deref-2.ensures.value ∙ c.in-Ok.ensures ∙ ap bytes_of_words c.deref.ensures.value in
    let asked : asked_of shown given.asking ≡ runs_by ask = ap (asked_of shown) starts.1 ∙ ap (all_runs ask.name.now ask.bounds) (sym names) in
    let P : RehearsalError → Type 0 = λ e. RefusesOne given ask.flow ask.states ask.work ask.memory out out' e in
    subst P (sym c.into.ensures)
    (refused-endings given ask shown (option_items c.args.beginning.now.text) out out' starts.0 asked refl c.in-Err.error c.in-Err.ensures.err)
