use Rattle.std.proofs.Common.{List, ◌∷◌, ap, sym, ◌∙◌}
use Rattle.text.specs.TextsShown.{bytes_of_words}
use Rattle.rehearse_terms.specs.State.{Text}
use Rattle.rehearse_reports.specs.ReportsShown.{accesses_shown}
use Rattle.rehearse_reports.proofs.CallLemmas.{asks_unsteady, asks_steady}
use Rattle.rehearse_reports.proofs.calls.report_told.Goals as goal

pub returns-then-not-stays : goal.returns-then-not-stays
returns-then-not-stays c request named spoken steady = asks_unsteady (accesses_shown c.args.reported.now) request c.args.stays steady c.if-not-stays.true

pub returns : goal.returns
returns c request named spoken steady =
    asks_steady (accesses_shown c.args.reported.now) (accesses_shown c.reads.new.self) request (bytes_of_words c.insert.new.self.items)
    (ap bytes_of_words c.in_ok-insert.ensures.items
    ∙ ap (λ (x : Text). x ∷ bytes_of_words c.in_ok-call.call.items) c.in_ok-from_slice.ensures.items
    ∙ ap (λ (x : List Text). c.args.name.now ∷ x) c.in_ok-call.ensures
    ∙ ap (λ (x : Text). x ∷ bytes_of_words c.args.words.now) (sym named)
    ∙ ap (λ (x : List Text). request.name ∷ x) (sym spoken))
    c.in_ok-reads.ensures.covers
