use Rattle.std.proofs.Common.{◌≡◌, drop}
use Rattle.text.specs.TextsShown.{bytes_of_words}
use Rattle.rehearse_terms.specs.State.{answer_in}
use Rattle.rehearse_reports.proofs.known.answer_to.Given as goal

-- the entries so far do not have the answer
abbrev pub invariant-loop-entry : goal.invariant-loop-entry
invariant-loop-entry l = answer_in (drop l.entry-index l.log) (bytes_of_words l.call) ≡ answer_in l.log (bytes_of_words l.call)
