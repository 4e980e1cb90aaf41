use Rattle.std.proofs.Common.{◌≡◌, ◌∷◌, drop}
use Rattle.text.specs.TextsShown.{bytes_of_words}
use Rattle.rehearse_terms.specs.State.{answer_in}
use Rattle.rehearse_machine.proofs.told.answer_in.Given as goal

-- the entries so far do not have the answer
abbrev pub invariant-loop-entry : goal.invariant-loop-entry
invariant-loop-entry l = answer_in (drop l.entry-index l.log) (l.name ∷ bytes_of_words l.words) ≡ answer_in l.log (l.name ∷ bytes_of_words l.words)
