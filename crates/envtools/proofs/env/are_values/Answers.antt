use Rattle.std.proofs.Common.{sym, ◌∙◌, List, ℕ, []}
use Rattle.std.specs.Borrow.{Bor}
use Rattle.envtools.proofs.WordsLemmas.{are_values-not}
use Rattle.envtools.proofs.env.are_values.Goals as goal

pub returns-then-not-is_value : goal.returns-then-not-is_value
returns-then-not-is_value c =
    let none : Bor (List ℕ) = record { ref_ptr = (0, 0); now = [] } in
    sym (are_values-not (λ w. w.now) c.args.words.now c.loop-word.word-index none c.loop-word-test.true (sym c.is_value.ensures ∙ c.if-not-is_value.true))
