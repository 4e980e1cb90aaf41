-- Rows, as loops make them.
use Rattle.std.proofs.Common.{ℕ, ◌≡◌}
use Rattle.rehearse_terms.specs.Outcomes.{OutcomeWord}
use Rattle.rehearse_states.specs.Endings.{RunEnd, Row, Counted}

abbrev row_with : RunEnd → ℕ → OutcomeWord → Counted → Row
row_with e n word fewest = record {
  run_end = e;
  count = n;
  word = word;
  fewest = fewest;
}

pub row_same : (e e' : RunEnd) (n : ℕ) (v v' w w' : OutcomeWord) (m : ℕ) → e ≡ e' → v ≡ v' → w ≡ w' → row_with e n v (w, m) ≡ row_with e' n v' (w', m)
row_same e e' n v v' w w' m h k l = λ i. row_with (h i) n (k i) (l i, m)
