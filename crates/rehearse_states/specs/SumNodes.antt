-- What the rows of a state are made of: nodes, each of which comes after those it is made of. Places count from 0. Ours.
use Rattle.std.specs.Prelude.{◌≡◌, ℕ, ◌<◌, List, [], ◌∷◌, ◌++◌, map, Bool, Option, Some, Vec}
use Rattle.std.specs.List.{slice_get}
use Rattle.std.specs.declared.alloc.Global.{Global}
use Rattle.rehearse_states.specs.Endings.{RunEnd, Row, one_run}
use Rattle.rehearse_states.specs.Summaries.{Summary}
use Rattle.rehearse_states.specs.RowsShown.{run_end_shown, of_both_up, summary_with}
use Rattle.rehearse_states.specs.declared.sum_nodes.SumNode as rt
use Rattle.rehearse_states.specs.declared.sum_nodes.SumNode.TheVariants as made
use Rattle.rehearse_states.specs.declared.summary.Summary as kept

-- a run is over; or a device command asks, where a failure is expected or else a success, and each outcome leads to a node
pub data SumNode : Type 0 where
  Over : RunEnd → SumNode
  Both : (expected : Option Bool) → (won lost : ℕ) → SumNode

-- the node at a place draws these rows: one run that is over, or the rows of both sides
pub data DrawsRows (sums : List SumNode) : ℕ → List Row → Type 0 where
  over : {place : ℕ} {run_end : RunEnd} → slice_get sums place ≡ Some (Over run_end) → DrawsRows sums place (one_run (run_end, ([], 0)) ∷ [])
  both : {place won lost : ℕ} {expected : Option Bool} {won_rows lost_rows : List Row} → slice_get sums place ≡ Some (Both expected won lost) → won < place → lost < place →
      DrawsRows sums won won_rows → DrawsRows sums lost lost_rows → DrawsRows sums place (of_both_up expected won_rows lost_rows)

-- the old nodes, and more nodes after them
abbrev pub HasMoreSums : (old new : List SumNode) → Type 0
HasMoreSums old new = (more : List SumNode) × (new ≡ old ++ more)

abbrev pub sum_shown : rt.SumNode → SumNode
sum_shown (made.Over run_end) = Over (run_end_shown run_end.value)
sum_shown (made.Both expected won lost) = Both expected won lost

abbrev pub sums_shown : Vec rt.SumNode Global → List SumNode
sums_shown sums = map sum_shown sums.items

-- the summary, with the rows that its node draws
abbrev pub IsSummary : List SumNode → kept.Summary → Summary → Type 0
IsSummary sums s shown = DrawsRows sums s.sum shown.rows × (summary_with shown.rows s ≡ shown)
