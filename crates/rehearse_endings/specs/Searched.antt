-- The result of a search from a text that has stopped. Ours.
use Rattle.std.specs.Prelude.{◌≡◌, ℕ, ◌+◌, ◌*◌, ◌≤◌, ◌<◌, List, [], length}
use Rattle.bootstore_state.specs.Record.{Record}
use Rattle.rehearse_terms.specs.Bounds.{most_steps}
use Rattle.rehearse_terms.specs.Outcomes.{OutcomeWord}
use Rattle.rehearse_terms.specs.State.{Text}
use Rattle.rehearse_rules.specs.Runs.{Task}
use Rattle.rehearse_machine.specs.declared.rehearsal.Stop.{Stop}
use Rattle.rehearse_machine.specs.StoppedTexts.{StoppedAt}
use Rattle.rehearse_reuse.specs.DrawnRuns.{Draws}
use Rattle.rehearse_states.specs.Drawing.{HasMore, nodes_shown}
use Rattle.rehearse_states.specs.Summaries.{Summary}
use Rattle.rehearse_states.specs.SumNodes.{HasMoreSums, IsSummary, sums_shown}
use Rattle.rehearse_endings.specs.Searching.{SummedFrom, seen_from, future, AreEntries, NeverReturnsTo}
use Rattle.rehearse_endings.specs.Held.{ComesToBytes, most_held}
use Rattle.rehearse_endings.specs.Indexed.{AreNoted}
use Rattle.rehearse_endings.specs.States.{Asked, ComesBy, HasEntered}
use Rattle.rehearse_frames.specs.Above.{without_lowest}
use Rattle.rehearse_reports.specs.Following.{AreEnoughAtStop, HasFramesAtStop}
use Rattle.rehearse_reports.specs.ReportsShown.{keys_shown}
use Rattle.rehearse_endings.specs.declared.entry.Future.{Future}
use Rattle.rehearse_endings.specs.declared.table.Table.{Table}

-- more steps were begun than allowed, by one stretch at most, when this many states were entered
abbrev pub IsSpent : (work count : ℕ) → Record → Table → Type 0
IsSpent work count r table = (work < r.begun) × (r.begun ≤ work + most_steps) × (count ≡ table.visited)

-- the states that were searched count more bytes than allowed, when this many were entered
abbrev pub IsFull : (names : List Text) → Task → (count bytes : ℕ) → Table → Type 0
IsFull names task count bytes table = (count ≡ table.visited) × ComesToBytes names task count bytes

-- everything after the stop is searched: the summary says what is to come, the keys are enough for it, nothing comes back to the
-- frames that do not count, and the table has what was entered
pub record IsSearched (names : List Text) (task : Task) (stop : Stop) (old new : Record) (before after : Table) (f : Future) : Type 0 where
  pub shown : Summary
  pub is : IsSummary (sums_shown after.sums) f.summary shown
  pub sums : SummedFrom names task.limits stop old.present shown
  pub draws : Draws (nodes_shown after.flow.nodes) f.summary.place (seen_from task.limits stop old.present)
  pub within : HasFramesAtStop (f.below + 1) stop old.present
  pub keys : AreEnoughAtStop task.limits names stop (without_lowest f.below old.present) (keys_shown f.keys.items)
  pub apart : NeverReturnsTo f.below (future task.limits stop (without_lowest f.below old.present))
  pub grows : HasMore (nodes_shown before.flow.nodes) (nodes_shown after.flow.nodes)
  pub more : HasMoreSums (sums_shown before.sums) (sums_shown after.sums)
  pub last : before.entries.items ≡ [] → before.flow.nodes.items ≡ [] → f.summary.place + 1 ≡ length after.flow.nodes.items
  pub marks : new.marked ≡ old.marked
  pub table : AreEntries names task.limits (nodes_shown after.flow.nodes) (sums_shown after.sums) after.entries.items
  pub begun : new.begun + 2 * before.visited * most_steps ≤ old.begun + 2 * after.visited * most_steps
  pub room : after.visited ≤ after.most
  pub most : after.most ≡ before.most
  pub held : most_held after ≡ most_held before
  pub noted : AreNoted after
  pub entered : (p : OutcomeWord) (begun : List Asked) → StoppedAt task p stop old.present → ComesBy p begun → HasEntered names task begun before → HasEntered names task begun after
