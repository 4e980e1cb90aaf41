use Rattle.std.proofs.Common.{List, length, map}
use Rattle.rehearse_terms.specs.Outcomes.{OutcomeWord}
use Rattle.rehearse_runs.specs.ListingRuns.{Recorded}
use Rattle.rehearse_runs.proofs.listing.write_records.Given as goal

-- the records of the words so far were written
abbrev pub invariant-loop-left : goal.invariant-loop-left
invariant-loop-left g l =
    (ws : List OutcomeWord) × Recorded (g.O.Out.sink l.fn.out) (g.O.Out.sink l.out) l.fn.runs l.runs (map (λ n. n.now) l.names) l.fn.page.limit l.left ws

abbrev pub decreases-loop-left : goal.decreases-loop-left
decreases-loop-left g l = length l.runs.to_come
