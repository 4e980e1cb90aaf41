-- What is to come with frames below to which nothing comes back, and without them.
use Rattle.std.proofs.Common.{◌≡◌, sym, ap, subst, ℕ, ◌<◌, length}
use Rattle.bootstore_state.specs.Moment.{Moment}
use Rattle.rehearse_terms.specs.Outcomes.{OutcomeWord}
use Rattle.rehearse_rules.specs.Execution.{Limits}
use Rattle.rehearse_rules.specs.Expected.{asked_in}
use Rattle.rehearse_machine.specs.Came.{Came}
use Rattle.rehearse_machine.specs.Machine.{IsAsking, asked_at}
use Rattle.rehearse_frames.specs.Above.{without_lowest, NeverReturns}
use Rattle.rehearse_frames.proofs.LowestFrames.{lowest_make_no_difference}
use Rattle.rehearse_reuse.specs.DrawnRuns.{seen_behind}
use Rattle.rehearse_reuse.specs.SummedRuns.{Sums}
use Rattle.rehearse_reuse.specs.Reuse.{SummariesHoldBelow, SummariesHoldAbove, NodesHoldBelow}

-- the same is to come, whatever the outcomes
same_futures : (limits : Limits) (below : ℕ) (m : Moment) → IsAsking limits m → below < length m.frames → NeverReturns (asked_at limits (without_lowest below m)) → asked_at limits m ≡ asked_at limits (without_lowest below m)
same_futures limits below m asks within never = λ i. λ w. lowest_make_no_difference limits below m asks within never w i

pub summaries_hold_below : SummariesHoldBelow
summaries_hold_below limits names below m s asks within never sums =
    subst (λ (f : OutcomeWord → Came). Sums names limits.devices (length (asked_in m.log)) f s) (sym (same_futures limits below m asks within never)) sums

pub summaries_hold_above : SummariesHoldAbove
summaries_hold_above limits names below m s asks within never sums =
    subst (λ (f : OutcomeWord → Came). Sums names limits.devices (length (asked_in m.log)) f s) (same_futures limits below m asks within never) sums

pub nodes_hold_below : NodesHoldBelow
nodes_hold_below limits below m asks within never w = ap (seen_behind (length (asked_in m.log))) (lowest_make_no_difference limits below m asks within never w)
