-- Where a summary of what is to come may be used again: at one place, with the same values of keys that are enough. Ours.
use Rattle.std.specs.Prelude.{◌≡◌, ℕ, ◌<◌, List, [], length}
use Rattle.bootstore_state.specs.Moment.{Moment}
use Rattle.bootstore_state.specs.StoredState.{state_at}
use Rattle.rehearse_terms.specs.Outcomes.{OutcomeWord}
use Rattle.rehearse_terms.specs.State.{Text}
use Rattle.rehearse_rules.specs.Execution.{Limits}
use Rattle.rehearse_machine.specs.Machine.{IsAsking, asked_at}
use Rattle.rehearse_reads.specs.Keys.{Key, AgreeOn}
use Rattle.rehearse_frames.specs.Above.{without_lowest, NeverReturns}
use Rattle.rehearse_frames.specs.KeysToCome.{AreAtOnePlace, AreEnoughAt}
use Rattle.rehearse_states.specs.Summaries.{Summary}
use Rattle.rehearse_reuse.specs.DrawnRuns.{seen_at}
use Rattle.rehearse_reuse.specs.SummedRuns.{SumsAt, FitsIf, moved_on}

-- the moment n is at the place of m, has the same at each of these keys, and leaves room for the runs of the summary
pub record FitsByKeys (limits : Limits) (keys : List Key) (s : Summary) (m n : Moment) : Type 0 where
  pub place : AreAtOnePlace limits m n
  pub agree : AgreeOn keys (state_at m []) (state_at n [])
  pub steps : FitsIf s.cut_steps m.steps n.steps s.steps limits.step_bound
  pub devices : FitsIf s.cut_devices (length m.log) (length n.log) s.devices limits.device_bound

-- the summary of what is to come at m, moved on, is that of what is to come at n, if the keys are enough at m
abbrev pub SummariesAreReused : Type 0
SummariesAreReused = (limits : Limits) (names : List Text) (m n : Moment) (keys : List Key) (s : Summary) → IsAsking limits m → IsAsking limits n →
    AreEnoughAt limits names m keys → SumsAt names limits m s → FitsByKeys limits keys s m n →
    SumsAt names limits n (moved_on m n s)

-- and what a walk sees of the runs is the same, so a node that draws it at m draws it at n
abbrev pub NodesAreReused : Type 0
NodesAreReused = (limits : Limits) (names : List Text) (m n : Moment) (keys : List Key) (s : Summary) → IsAsking limits m → IsAsking limits n →
    AreEnoughAt limits names m keys → SumsAt names limits m s → FitsByKeys limits keys s m n →
    (w : OutcomeWord) → seen_at limits n w ≡ seen_at limits m w

-- and the same keys are enough there
abbrev pub KeysAreReused : Type 0
KeysAreReused = (limits : Limits) (names : List Text) (m n : Moment) (keys : List Key) (s : Summary) → IsAsking limits m → IsAsking limits n →
    AreEnoughAt limits names m keys → SumsAt names limits m s → FitsByKeys limits keys s m n →
    AreEnoughAt limits names n keys

-- and if nothing comes back to frames below at m, nothing does at n
abbrev pub NoReturnsAreReused : Type 0
NoReturnsAreReused = (limits : Limits) (names : List Text) (m n : Moment) (keys : List Key) (s : Summary) → IsAsking limits m → IsAsking limits n →
    AreEnoughAt limits names m keys → SumsAt names limits m s → FitsByKeys limits keys s m n →
    NeverReturns (asked_at limits m) → NeverReturns (asked_at limits n)

-- ---- with further frames below, to which nothing comes back

-- a summary holds there too
abbrev pub SummariesHoldBelow : Type 0
SummariesHoldBelow = (limits : Limits) (names : List Text) (below : ℕ) (m : Moment) (s : Summary) → IsAsking limits m → below < length m.frames →
    NeverReturns (asked_at limits (without_lowest below m)) →
    SumsAt names limits (without_lowest below m) s → SumsAt names limits m s

-- and so it does without them
abbrev pub SummariesHoldAbove : Type 0
SummariesHoldAbove = (limits : Limits) (names : List Text) (below : ℕ) (m : Moment) (s : Summary) → IsAsking limits m → below < length m.frames →
    NeverReturns (asked_at limits (without_lowest below m)) →
    SumsAt names limits m s → SumsAt names limits (without_lowest below m) s

-- and a walk sees the same
abbrev pub NodesHoldBelow : Type 0
NodesHoldBelow = (limits : Limits) (below : ℕ) (m : Moment) → IsAsking limits m → below < length m.frames →
    NeverReturns (asked_at limits (without_lowest below m)) →
    (w : OutcomeWord) → seen_at limits m w ≡ seen_at limits (without_lowest below m) w
