-- The frames above the lowest ones, and runs that never come back to those. Ours.
use Rattle.std.specs.Prelude.{◌≡◌, ℕ, ◌-◌, ◌<◌, ◌≤◌, List, length, take}
use Rattle.bootstore_state.specs.Moment.{Moment, RunningFrame}
use Rattle.rehearse_terms.specs.Outcomes.{OutcomeWord}
use Rattle.rehearse_terms.specs.State.{State}
use Rattle.rehearse_rules.specs.EndingsShown.{halt_shown}
use Rattle.rehearse_rules.specs.Execution.{Ending, End}
use Rattle.rehearse_machine.specs.Came.{Came, Over}
use Rattle.rehearse_machine.specs.declared.ask.Step.{Step}
use Rattle.rehearse_machine.specs.declared.ask.Step.TheVariants as steps

-- the frames above so many of the lowest
abbrev pub above : (below : ℕ) → List RunningFrame → List RunningFrame
above below frames = take (length frames - below) frames

-- a moment, without so many of its lowest frames
abbrev pub without_lowest : (below : ℕ) → Moment → Moment
without_lowest below m = record m { frames = above below m.frames }

-- the text did not end
abbrev pub IsNoEnd : Ending → Type 0
IsNoEnd ending = (status : ℕ) → ending ≡ End status → ⊥

-- whatever outcomes are left, the text does not end: so nothing comes back to frames that would lie below its own
abbrev pub NeverReturns : (OutcomeWord → Came) → Type 0
NeverReturns comes = (w : OutcomeWord) (status : ℕ) (s : State) → comes w ≡ Over (End status) s → ⊥

-- a step has left so many frames alone, and one more is above them, where the run goes on
abbrev pub StaysAbove : (below : ℕ) → Step → Moment → Type 0
StaysAbove below steps.Going m = below < length m.frames
StaysAbove below (steps.Asks ask) m = Unit {0}
StaysAbove below (steps.Ends halt) m = IsNoEnd (halt_shown halt)

-- so it is, however many of the lowest frames are left out, if this many frames were always there: one stays
abbrev pub AboveAll : (fewest : ℕ) → (ℕ → Type 0) → Type 0
AboveAll fewest IsSo = (below : ℕ) → below ≤ fewest - 1 → IsSo below
