-- What a machine that reports promises: which keys are enough before what it did. Ours.
use Rattle.std.specs.Prelude.{◌≡◌, ℕ, ◌≤◌, List, [], ◌∷◌, length}
use Rattle.bootstore_state.specs.Moment.{Moment}
use Rattle.bootstore_state.specs.StoredState.{state_at}
use Rattle.rehearse_terms.specs.Outcomes.{Outcome, OutcomeWord}
use Rattle.rehearse_terms.specs.State.{Text}
use Rattle.rehearse_rules.specs.Execution.{Limits}
use Rattle.rehearse_rules.specs.EndingsShown.{halt_shown}
use Rattle.rehearse_machine.specs.Came.{Came, Over}
use Rattle.rehearse_machine.specs.Machine.{asked_at}
use Rattle.rehearse_machine.specs.Meaning.{comes_to}
use Rattle.rehearse_machine.specs.MovesShown.{next_shown}
use Rattle.rehearse_machine.specs.Places.{next_of}
use Rattle.rehearse_machine.specs.Turning.{to_come}
use Rattle.rehearse_machine.specs.declared.ask.Step.{Step}
use Rattle.rehearse_machine.specs.declared.rehearsal.Stop.{Stop}
use Rattle.rehearse_machine.specs.declared.rehearsal.Stop.TheVariants.{Asks, Ends}
use Rattle.rehearse_reads.specs.Keys.{Key, Access, AreAmong, keys_in_front, keys_read}
use Rattle.rehearse_frames.specs.Above.{without_lowest, AboveAll}
use Rattle.rehearse_frames.specs.ToCome.{names_read}
use Rattle.rehearse_frames.specs.KeysToCome.{AreEnoughFrom, AreEnoughAfter, AreEnoughAt, AreEnoughIf, asks_at}
use Rattle.rehearse_reports.specs.Reports.{Reports}

-- A report goes on with what is read and written between two places of a run: the same is to come at both, and keys that are
-- enough at the second one, moved in front of it, are enough at the first one, whichever variables are wanted at the end.
pub record Leads (here there : OutcomeWord → Came) (first second : (wanted : List Text) → List Key → Type 0) (old new : List Access) : Type 0 where
  pub accesses : List Access
  pub comes : (w : OutcomeWord) → there w ≡ here w
  pub enough : (wanted : List Text) (later : List Key) → second wanted later → first wanted (keys_in_front accesses later)
  pub reported : Reports old new accesses

-- from a moment up to a step that has led to another one
abbrev pub Follows : Limits → Moment → Step → Moment → (old new : List Access) → Type 0
Follows limits m step n old new =
    Leads (to_come limits m) (λ w. comes_to limits w (next_of (next_shown step n [])))
    (λ wanted. AreEnoughFrom limits wanted m) (λ wanted. AreEnoughAfter limits wanted step n) old new

-- what is to come where a text has stopped
abbrev pub comes_at_stop : Limits → Stop → Moment → OutcomeWord → Came
comes_at_stop limits Asks m w = asked_at limits m w
comes_at_stop limits (Ends halt) m w = Over (halt_shown halt) (state_at m w)

-- keys that are enough where a text has stopped: at a device command that asks, or at the end, where the variables that are
-- wanted are read
abbrev pub AreEnoughAtStop : Limits → (wanted : List Text) → Stop → Moment → List Key → Type 0
AreEnoughAtStop limits wanted Asks m keys = AreEnoughAt limits wanted m keys
AreEnoughAtStop limits wanted (Ends halt) m keys = AreAmong (keys_read (names_read wanted)) keys

-- keys that are enough at a moment at which a device command asks, if its outcome is this one
abbrev pub AreEnoughFor : Limits → (wanted : List Text) → Outcome → Moment → List Key → Type 0
AreEnoughFor limits wanted outcome m keys = AreEnoughIf limits wanted outcome (asks_at limits m) keys

-- from a moment up to where its text has stopped
abbrev pub FollowsToStop : Limits → Moment → Stop → Moment → (old new : List Access) → Type 0
FollowsToStop limits m stop n old new =
    Leads (to_come limits m) (comes_at_stop limits stop n)
    (λ wanted. AreEnoughFrom limits wanted m) (λ wanted. AreEnoughAtStop limits wanted stop n) old new

-- from an outcome up to a step
abbrev pub FollowsOutcome : Limits → Outcome → Moment → Step → Moment → (old new : List Access) → Type 0
FollowsOutcome limits outcome m step n old new =
    Leads (λ w. asked_at limits m (outcome ∷ w)) (λ w. comes_to limits w (next_of (next_shown step n [])))
    (λ wanted. AreEnoughFor limits wanted outcome m) (λ wanted. AreEnoughAfter limits wanted step n) old new

-- a whole report of an outcome, and of what follows it up to the next stop
pub record IsReportedFor (limits : Limits) (outcome : Outcome) (m : Moment) (stop : Stop) (n : Moment) (reported : List Access) : Type 0 where
  pub comes : (w : OutcomeWord) → comes_at_stop limits stop n w ≡ asked_at limits m (outcome ∷ w)
  pub enough : (wanted : List Text) (later : List Key) →
      AreEnoughAtStop limits wanted stop n later → AreEnoughFor limits wanted outcome m (keys_in_front reported later)

-- ---- the same without the lowest frames, if there were never fewer frames than this

abbrev pub FollowsAbove : Limits → (fewest : ℕ) → Moment → Step → Moment → (old new : List Access) → Type 0
FollowsAbove limits fewest m step n old new =
    AboveAll fewest (λ below. Follows limits (without_lowest below m) step (without_lowest below n) old new)

abbrev pub FollowsToStopAbove : Limits → (fewest : ℕ) → Moment → Stop → Moment → (old new : List Access) → Type 0
FollowsToStopAbove limits fewest m stop n old new =
    AboveAll fewest (λ below. FollowsToStop limits (without_lowest below m) stop (without_lowest below n) old new)

abbrev pub FollowsOutcomeAbove : Limits → (fewest : ℕ) → Outcome → Moment → Step → Moment → (old new : List Access) → Type 0
FollowsOutcomeAbove limits fewest outcome m step n old new =
    AboveAll fewest (λ below. FollowsOutcome limits outcome (without_lowest below m) step (without_lowest below n) old new)

abbrev pub IsReportedAbove : Limits → (fewest : ℕ) → Outcome → Moment → Stop → Moment → List Access → Type 0
IsReportedAbove limits fewest outcome m stop n reported =
    AboveAll fewest (λ below. IsReportedFor limits outcome (without_lowest below m) stop (without_lowest below n) reported)

-- where a device command asks, there are so many frames
abbrev pub HasFramesAtStop : (fewest : ℕ) → Stop → Moment → Type 0
HasFramesAtStop fewest Asks m = fewest ≤ length m.frames
HasFramesAtStop fewest (Ends halt) m = Unit {0}
