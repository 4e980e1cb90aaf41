-- Steps, and ended texts that are dropped, without the lowest frames.
use Rattle.std.proofs.Common.{◌≡◌, ◌∙◌, ◌<◌, ◌≤◌, min, arith, refl, sym, ap, subst, ℕ, zero, suc, Bool, true, false, ◌&&◌, is_some, List, [], ◌∷◌, length, reverse, option_and_then}
use Rattle.std.proofs.Math.Nat.{min-le_left, min-le_right}
use Rattle.std.proofs.lemmas.List.{length-reverse}
use Rattle.bootstore_state.specs.Moment.{Moment, RunningFrame}
use Rattle.bootstore_state.specs.Record.{Record, without_first}
use Rattle.bootstore_state.specs.StoredState.{state_at}
use Rattle.rehearse_terms.specs.Outcomes.{OutcomeWord}
use Rattle.rehearse_rules.specs.Execution.{Limits}
use Rattle.rehearse_machine.specs.EndedTexts.{DropsEnded, begins, below_blocks, below_ended, below_text, below_three, is_done, lightened, may_drop, without_text}
use Rattle.rehearse_machine.specs.Meaning.{continue}
use Rattle.rehearse_machine.specs.MovesShown.{next_shown}
use Rattle.rehearse_machine.specs.Places.{frames_of, place_move}
use Rattle.rehearse_machine.specs.declared.ask.Step.{Step}
use Rattle.rehearse_machine.specs.declared.ask.Step.TheVariants as steps
use Rattle.rehearse_machine.proofs.EndedLemmas.{lightened_by}
use Rattle.rehearse_frames.specs.Above.{above}
use Rattle.rehearse_frames.proofs.LowestFrames.{above_none, all_frames, moves_stay_above}
use Rattle.rehearse_reports.specs.Looping.{FramesLeft, GoAlikeAbove, HasFrames, StepsAbove}

pub steps_above : (limits : Limits) (fewest left : ℕ) (m : Moment) (step : Step) (n : Moment) → fewest ≤ length m.frames → fewest ≤ left → FramesLeft step n left
    → ((w : OutcomeWord) → next_shown step n w ≡ place_move limits m.frames (state_at m w)) → StepsAbove limits fewest m step n
steps_above limits fewest left m step n all less there shown zero within w =
    ap (λ (k : Moment). next_shown step k w) (all_frames n) ∙ shown w ∙ ap (λ (fs : List RunningFrame). place_move limits fs (state_at m w)) (sym (above_none m.frames))
steps_above limits fewest left m step n all less there shown (suc below) within w = moves_stay_above limits (suc below) step m n (omega arith) (there.stays (suc below) (omega arith)) shown w

pub fewer_frames : (fewest left : ℕ) (step : Step) (m : Moment) → fewest ≤ left → HasFrames left step m → HasFrames fewest step m
fewer_frames fewest left steps.Going m less h = tt
fewer_frames fewest left (steps.Asks ask) m less h = omega (arith, h)
fewer_frames fewest left (steps.Ends halt) m less h = tt

-- frames in the other order are as many
pub as_long : (frames others : List RunningFrame) → reverse frames ≡ others → length others ≡ length frames
as_long frames others e = sym (ap (λ (fs : List RunningFrame). length fs) e) ∙ length-reverse frames

-- the least of three
pub least_of : (a b c m n : ℕ) → m ≡ min a b → n ≡ min m c → (n ≤ b) × (n ≤ c)
least_of a b c m n e f =
    let both : m ≤ b = subst (λ (x : ℕ). x ≤ b) (sym e) (min-le_right a b) in
    let last : n ≤ c = subst (λ (x : ℕ). x ≤ c) (sym f) (min-le_right m c) in
    let first : n ≤ m = subst (λ (x : ℕ). x ≤ m) (sym f) (min-le_left m c) in
    (omega arith, last)

-- ---- if frames are dropped, fewer are left

pub blocks_shorter : (fs : List RunningFrame) → length (below_blocks fs) ≤ length fs
blocks_shorter [] = omega arith
blocks_shorter (f ∷ fs) = by (is_done f) (blocks_shorter fs)
  where
    by : (b : Bool) → length (below_blocks fs) ≤ length fs → length {A = RunningFrame} (elim b [ true ↦ below_blocks fs | false ↦ f ∷ fs ]) ≤ length (f ∷ fs)
    by true h = omega arith
    by false h = omega arith

two_shorter : (fs : List RunningFrame) → 0 < length fs → length (without_first (without_first fs)) < length fs
two_shorter [] some = some
two_shorter (x ∷ []) some = omega arith
two_shorter (x ∷ y ∷ fs) some = omega arith

pub both_hold : (a b : Bool) → a && b ≡ true → b ≡ true
both_hold true b e = e
both_hold false b e = absurd (cc)

some_text : (bs : List RunningFrame) → is_some (option_and_then below_ended (option_and_then below_ended (below_text bs))) ≡ true → 0 < length bs
some_text [] e = absurd (let f = e in cc)
some_text (b ∷ bs) e = omega arith

dropped_shorter : (fs : List RunningFrame) → may_drop fs ≡ true → length (without_text fs) < length fs
dropped_shorter [] e = absurd (let f = e in cc)
dropped_shorter (f ∷ fs) e =
    let bs : List RunningFrame = below_blocks fs in
    let less = blocks_shorter fs in
    let rest = two_shorter bs (some_text bs (both_hold (begins f) (is_some (below_three fs)) e)) in
    omega arith

as_long_as_before : (fs : List RunningFrame) (b : Bool) → may_drop fs ≡ b → length (lightened fs) ≡ length fs → lightened fs ≡ fs
as_long_as_before fs true e same =
    let shorter = dropped_shorter fs e in
    let is : length (lightened fs) ≡ length (without_text fs) = ap (λ (xs : List RunningFrame). length xs) (lightened_by fs true e) in
    absurd (omega arith)
as_long_as_before fs false e same = lightened_by fs false e

pub keeps_above : (left : ℕ) (old new : Record) → DropsEnded old new → length new.present.frames ≡ length old.present.frames → GoAlikeAbove left old.present new.present
keeps_above left old new drops same below within limits a =
    let fs : List RunningFrame = old.present.frames in
    let lighter : new.present.frames ≡ lightened fs = ap (λ (r : Record). r.present.frames) drops.frames in
    let is : new.present.frames ≡ fs = lighter ∙ as_long_as_before fs (may_drop fs) refl (sym (ap (λ (xs : List RunningFrame). length xs) lighter) ∙ same) in
    ap (λ (xs : List RunningFrame). continue limits (frames_of (above below xs)) a) is
