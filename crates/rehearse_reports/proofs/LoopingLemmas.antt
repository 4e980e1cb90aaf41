-- Moves from one moment to another, and rounds of a loop that are begun at once.
use Rattle.std.proofs.Common.{◌≡◌, ◌∙◌, refl, sym, ap, subst, ℕ, suc, ◌+◌, ◌-◌, ◌*◌, ◌<◌, ◌≤◌, arith, List, [], ◌++◌, length, append-nil, Result, Ok, Err}
use Rattle.std.specs.Prelude.{IfOk}
use Rattle.bootstore_state.specs.Moment.{RunningFrame, Moment}
use Rattle.bootstore_state.specs.Record.{Record}
use Rattle.bootstore_state.specs.StoredState.{state_at}
use Rattle.bootstore_state.specs.declared.store.StoreError.{StoreError}
use Rattle.rehearse_terms.specs.Outcomes.{OutcomeWord}
use Rattle.rehearse_terms.specs.State.{State}
use Rattle.rehearse_rules.specs.Execution.{Limits}
use Rattle.rehearse_machine.specs.EndedTexts.{DropsEnded, GoOnAlike}
use Rattle.rehearse_machine.specs.Frames.{Frame, Next, Go, Ask, Stop}
use Rattle.rehearse_machine.specs.Meaning.{AreProperFrames, comes_to}
use Rattle.rehearse_machine.specs.MovesShown.{next_shown, Keeps}
use Rattle.rehearse_machine.specs.Places.{next_of, frames_of, place_move}
use Rattle.rehearse_machine.specs.Turning.{IsSound, IsFurtherOn, Turns, Comes_on, to_come}
use Rattle.rehearse_machine.specs.declared.ask.Step.{Step}
use Rattle.rehearse_machine.specs.declared.ask.Step.TheVariants as steps
use Rattle.rehearse_machine.proofs.PlaceMoves.{place_move-is}
use Rattle.rehearse_machine.proofs.StoreMoves.{keeps_both}
use Rattle.rehearse_machine.proofs.TurnLemmas.{came_on, further_steps, on_lighter, same_state, same_steps}
use Rattle.rehearse_reads.specs.Keys.{Access}
use Rattle.rehearse_frames.specs.Above.{above, without_lowest}
use Rattle.rehearse_frames.specs.KeysToCome.{AreEnough}
use Rattle.rehearse_frames.specs.Loops.{later, moved_on, after_moves, of_next_move, of_moves, ComesAfter, Stretch}
use Rattle.rehearse_frames.specs.MoveAccesses.{of_move}
use Rattle.rehearse_frames.proofs.LoopLemmas.{moves_come, moves_stretch, alike_stretch, stretches_then, stretch_comes, loops_go_on}
use Rattle.rehearse_frames.proofs.LowestFrames.{all_frames, proper_above}
use Rattle.rehearse_reports.specs.Following.{Follows, FollowsAbove}
use Rattle.rehearse_reports.specs.Looping.{goes_at, MovesTo, LeadsOn, IsBack, BeginsRounds, MovesAbove, LeadsAbove, StepsAbove, GoAlikeAbove}
use Rattle.rehearse_reports.specs.Reports.{Reports, ReportsAbove}
use Rattle.rehearse_reports.proofs.FollowingLemmas.{follows_as, follows_then}
use Rattle.rehearse_reports.proofs.ReportLemmas.{reports_nothing, reports_then}

-- ---- moves

pub moves_first : (limits : Limits) (m : Moment) (old : List Access) → MovesTo limits m steps.Going m old old
moves_first limits m old = record { count = 0; leads = refl; reported = reports_nothing old }

pub moves_as : (limits : Limits) (m n : Moment) (step other : Step) (old new : List Access) → step ≡ other → MovesTo limits m step n old new → MovesTo limits m other n old new
moves_as limits m n step other old new e h = subst (λ (x : Step). MovesTo limits m x n old new) e h

-- one move more
pub moves_more : (limits : Limits) (m : Moment) (step : Step) (mid new : Moment) (old so_far now : List Access) → MovesTo limits m steps.Going mid old so_far → next_shown step new [] ≡ place_move limits mid.frames (state_at mid [])
    → Reports so_far now (of_move limits (frames_of mid.frames) (state_at mid [])) → MovesTo limits m step new old now
moves_more limits m step mid new old so_far now moves does reported = record {
  count = suc moves.count;
  leads = ap (moved_on limits) moves.leads ∙ sym (ap next_of does ∙ place_move-is limits mid.frames (state_at mid []));
  reported = subst (λ (next : Next). Reports old now (of_moves limits moves.count (goes_at m) ++ of_next_move limits next)) (sym moves.leads)
      (reports_then old so_far now (of_moves limits moves.count (goes_at m)) (of_move limits (frames_of mid.frames) (state_at mid [])) moves.reported reported);
}

-- the same without the lowest frames
pub all_moves_more : (limits : Limits) (fewest fewer : ℕ) (m : Moment) (step : Step) (mid new : Moment) (old so_far now : List Access) → fewer ≤ fewest → fewer ≤ length mid.frames → MovesAbove limits fewest m steps.Going mid old so_far
    → StepsAbove limits fewer mid step new → ReportsAbove limits mid.frames (state_at mid []) so_far now → MovesAbove limits fewer m step new old now
all_moves_more limits fewest fewer m step mid new old so_far now less all moves does reported below within =
    moves_more limits (without_lowest below m) step (without_lowest below mid) (without_lowest below new) old so_far now (moves below (omega arith)) (does below within []) (reported below (omega arith))

pub all_moves_as : (limits : Limits) (fewest : ℕ) (m n : Moment) (step other : Step) (old new : List Access) → step ≡ other → MovesAbove limits fewest m step n old new → MovesAbove limits fewest m other n old new
all_moves_as limits fewest m n step other old new e h = subst (λ (x : Step). MovesAbove limits fewest m x n old new) e h

-- keys that are enough after the moves, moved in front of them, are enough before them
pub moves_follow : (limits : Limits) (m n : Moment) (step : Step) (old new : List Access) → IsSound m → MovesTo limits m step n old new → Follows limits m step n old new
moves_follow limits m n step old new sound moves =
    let comes : ComesAfter limits (goes_at m) (after_moves limits moves.count (goes_at m)) (of_moves limits moves.count (goes_at m)) = moves_come limits moves.count (goes_at m) sound in
    record {
      accesses = of_moves limits moves.count (goes_at m);
      comes = λ w. ap (comes_to limits w) (sym moves.leads) ∙ comes.comes w;
      enough = λ wanted keys h. comes.enough wanted keys (subst (λ (next : Next). AreEnough limits wanted next keys) (sym moves.leads) h);
      reported = moves.reported;
    }

pub sound_above : (below : ℕ) (m : Moment) → IsSound m → IsSound (without_lowest below m)
sound_above below m sound = proper_above below m.frames sound

pub moves_follow_on : (limits : Limits) (fewest : ℕ) (result : Result Step StoreError) (m n : Moment) (old new : List Access) → IsSound m → IfOk result (λ step. MovesAbove limits fewest m step n old new) → IfOk result (λ step. FollowsAbove limits fewest m step n old new)
moves_follow_on limits fewest (Ok step) m n old new sound moves = λ below within. moves_follow limits (without_lowest below m) (without_lowest below n) step old new (sound_above below m sound) (moves below within)
moves_follow_on limits fewest (Err e) m n old new sound moves = moves

-- ---- stretches

pub leads_first : (limits : Limits) (m : Moment) (old : List Access) → LeadsOn limits m m old old
leads_first limits m old = record {
  accesses = [];
  stretch = record { goes = λ before room. record { comes = λ w. refl; enough = λ wanted keys h. h } };
  reported = reports_nothing old;
}

-- moves after it
pub leads_more : (limits : Limits) (m n k : Moment) (step : Step) (old mid new : List Access) → IsSound n → n.steps ≤ k.steps → step ≡ steps.Going → LeadsOn limits m n old mid → MovesTo limits n step k mid new → LeadsOn limits m k old new
leads_more limits m n k step old mid new sound grown going on more =
    let moves : MovesTo limits n steps.Going k mid new = moves_as limits n k step steps.Going mid new going more in
    let accesses : List Access = of_moves limits moves.count (goes_at n) in
    record {
      accesses = on.accesses ++ accesses;
      stretch = stretches_then limits (frames_of m.frames) (frames_of n.frames) (frames_of k.frames) (state_at m []) (state_at n []) (state_at k []) on.accesses accesses grown on.stretch
          (moves_stretch limits moves.count (frames_of n.frames) (frames_of k.frames) (state_at n []) (state_at k []) sound moves.leads);
      reported = reports_then old mid new on.accesses accesses on.reported moves.reported;
    }

-- ended texts that are dropped after it
pub leads_lighter : (limits : Limits) (below : ℕ) (m : Moment) (mid new : Record) (before after : List Access) → DropsEnded mid new → GoOnAlike (above below new.present.frames) (above below mid.present.frames)
    → LeadsOn limits m (without_lowest below mid.present) before after → LeadsOn limits m (without_lowest below new.present) before after
leads_lighter limits below m mid new before after drops alike on =
    let fs : List Frame = frames_of (above below mid.present.frames) in
    let gs : List Frame = frames_of (above below new.present.frames) in
    let s : State = state_at mid.present [] in
    let same : s ≡ state_at new.present [] = sym (same_state mid new drops []) in
    let count = same_steps mid new drops in
    record {
      accesses = on.accesses ++ [];
      stretch = stretches_then limits (frames_of m.frames) fs gs (state_at m []) s (state_at new.present []) on.accesses [] (omega arith) on.stretch
          (subst (λ (t : State). Stretch limits fs s gs t []) same (alike_stretch limits fs gs s (λ a. sym (alike limits a))));
      reported = subst (Reports before after) (sym (append-nil on.accesses)) on.reported;
    }

pub leads_follow : (limits : Limits) (m n : Moment) (old new : List Access) → n.steps ≤ limits.step_bound → LeadsOn limits m n old new → Follows limits m steps.Going n old new
leads_follow limits m n old new within on =
    let comes : ComesAfter limits (goes_at m) (goes_at n) on.accesses = stretch_comes limits (frames_of m.frames) (frames_of n.frames) (state_at m []) (state_at n []) on.accesses within on.stretch in
    record { accesses = on.accesses; comes = λ w. comes.comes w; enough = λ wanted keys h. comes.enough wanted keys h; reported = on.reported }

pub all_leads_follow : (limits : Limits) (fewest : ℕ) (m n : Moment) (old new : List Access) → n.steps ≤ limits.step_bound → LeadsAbove limits fewest m n old new → FollowsAbove limits fewest m steps.Going n old new
all_leads_follow limits fewest m n old new room on below within = leads_follow limits (without_lowest below m) (without_lowest below n) old new room (on below within)

-- a turn after it
pub turn_follows : (limits : Limits) (fewest fewer : ℕ) (old mid new : Record) (step other : Step) (before so_far after : List Access) → fewer ≤ fewest → step ≡ other → Comes_on limits old mid
    → LeadsAbove limits fewest old.present mid.present before so_far → MovesAbove limits fewer mid.present step new.present so_far after → FollowsAbove limits fewer old.present other new.present before after
turn_follows limits fewest fewer old mid new step other before so_far after less is on leads moves below within =
    let m : Moment = without_lowest below old.present in
    let n : Moment = without_lowest below mid.present in
    let k : Moment = without_lowest below new.present in
    follows_as limits m k step other before after is
    (follows_then limits m n k step before so_far after (leads_follow limits m n before so_far on.within (leads below (omega arith))) (moves_follow limits n k step so_far after (sound_above below mid.present on.sound) (moves below within)))

-- ---- turns one after another

further_from : (bound before now : ℕ) (next : Next) → before ≤ now → now ≤ bound → IsFurtherOn bound now next → IsFurtherOn bound before next
further_from bound before now (Go fs t) l k h = let a = h.0 in (omega arith, h.1)
further_from bound before now (Ask request fs t) l k h = let a = h.0 in (omega arith, h.1)
further_from bound before now (Stop ending t) l k h = let a = h.0 in (omega arith, λ e. h.1 k)

-- a turn after others
pub turns_then : (limits : Limits) (step : Step) (old mid new : Record) → Comes_on limits old mid → Turns limits step mid new → Turns limits step old new
turns_then limits step old mid new on turn = record {
  means = λ w. turn.means w ∙ on.means w;
  sound = turn.sound;
  kept = keeps_both old mid new on.kept turn.kept;
  further = further_from limits.step_bound old.present.steps mid.present.steps (next_of (next_shown step new.present [])) on.grows on.within turn.further;
  again = turn.again;
}

-- turns that have begun a step
pub on_turns : (limits : Limits) (old new : Record) → Comes_on limits old new → old.present.steps < new.present.steps → Turns limits steps.Going old new
on_turns limits old new on grown = record { means = on.means; sound = on.sound; kept = on.kept; further = (grown, on.within); again = λ w. tt }

-- one turn more, and what is dropped after it
pub record Goes_on (limits : Limits) (fewest : ℕ) (old new : Record) (before after : List Access) : Type 0 where
  pub on : Comes_on limits old new
  pub grown : old.present.steps < new.present.steps
  pub leads : LeadsAbove limits fewest old.present new.present before after

pub goes_on : (limits : Limits) (step : Step) (fewest fewer fewer_still : ℕ) (old mid turned new : Record) (before so_far after : List Access) → fewer ≤ fewest → fewer_still ≤ fewer → step ≡ steps.Going
    → Comes_on limits old mid → LeadsAbove limits fewest old.present mid.present before so_far
    → Turns limits step mid turned → MovesAbove limits fewer mid.present step turned.present so_far after → DropsEnded turned new → GoAlikeAbove fewer_still turned.present new.present → Goes_on limits fewer_still old new before after
goes_on limits step fewest fewer fewer_still old mid turned new before so_far after less lesser going on leads turn moves drops alike =
    let further = further_steps limits step old mid turned on turn going in
    let more = further.0 in
    let grows = on.grows in
    let count = same_steps turned new drops in
    record {
      on = on_lighter limits old turned new (came_on limits step old mid turned on turn going) drops;
      grown = omega arith;
      leads = λ below within.
          leads_lighter limits below (without_lowest below old.present) turned new before after drops (alike below within)
          (leads_more limits (without_lowest below old.present) (without_lowest below mid.present) (without_lowest below turned.present) step before so_far after (sound_above below mid.present on.sound) (omega arith) going
          (leads below (omega arith)) (moves below (omega arith)));
    }

-- ---- rounds

sum : (n m turn more : ℕ) → n ≡ m + turn → n + more ≡ m + (more + turn)
sum n m turn more e = omega arith

module _ (limits : Limits) (fewest : ℕ) (old mid new : Record) (before after : List Access) (goes : Goes_on limits fewest old mid before after) (back : IsBack old.present mid.present)
    (begins : BeginsRounds limits.step_bound (mid.present.steps - old.present.steps) mid new) where
  abbrev turn : ℕ
  turn = mid.present.steps - old.present.steps

  abbrev s : State
  s = state_at old.present []

  again : mid.present.steps ≡ old.present.steps + turn
  again = let g = goes.grown in omega arith

  total : mid.present.steps + begins.rounds * turn ≡ old.present.steps + (begins.rounds * turn + turn)
  total = sum mid.present.steps old.present.steps turn (begins.rounds * turn) again

  steps_now : new.present.steps ≡ mid.present.steps + begins.rounds * turn
  steps_now = ap (λ (r : Record). r.present.steps) begins.begun

  module _ (below : ℕ) (leads : LeadsOn limits (without_lowest below old.present) (without_lowest below mid.present) before after) where
    abbrev fs : List Frame
    fs = frames_of (above below old.present.frames)

    abbrev accesses : List Access
    accesses = leads.accesses

    round : Stretch limits fs s fs (later turn s) accesses
    round =
        subst (λ (n : ℕ). Stretch limits fs s fs (record s { steps = n }) accesses) again
        (subst (λ (t : State). Stretch limits fs s fs t accesses) (back.state [])
        (subst (λ (gs : List RunningFrame). Stretch limits fs s (frames_of (above below gs)) (state_at mid.present []) accesses) back.frames leads.stretch))

    rounds_come : ComesAfter limits (Go fs s) (Go fs (later (begins.rounds * turn + turn) s)) accesses
    rounds_come =
        let within = begins.within in
        let a = total in
        let b = steps_now in
        loops_go_on limits turn begins.rounds fs s accesses round (omega arith)

    at_last : Go fs (later (begins.rounds * turn + turn) s) ≡ goes_at (without_lowest below new.present)
    at_last =
        ap (λ (n : ℕ). Go fs (record s { steps = n })) (sym total)
        ∙ (λ i. Go (frames_of (above below (sym back.frames i))) (record s { steps = mid.present.steps + begins.rounds * turn }))
        ∙ ap (λ (x : State). Go (frames_of (above below mid.present.frames)) (record x { steps = mid.present.steps + begins.rounds * turn })) (sym (back.state []))
        ∙ ap (λ (r : Record). goes_at (without_lowest below r.present)) (sym begins.begun)

    pub rounds_after : ComesAfter limits (goes_at (without_lowest below old.present)) (goes_at (without_lowest below new.present)) accesses
    rounds_after = subst (λ (next : Next). ComesAfter limits (Go fs s) next accesses) at_last rounds_come

    rounds_follow_above : Follows limits (without_lowest below old.present) steps.Going (without_lowest below new.present) before after
    rounds_follow_above = record { accesses = accesses; comes = λ w. rounds_after.comes w; enough = λ wanted keys h. rounds_after.enough wanted keys h; reported = leads.reported }

  rounds_keep : Keeps old new
  rounds_keep =
      let kept : Keeps old mid = goes.on.kept in
      let begun : new.begun ≡ mid.begun + begins.rounds * turn = ap (λ (r : Record). r.begun) begins.begun in
      record { marked = ap (λ (r : Record). r.marked) begins.begun ∙ kept.marked; begun = let a = kept.begun in let b = steps_now in omega arith }

  -- with all frames
  rounds_mean : (w : OutcomeWord) → to_come limits new.present w ≡ to_come limits old.present w
  rounds_mean w =
      let comes = rounds_after 0 (goes.leads 0 (omega arith)) in
      ap (λ (m : Moment). to_come limits m w) (sym (all_frames new.present)) ∙ comes.comes w ∙ ap (λ (m : Moment). to_come limits m w) (all_frames old.present)

  pub rounds_turn : Turns limits steps.Going old new
  rounds_turn = record {
    means = rounds_mean;
    sound = subst (λ (x : Moment). AreProperFrames (frames_of x.frames)) (sym (ap (λ (r : Record). r.present) begins.begun)) goes.on.sound;
    kept = rounds_keep;
    further = let g = goes.grown in let a = steps_now in (omega arith, begins.within);
    again = λ w. tt;
  }

  pub rounds_follow : FollowsAbove limits fewest old.present steps.Going new.present before after
  rounds_follow below within = rounds_follow_above below (goes.leads below within)

-- turns that have come back to the first moment, and all further rounds
pub turns_and_rounds : (limits : Limits) (fewest : ℕ) (first : Moment) (old new late : Record) (before after : List Access) (steps_now : ℕ) → first ≡ old.present → steps_now ≡ new.present.steps → Goes_on limits fewest old new before after
    → IsBack first new.present → BeginsRounds limits.step_bound (steps_now - first.steps) new late → Turns limits steps.Going old late × FollowsAbove limits fewest old.present steps.Going late.present before after
turns_and_rounds limits fewest first old new late before after steps_now same now goes back begins =
    let here : IsBack old.present new.present = subst (λ (m : Moment). IsBack m new.present) same back in
    let rounds : BeginsRounds limits.step_bound (new.present.steps - old.present.steps) new late =
    subst (λ (n : ℕ). BeginsRounds limits.step_bound (n - old.present.steps) new late) now (subst (λ (m : Moment). BeginsRounds limits.step_bound (steps_now - m.steps) new late) same begins) in
    (rounds_turn limits fewest old new late before after goes here rounds, rounds_follow limits fewest old new late before after goes here rounds)
