use Rattle.std.proofs.Common.{ap, sym, ◌∙◌, ◌∷◌, List, refl, subst, ℕ, Result, Ok}
use Rattle.bootstore_state.specs.Moment.{RunningFrame}
use Rattle.bootstore_state.specs.Record.{Record, without_frame}
use Rattle.bootstore_state.specs.declared.frame.At.{At}
use Rattle.bootstore_state.specs.declared.store.StoreError.{StoreError}
use Rattle.rehearse_rules.specs.ByShell.{left_status}
use Rattle.rehearse_rules.specs.Execution.{End, set_status}
use Rattle.rehearse_machine.specs.declared.ask.Step.{Step}
use Rattle.rehearse_machine.specs.declared.ask.Step.TheVariants as steps
use Rattle.rehearse_machine.specs.MovesShown.{Keeps, under}
use Rattle.rehearse_machine.proofs.NextMoveLemmas.{is_top}
use Rattle.rehearse_machine.proofs.StoreMoves.{comes_after, comes_at, keeps_both, keeps_change}
use Rattle.rehearse_terms.specs.State.{State}
use Rattle.bootstore_state.specs.StoredState.{state_at}
use Rattle.rehearse_machine.specs.Places.{GoOn, StopOn, command_over, left, moved_to, over, run_left}
use Rattle.rehearse_machine.proofs.PlaceMoves.{leaves_at, goes_below, ends_at_none}
use Rattle.rehearse_machine.proofs.run_and_exit.leave_text.Goals as goal

pub returns-in-Command : goal.returns-in-Command
returns-in-Command g c =
    let shell = c.args.shell in
    let old = g.S.Store.record_of c.args.store.now in
    let now = g.S.Store.record_of c.frames.store in
    let new = g.S.Store.record_of c.finish.new.store in
    let f = c.in-Some.frame.now in
    let below = under now.present in
    let status = c.left_status-status.result in
    let at = c.over-at.ensures ∙ ap over c.at.ensures in
    let same = c.left_status-status.ensures ∙ ap left_status c.get_status.ensures in
    comes_after c.finish.result old now new (λ s. s) (left shell old.present.frames) c.frames.invariant.1 c.frames.invariant.2
    (comes_at c.finish.result now new (λ s. GoOn (moved_to c.over-at.result f ∷ below) (set_status status s)) (left shell old.present.frames)
    (λ w. let s = state_at now.present w in
    leaves_at shell now.present.frames old.present.frames f (GoOn (moved_to c.over-at.result f ∷ below) (set_status status s)) s c.in-Some.ensures c.frames.invariant.0
    (ap (λ (x : At). GoOn (moved_to x f ∷ below) (set_status status s)) at ∙ ap (λ (n : ℕ). GoOn (command_over f ∷ below) (set_status n s)) same ∙ sym (c.in-Command.ensures below (left shell below s) s)))
    (c.finish.ensures f (is_top now.present.frames f c.in-Some.ensures)))

pub returns-in-Turns : goal.returns-in-Turns
returns-in-Turns g c =
    let shell = c.args.shell in
    let old = g.S.Store.record_of c.args.store.now in
    let now = g.S.Store.record_of c.frames.store in
    let new = g.S.Store.record_of c.leave_with.new.store in
    let f = c.in-Some.frame.now in
    let below = under now.present in
    let status = c.left_status-status-in-Turns.result in
    let same = c.left_status-status-in-Turns.ensures ∙ ap left_status c.get_status-in-Turns.ensures in
    comes_after c.leave_with.result old now new (λ s. s) (left shell old.present.frames) c.frames.invariant.1 c.frames.invariant.2
    (comes_at c.leave_with.result now new (λ s. GoOn below (set_status status s)) (left shell old.present.frames)
    (λ w. let s = state_at now.present w in
    leaves_at shell now.present.frames old.present.frames f (GoOn below (set_status status s)) s c.in-Some.ensures c.frames.invariant.0
    (ap (λ (n : ℕ). GoOn below (set_status n s)) same ∙ sym (c.in-Turns.ensures below (left shell below s) s)))
    c.leave_with.ensures)

pub returns-in-Text : goal.returns-in-Text
returns-in-Text g c =
    let shell = c.args.shell in
    let old = g.S.Store.record_of c.args.store.now in
    let now = g.S.Store.record_of c.frames.store in
    let new = g.S.Store.record_of c.leave_run.new.store in
    let f = c.in-Some.frame.now in
    let below = under now.present in
    let going : Result Step StoreError = Ok steps.Going in
    comes_after going old now new (λ s. s) (left shell old.present.frames) c.frames.invariant.1 c.frames.invariant.2
    (comes_at going now new (run_left now.present.frames below) (left shell old.present.frames)
    (λ w. let s = state_at now.present w in
    leaves_at shell now.present.frames old.present.frames f (run_left now.present.frames below s) s c.in-Some.ensures c.frames.invariant.0
    (ap (λ (x : List RunningFrame). run_left x below s) (is_top now.present.frames f c.in-Some.ensures) ∙ sym (c.in-Text.ensures below (left shell below s) s)))
    c.in_ok-leave_run-in-Text.ensures)

pub returns-in-File : goal.returns-in-File
returns-in-File g c =
    let shell = c.args.shell in
    let old = g.S.Store.record_of c.args.store.now in
    let now = g.S.Store.record_of c.frames.store in
    let new = g.S.Store.record_of c.leave.new.store in
    let f = c.in-Some.frame.now in
    let below = under now.present in
    comes_after c.leave.result old now new (λ s. s) (left shell old.present.frames) c.frames.invariant.1 c.frames.invariant.2
    (comes_at c.leave.result now new (GoOn below) (left shell old.present.frames)
    (λ w. let s = state_at now.present w in
    leaves_at shell now.present.frames old.present.frames f (GoOn below s) s c.in-Some.ensures c.frames.invariant.0
    (sym (c.in-File.ensures below (left shell below s) s)))
    c.leave.ensures)

pub returns-in-Run : goal.returns-in-Run
returns-in-Run g c =
    let shell = c.args.shell in
    let old = (g.S.Store.record_of c.args.store.now).present in
    let now = (g.S.Store.record_of c.frames.store).present in
    let f = c.in-Some.frame.now in
    let below = under now in (
      λ w. let s = state_at now w in
          ap (λ (n : ℕ). StopOn (End n) s) c.get_status-in-Run.ensures
          ∙ leaves_at shell now.frames old.frames f (StopOn (End s.memory.status) s) s c.in-Some.ensures c.frames.invariant.0 (sym (c.in-Run.ensures below (left shell below s) s))
          ∙ ap (λ (t : State). left shell old.frames t) (c.frames.invariant.1 w),
      c.frames.invariant.2,
    )

pub frames-preserved : goal.frames-preserved
frames-preserved g c =
    let shell = c.args.shell in
    let old = g.S.Store.record_of c.args.store.now in
    let now = g.S.Store.record_of c.frames.store in
    let new = g.S.Store.record_of c.pop.new.self in
    let below = under now.present in
    let e = c.in_ok-pop-in-Outwards.ensures.ok in (
      λ s. ap (λ (r : Record). left shell r.present.frames s) e
          ∙ goes_below shell now.present.frames old.present.frames c.in-Some.frame.now c.in-Some.ensures c.frames.invariant.0 (λ t. sym (c.in-Outwards.ensures below (left shell below t) t)) s,
      λ w. ap (λ (r : Record). state_at r.present w) e ∙ c.frames.invariant.1 w,
      keeps_both old now new c.frames.invariant.2 (subst (λ (r : Record). Keeps now r) (sym e) (keeps_change without_frame now refl)),
    )

pub returns : goal.returns
returns g c =
    let shell = c.args.shell in
    let old = (g.S.Store.record_of c.args.store.now).present in
    let now = (g.S.Store.record_of c.frames.store).present in
    (λ w. ap (λ (n : ℕ). StopOn (End n) (state_at now w)) c.get_status-2.ensures ∙ (ends_at_none shell now.frames old.frames (state_at now w) c.in_default.ensures c.frames.invariant.0 ∙ ap (λ (s : State). left shell old.frames s) (c.frames.invariant.1 w)), c.frames.invariant.2)
