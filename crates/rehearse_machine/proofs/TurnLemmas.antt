-- Turns of the machine over a store.
use Rattle.std.proofs.Common.{ℕ, [], refl, sym, ap, subst, ◌∙◌, ◌≡◌, inl, inr, ◌<◌, ◌≤◌, arith}
use Rattle.std.specs.FinMap.{entries}
use Rattle.bootstore_state.specs.Moment.{Moment}
use Rattle.bootstore_state.specs.Record.{Record}
use Rattle.rehearse_terms.specs.Outcomes.{OutcomeWord}
use Rattle.rehearse_terms.specs.State.{State}
use Rattle.bootstore_state.specs.StoredState.{state_at}
use Rattle.rehearse_rules.specs.Execution.{Limits, Normal}
use Rattle.rehearse_machine.specs.declared.ask.Step.{Step}
use Rattle.rehearse_machine.specs.declared.ask.Step.TheVariants as steps
use Rattle.rehearse_machine.specs.Frames.{Next, Go, Ask, Stop, move}
use Rattle.rehearse_machine.specs.Places.{next_of, frames_of, place_move}
use Rattle.rehearse_machine.specs.Meaning.{continue, comes_to, IsProperNext}
use Rattle.rehearse_machine.specs.MoveCounts.{weight}
use Rattle.rehearse_machine.specs.MovesShown.{next_shown, Does, Keeps}
use Rattle.rehearse_machine.specs.AskingCommand.{AsksAgain}
use Rattle.rehearse_machine.proofs.AskingLemmas.{asks_again}
use Rattle.rehearse_machine.specs.Turning.{to_come, step_comes, IsSound, IsSoundStep, IsFurtherOn, IsWithin, moves_left, Turns, Waits, Drives, Comes_on}
use Rattle.rehearse_machine.proofs.PlaceMoves.{place_move-is}
use Rattle.rehearse_machine.proofs.MoveMeaning.{move-is}
use Rattle.rehearse_machine.proofs.ProperMoves.{move-proper}
use Rattle.rehearse_machine.proofs.ProgressLemmas.{Progress, IsFurther, move_progress}
use Rattle.rehearse_machine.specs.EndedTexts.{with_fewer, DropsEnded}
use Rattle.rehearse_machine.proofs.StoreMoves.{keeps_change, keeps_both}

module _ (limits : Limits) (step : Step) (mid new : Record) (does : Does step mid new (place_move limits mid.present.frames)) (sound : IsSound mid.present) where
  moved : (w : OutcomeWord) → next_of (next_shown step new.present w) ≡ move limits (frames_of mid.present.frames) (state_at mid.present w)
  moved w = ap next_of (does.0 w) ∙ place_move-is limits mid.present.frames (state_at mid.present w)

  pub step_means : (w : OutcomeWord) → step_comes limits step new.present w ≡ to_come limits mid.present w
  step_means w = ap (comes_to limits w) (moved w) ∙ move-is limits w (frames_of mid.present.frames) sound (state_at mid.present w)

  pub step_sound : IsSoundStep step new.present
  step_sound = subst IsProperNext (sym (moved [])) (move-proper limits (frames_of mid.present.frames) (state_at mid.present []) sound)

  pub step_progress : Progress limits (state_at mid.present []) (moves_left limits mid.present) (next_of (next_shown step new.present []))
  step_progress = subst (Progress limits (state_at mid.present []) (moves_left limits mid.present)) (sym (moved [])) (move_progress limits (frames_of mid.present.frames) (state_at mid.present []) sound)

further_on : (limits : Limits) (s : State) (n : ℕ) (next : Next) → s.steps ≡ n → IsFurther limits s next → IsFurtherOn limits.step_bound n next
further_on limits s n (Go fs t) e h = let a = h.0 in (omega arith, h.1)
further_on limits s n (Ask r fs t) e h = let a = h.0 in (omega arith, h.1)
further_on limits s n (Stop ending t) e h = let a = h.0 in (omega arith, λ l. h.1 (omega arith))

-- a move that ends a turn
ends_turn : (limits : Limits) (step : Step) (m : Moment) (s : State) (n left : ℕ) → s.steps ≡ n → Progress limits s left (next_of (next_shown step m [])) → (step ≡ steps.Going → m.steps ≡ n → ⊥) → IsFurtherOn limits.step_bound n (next_of (next_shown step m []))
ends_turn limits step m s n left e (inl h) other = further_on limits s n (next_of (next_shown step m [])) e h
ends_turn limits steps.Going m s n left e (inr h) other = let a = h.0 in absurd (other refl (a ∙ e))
ends_turn limits (steps.Asks ask) m s n left e (inr h) other = absurd h
ends_turn limits (steps.Ends ending) m s n left e (inr h) other = let a : m.steps ≡ s.steps = h in (omega arith, λ l. omega arith)

module _ (limits : Limits) (step : Step) (old mid new : Record) (waits : Waits limits old mid) (does : Does step mid new (place_move limits mid.present.frames)) where
  pub turned : (step ≡ steps.Going → new.present.steps ≡ old.present.steps → ⊥) → Turns limits step old new
  turned other = record {
    means = λ w. step_means limits step mid new does waits.sound w ∙ waits.means w;
    sound = step_sound limits step mid new does waits.sound;
    kept = keeps_both old mid new waits.kept does.1;
    again = λ w. subst (AsksAgain limits) (sym (does.0 w)) (asks_again limits mid.present.frames (state_at mid.present w));
    further = ends_turn limits step new.present (state_at mid.present []) old.present.steps (moves_left limits mid.present) waits.steps (step_progress limits step mid new does waits.sound) other;
  }

  pub waited : step ≡ steps.Going → new.present.steps ≡ old.present.steps → Waits limits old new
  waited e k = record {
    means = λ w. sym (ap (λ (x : Step). step_comes limits x new.present w) e) ∙ (step_means limits step mid new does waits.sound w ∙ waits.means w);
    sound = subst (λ (x : Step). IsSoundStep x new.present) e (step_sound limits step mid new does waits.sound);
    kept = keeps_both old mid new waits.kept does.1;
    steps = k;
  }

  fewer_of : (s : State) (left : ℕ) → s.memory.environment ≡ entries mid.present.environment → left ≡ moves_left limits mid.present → s.steps ≡ new.present.steps → Progress limits s left (next_of (next_shown steps.Going new.present [])) → moves_left limits new.present < left
  fewer_of s left v l k (inl h) = let a = h.0 in absurd (omega arith)
  fewer_of s left v l k (inr h) =
      let same : entries new.present.environment ≡ s.memory.environment = h.1 in
      subst (λ x. weight limits x (frames_of new.present.frames) < left) (sym same) h.2

  pub fewer : step ≡ steps.Going → new.present.steps ≡ old.present.steps → moves_left limits new.present < moves_left limits mid.present
  fewer e k = fewer_of (state_at mid.present []) (moves_left limits mid.present) refl refl (waits.steps ∙ sym k) (subst (λ (x : Step). Progress limits (state_at mid.present []) (moves_left limits mid.present) (next_of (next_shown x new.present []))) e (step_progress limits step mid new does waits.sound))

pub waits_first : (limits : Limits) (old : Record) → IsSound old.present → Waits limits old old
waits_first limits old s = record { means = λ w. refl; sound = s; kept = record { marked = refl; begun = omega arith }; steps = refl }

is_within : (bound n : ℕ) (next : Next) → n ≤ bound → IsFurtherOn bound n next → IsWithin bound next
is_within bound n (Go fs t) l h = h.1
is_within bound n (Ask r fs t) l h = h.1
is_within bound n (Stop ending t) l h = h.1 l

no_fewer : (bound n : ℕ) (step : Step) (m : Moment) → IsFurtherOn bound n (next_of (next_shown step m [])) → n ≤ m.steps
no_fewer bound n steps.Going m h = let a = h.0 in omega arith
no_fewer bound n (steps.Asks ask) m h = let a = h.0 in omega arith
no_fewer bound n (steps.Ends halt) m h = h.0

module _ (limits : Limits) (step : Step) (old mid new : Record) (on : Comes_on limits old mid) (turns : Turns limits step mid new) where
  pub driven : (step ≡ steps.Going → ⊥) → Drives limits step old new
  driven other = record { stopped = other; within = is_within limits.step_bound mid.present.steps (next_of (next_shown step new.present [])) on.within turns.further; again = turns.again; grows = (let a = no_fewer limits.step_bound mid.present.steps step new.present turns.further in let b = on.grows in omega arith); means = λ w. turns.means w ∙ on.means w; sound = turns.sound; kept = keeps_both old mid new on.kept turns.kept }

  within : (x : Step) → x ≡ steps.Going → IsFurtherOn limits.step_bound mid.present.steps (next_of (next_shown x new.present [])) → (mid.present.steps < new.present.steps) × (new.present.steps ≤ limits.step_bound)
  within steps.Going e h = h
  within (steps.Asks ask) e h = absurd (let f = e in cc)
  within (steps.Ends ending) e h = absurd (let f = e in cc)

  pub further_steps : step ≡ steps.Going → (mid.present.steps < new.present.steps) × (new.present.steps ≤ limits.step_bound)
  further_steps e = within step e turns.further

  pub came_on : step ≡ steps.Going → Comes_on limits old new
  came_on e = record {
    means = λ w. sym (ap (λ (x : Step). step_comes limits x new.present w) e) ∙ (turns.means w ∙ on.means w);
    sound = subst (λ (x : Step). IsSoundStep x new.present) e turns.sound;
    kept = keeps_both old mid new on.kept turns.kept;
    within = (further_steps e).1;
    grows = let a = (further_steps e).0 in let b = on.grows in omega arith;
  }

pub on_first : (limits : Limits) (old : Record) → IsSound old.present → old.present.steps ≤ limits.step_bound → Comes_on limits old old
on_first limits old s l = record { means = λ w. refl; sound = s; kept = record { marked = refl; begun = omega arith }; within = l; grows = omega arith }

-- ended texts that are dropped
module _ (mid new : Record) (drops : DropsEnded mid new) where
  pub same_steps : new.present.steps ≡ mid.present.steps
  same_steps = ap (λ (r : Record). r.present.steps) drops.frames

  pub same_state : (w : OutcomeWord) → state_at new.present w ≡ state_at mid.present w
  same_state w = ap (λ (r : Record). state_at r.present w) drops.frames

  dropped_keeps : Keeps mid new
  dropped_keeps = subst (Keeps mid) (sym drops.frames) (keeps_change with_fewer mid refl)

  dropped_means : (limits : Limits) (w : OutcomeWord) → to_come limits new.present w ≡ to_come limits mid.present w
  dropped_means limits w =
      ap (λ (s : State). continue limits (frames_of new.present.frames) (Normal s)) (same_state w)
      ∙ drops.alike limits (Normal (state_at mid.present w))

pub on_lighter : (limits : Limits) (old mid new : Record) → Comes_on limits old mid → DropsEnded mid new → Comes_on limits old new
on_lighter limits old mid new on drops =
    let steps = same_steps mid new drops in
    let within = on.within in
    let grows = on.grows in
    record {
      means = λ w. dropped_means mid new drops limits w ∙ on.means w;
      sound = drops.sound on.sound;
      kept = keeps_both old mid new on.kept (dropped_keeps mid new drops);
      within = omega arith;
      grows = omega arith;
    }
