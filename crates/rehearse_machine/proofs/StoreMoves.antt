-- Moves of a store, one after another.
use Rattle.std.proofs.Common.{ℕ, List, [], ◌∷◌, Result, Ok, Err, refl, sym, ap, subst, ◌∙◌, ◌≡◌, arith}
use Rattle.bootstore_state.specs.declared.frame.At.{At}
use Rattle.bootstore_state.specs.declared.store.StoreError.{StoreError}
use Rattle.bootstore_state.specs.Moment.{Moment, RunningFrame}
use Rattle.bootstore_state.specs.Record.{Record, changed, with_place, with_frame, without_frame, with_status, moved}
use Rattle.rehearse_terms.specs.Outcomes.{OutcomeWord}
use Rattle.rehearse_terms.specs.State.{State}
use Rattle.bootstore_state.specs.StoredState.{state_at}
use Rattle.rehearse_rules.specs.Execution.{set_status}
use Rattle.rehearse_machine.specs.Places.{PlaceNext, GoOn, moved_to}
use Rattle.rehearse_machine.specs.MovesShown.{under, IsTop, Keeps, Does, Comes}
use Rattle.rehearse_machine.specs.declared.ask.Step.{Step}
use Rattle.rehearse_machine.specs.declared.ask.Step.TheVariants as steps

pub keeps_change : (change : Moment → Moment) (old : Record) → (change old.present).steps ≡ old.present.steps → Keeps old (changed change old)
keeps_change change old e = record { marked = refl; begun = omega arith }

pub keeps_both : (old mid new : Record) → Keeps old mid → Keeps mid new → Keeps old new
keeps_both old mid new h k = record { marked = k.marked ∙ h.marked; begun = let a = h.begun in let b = k.begun in omega arith }

-- the same move, in other words
pub comes_as : (r : Result Step StoreError) (old new : Record) (f g : State → PlaceNext) → ((s : State) → f s ≡ g s) → Comes r old new f → Comes r old new g
comes_as (Ok step) old new f g e h = (λ w. h.0 w ∙ e (state_at old.present w), h.1)
comes_as (Err x) old new f g e h = tt

-- a move after a change of the state
pub comes_after : (r : Result Step StoreError) (old mid new : Record) (change : State → State) (f : State → PlaceNext) → ((w : OutcomeWord) → state_at mid.present w ≡ change (state_at old.present w)) → Keeps old mid → Comes r mid new f → Comes r old new (λ s. f (change s))
comes_after (Ok step) old mid new change f e k h = (λ w. h.0 w ∙ ap f (e w), keeps_both old mid new k h.1)
comes_after (Err x) old mid new change f e k h = tt

-- the moves of frames
pub top_moved : (frames rest : List RunningFrame) (f : RunningFrame) (at : At) → frames ≡ f ∷ rest → moved at frames ≡ moved_to at f ∷ rest
top_moved [] rest f at e = absurd (let g = e in cc)
top_moved (x ∷ xs) rest f at e = let g : x ≡ f = (let h = e in cc) in let k : xs ≡ rest = (let h = e in cc) in ap (λ (y : RunningFrame). moved_to at y ∷ xs) g ∙ ap (λ (y : List RunningFrame). moved_to at f ∷ y) k

pub advanced_does : (old new : Record) (f : RunningFrame) (at : At) → IsTop f old.present → new ≡ changed (with_place at) old → Does steps.Going old new (GoOn (moved_to at f ∷ under old.present))
advanced_does old new f at t e =
    subst (λ (x : Record). Does steps.Going old x (GoOn (moved_to at f ∷ under old.present))) (sym e)
    (λ w. ap (λ (x : List RunningFrame). GoOn x (state_at old.present w)) (top_moved old.present.frames (under old.present) f at t), keeps_change (with_place at) old refl)

pub popped_does : (old new : Record) → new ≡ changed without_frame old → Does steps.Going old new (GoOn (under old.present))
popped_does old new e = subst (λ (x : Record). Does steps.Going old x (GoOn (under old.present))) (sym e) (λ w. refl, keeps_change without_frame old refl)

pub left_does : (old mid new : Record) (status : ℕ) → mid ≡ changed without_frame old → new ≡ changed (with_status status) mid → Does steps.Going old new (λ s. GoOn (under old.present) (set_status status s))
left_does old mid new status e d =
    subst (λ (x : Record). Does steps.Going old x (λ s. GoOn (under old.present) (set_status status s))) (sym (d ∙ ap (changed (with_status status)) e))
    (λ w. refl, record { marked = refl; begun = omega arith })

pub entered_does : (old mid new : Record) (f child : RunningFrame) (at : At) → IsTop f old.present → mid ≡ changed (with_place at) old → new ≡ changed (with_frame child) mid → Does steps.Going old new (GoOn (child ∷ moved_to at f ∷ under old.present))
entered_does old mid new f child at t e d =
    subst (λ (x : Record). Does steps.Going old x (GoOn (child ∷ moved_to at f ∷ under old.present))) (sym (d ∙ ap (changed (with_frame child)) e))
    (λ w. ap (λ (x : List RunningFrame). GoOn (child ∷ x) (state_at old.present w)) (top_moved old.present.frames (under old.present) f at t), record { marked = refl; begun = omega arith })

pub finished_does : (old mid new : Record) (f : RunningFrame) (at : At) (status : ℕ) → IsTop f old.present → mid ≡ changed (with_place at) old → new ≡ changed (with_status status) mid → Does steps.Going old new (λ s. GoOn (moved_to at f ∷ under old.present) (set_status status s))
finished_does old mid new f at status t e d =
    subst (λ (x : Record). Does steps.Going old x (λ s. GoOn (moved_to at f ∷ under old.present) (set_status status s))) (sym (d ∙ ap (changed (with_status status)) e))
    (λ w. ap (λ (x : List RunningFrame). GoOn x (set_status status (state_at old.present w))) (top_moved old.present.frames (under old.present) f at t), record { marked = refl; begun = omega arith })

-- the same move, in other words at this state
pub comes_at : (r : Result Step StoreError) (old new : Record) (f g : State → PlaceNext) → ((w : OutcomeWord) → f (state_at old.present w) ≡ g (state_at old.present w)) → Comes r old new f → Comes r old new g
comes_at (Ok step) old new f g e h = (λ w. h.0 w ∙ e w, h.1)
comes_at (Err x) old new f g e h = tt

-- a frame that is pushed after the status was set
pub skipped_does : (r : Result Step StoreError) (old mid new : Record) (f child : RunningFrame) (at : At) (status : ℕ) → mid ≡ changed (with_status status) old → Comes r mid new (GoOn (child ∷ moved_to at f ∷ under mid.present)) → Comes r old new (λ s. GoOn (child ∷ moved_to at f ∷ under old.present) (set_status status s))
skipped_does r old mid new f child at status e comes =
    comes_at r old new (λ s. GoOn (child ∷ moved_to at f ∷ under mid.present) (set_status status s)) (λ s. GoOn (child ∷ moved_to at f ∷ under old.present) (set_status status s))
    (λ w. ap (λ (x : Record). GoOn (child ∷ moved_to at f ∷ under x.present) (set_status status (state_at old.present w))) e)
    (comes_after r old mid new (set_status status) (GoOn (child ∷ moved_to at f ∷ under mid.present)) (λ w. ap (λ (x : Record). state_at x.present w) e) (subst (Keeps old) (sym e) (keeps_change (with_status status) old refl)) comes)
