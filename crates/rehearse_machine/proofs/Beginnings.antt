-- Commands that begin a step and expand words.
use Rattle.std.proofs.Common.{ℕ, suc, Bool, true, false, List, ◌∷◌, Result, refl, sym, ap, subst, ◌∙◌, ◌≡◌, arith, nat_lt, nat_le, add-one}
use Rattle.hushlang.specs.Expansion as expansion
use Rattle.hushlang.specs.Expansion.{size, most_bytes}
use Rattle.bootstore_state.specs.declared.store.StoreError.{StoreError}
use Rattle.bootstore_state.specs.declared.frame.At.{At}
use Rattle.bootstore_state.specs.Moment.{RunningFrame}
use Rattle.bootstore_state.specs.Record.{Record, stepped, moved, changed, with_status}
use Rattle.rehearse_terms.specs.declared.shell.Shell.{Shell}
use Rattle.rehearse_rules.specs.ByShell.{status_of_for}
use Rattle.rehearse_terms.specs.Outcomes.{OutcomeWord}
use Rattle.rehearse_terms.specs.State.{Text, State}
use Rattle.rehearse_rules.specs.Parameters.{parameters_in}
use Rattle.bootstore_state.specs.StoredState.{state_at}
use Rattle.rehearse_rules.specs.Execution.{Limits, Size, CutSteps, for_begun}
use Rattle.rehearse_rules.specs.declared.halt.Halt.TheVariants as halts
use Rattle.rehearse_machine.specs.declared.ask.Step.{Step}
use Rattle.rehearse_machine.specs.declared.ask.Step.TheVariants as steps
use Rattle.rehearse_machine.specs.Places.{PlaceNext, StopOn, place, moved_to, behind, place_counted, place_fitting}
use Rattle.rehearse_machine.specs.Variables.{parameters_at}
use Rattle.rehearse_machine.specs.MovesShown.{under, IsTop, Keeps, Does, Comes}
use Rattle.rehearse_machine.proofs.ParameterLemmas.{same_parameters}
use Rattle.rehearse_machine.proofs.StoreMoves.{comes_at, comes_after, keeps_both, keeps_change, top_moved}

pub chosen : (b : Bool) (x y : PlaceNext) → b ≡ true → x ≡ elim b [ true ↦ x | false ↦ y ]
chosen true x y e = refl
chosen false x y e = absurd (let f = e in cc)

pub passed : (b : Bool) (x y : PlaceNext) → b ≡ false → y ≡ elim b [ true ↦ x | false ↦ y ]
passed true x y e = absurd (let f = e in cc)
passed false x y e = refl

abbrev pub counted_state : State → State
counted_state s = record s { steps = suc s.steps }

pub stepped_state : (old mid : Record) (w : OutcomeWord) → mid ≡ stepped old → state_at mid.present w ≡ counted_state (state_at old.present w)
stepped_state old mid w e = ap (λ (r : Record). state_at r.present w) e ∙ ap (λ (n : ℕ). record (state_at old.present w) { steps = n }) (add-one old.present.steps)

pub stepped_keeps : (old mid : Record) → mid ≡ stepped old → Keeps old mid
stepped_keeps old mid e = subst (Keeps old) (sym e) (record { marked = refl; begun = omega arith })

pub behind_top : (f : RunningFrame) (old : Record) (at : At) → IsTop f old.present → at ≡ place f.place.list (suc f.place.command) 0 0 → moved at old.present.frames ≡ behind f ∷ under old.present
behind_top f old at t e = top_moved old.present.frames (under old.present) f at t ∙ ap (λ (x : At). moved_to x f ∷ under old.present) e

module _ (limits : Limits) (old mid : Record) (expand : expansion.Parameters → List Text) (n : List Text → State → PlaceNext) (below : nat_lt old.present.steps limits.step_bound ≡ true) (begun : mid ≡ stepped old) where
  abbrev expanded : OutcomeWord → List Text
  expanded w = expand (parameters_in (state_at old.present w).memory)

  same_fields : (w : OutcomeWord) → expand (parameters_at mid.present) ≡ expanded w
  same_fields w = ap expand (same_parameters mid.present w ∙ ap (λ (s : State). parameters_in s.memory) (stepped_state old mid w begun))

  abbrev whole : State → PlaceNext
  whole s = place_counted limits (λ t. place_fitting (expand (parameters_in t.memory)) n t) s

  counted_is : (w : OutcomeWord) → place_fitting (expanded w) n (counted_state (state_at old.present w)) ≡ whole (state_at old.present w)
  counted_is w = chosen (nat_lt old.present.steps limits.step_bound) (place_fitting (expanded w) n (counted_state (state_at old.present w))) (StopOn CutSteps (state_at old.present w)) below

  pub too_long : nat_le (size (expand (parameters_at mid.present))) most_bytes ≡ false → Does (steps.Ends halts.Size) old mid whole
  too_long h = (
    λ w. ap (StopOn Size) (stepped_state old mid w begun)
        ∙ passed (nat_le (size (expanded w)) most_bytes) (n (expanded w) (counted_state (state_at old.present w))) (StopOn Size (counted_state (state_at old.present w))) (ap (λ (fs : List Text). nat_le (size fs) most_bytes) (sym (same_fields w)) ∙ h)
        ∙ counted_is w,
    stepped_keeps old mid begun,
  )

  -- what follows, with the fields that were found
  pub goes_with : (found : List Text) → found ≡ expand (parameters_at mid.present) → nat_le (size (expand (parameters_at mid.present))) most_bytes ≡ true → (w : OutcomeWord) → n found (counted_state (state_at old.present w)) ≡ whole (state_at old.present w)
  goes_with found e h w =
      ap (λ (fs : List Text). n fs (counted_state (state_at old.present w))) (e ∙ same_fields w)
      ∙ chosen (nat_le (size (expanded w)) most_bytes) (n (expanded w) (counted_state (state_at old.present w))) (StopOn Size (counted_state (state_at old.present w))) (ap (λ (fs : List Text). nat_le (size fs) most_bytes) (sym (same_fields w)) ∙ h)
      ∙ counted_is w

  pub comes_with : (r : Result Step StoreError) (late new : Record) (found : List Text) (m : State → PlaceNext) → found ≡ expand (parameters_at mid.present) → nat_le (size (expand (parameters_at mid.present))) most_bytes ≡ true → ((w : OutcomeWord) → state_at late.present w ≡ state_at mid.present w) → Keeps mid late → ((s : State) → m s ≡ n found s) → Comes r late new m → Comes r old new whole
  comes_with r late new found m e h same keeps says comes =
      comes_at r old new (λ s. m (counted_state s)) whole (λ w. says (counted_state (state_at old.present w)) ∙ goes_with found e h w)
      (comes_after r old late new counted_state m (λ w. same w ∙ stepped_state old mid w begun) (keeps_both old mid late (stepped_keeps old mid begun) keeps) comes)

-- ---- a step that begins, and what follows it

pub counted_begins : (limits : Limits) (r : Result Step StoreError) (n : List RunningFrame → State → PlaceNext) (old mid new : Record) → nat_lt old.present.steps limits.step_bound ≡ true → mid ≡ stepped old → Comes r mid new (n (under mid.present)) → Comes r old new (place_counted limits (n (under old.present)))
counted_begins limits r n old mid new below e comes =
    comes_at r old new (λ s. n (under mid.present) (counted_state s)) (place_counted limits (n (under old.present)))
    (λ w. ap (λ (x : Record). n (under x.present) (counted_state (state_at old.present w))) e
    ∙ chosen (nat_lt old.present.steps limits.step_bound) (n (under old.present) (counted_state (state_at old.present w))) (StopOn CutSteps (state_at old.present w)) below)
    (comes_after r old mid new counted_state (n (under mid.present)) (λ w. stepped_state old mid w e) (stepped_keeps old mid e) comes)

-- a `for` sets its status, and then finds its words
pub for_status_begins : (shell : Shell) (r : Result Step StoreError) (n : List RunningFrame → State → PlaceNext) (old mid new : Record) → mid ≡ changed (with_status (status_of_for shell old.present.status)) old → Comes r mid new (n (under mid.present)) → Comes r old new (λ s. n (under old.present) (for_begun shell s))
for_status_begins shell r n old mid new e comes =
    comes_at r old new (λ s. n (under mid.present) (for_begun shell s)) (λ s. n (under old.present) (for_begun shell s))
    (λ w. ap (λ (x : Record). n (under x.present) (for_begun shell (state_at old.present w))) e)
    (comes_after r old mid new (for_begun shell) (n (under mid.present)) (λ w. ap (λ (x : Record). state_at x.present w) e) (subst (Keeps old) (sym e) (keeps_change (with_status (status_of_for shell old.present.status)) old refl)) comes)

module _ (old : Record) (expand : expansion.Parameters → List Text) (n : List Text → State → PlaceNext) where
  abbrev now : OutcomeWord → List Text
  now w = expand (parameters_in (state_at old.present w).memory)

  size_now : (b : Bool) → nat_le (size (expand (parameters_at old.present))) most_bytes ≡ b → (w : OutcomeWord) → nat_le (size (now w)) most_bytes ≡ b
  size_now b h w = ap (λ (p : expansion.Parameters). nat_le (size (expand p)) most_bytes) (sym (same_parameters old.present w)) ∙ h

  pub words_too_long : nat_le (size (expand (parameters_at old.present))) most_bytes ≡ false → Does (steps.Ends halts.Size) old old (λ s. place_fitting (expand (parameters_in s.memory)) n s)
  words_too_long h = (λ w. passed (nat_le (size (now w)) most_bytes) (n (now w) (state_at old.present w)) (StopOn Size (state_at old.present w)) (size_now false h w), record { marked = refl; begun = refl })

  pub words_found : (r : Result Step StoreError) (new : Record) (found : List Text) → found ≡ expand (parameters_at old.present) → nat_le (size (expand (parameters_at old.present))) most_bytes ≡ true → Comes r old new (n found) → Comes r old new (λ s. place_fitting (expand (parameters_in s.memory)) n s)
  words_found r new found e h comes =
      comes_at r old new (n found) (λ s. place_fitting (expand (parameters_in s.memory)) n s)
      (λ w. ap (λ (fs : List Text). n fs (state_at old.present w)) (e ∙ ap expand (same_parameters old.present w))
      ∙ chosen (nat_le (size (now w)) most_bytes) (n (now w) (state_at old.present w)) (StopOn Size (state_at old.present w)) (size_now true h w))
      comes
