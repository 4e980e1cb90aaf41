-- Assignments, one after another.
use Rattle.std.proofs.Common.{ℕ, suc, Bool, true, false, cond, List, ◌∷◌, ◌+◌, map, drop, length, get_or, Result, Ok, Err, refl, sym, ap, subst, ◌∙◌, ◌≡◌, ◌<◌, ◌≤◌, nat_lt, nat_le}
use Rattle.std.specs.Prelude.{Vec}
use Rattle.std.proofs.Math.ListN.{drop_of_length-le}
use Rattle.std.specs.declared.alloc.Global.{Global}
use Rattle.hushlang.specs.declared.tree.Word.{Word as WordCode}
use Rattle.hushlang.specs.Tree as tree
use Rattle.hushlang.specs.TreesShown as view
use Rattle.hushlang.specs.Expansion as expansion
use Rattle.hushlang.specs.Expansion.{most_bytes}
use Rattle.hushlang.proofs.ExpandLemmas.{drop_next}
use Rattle.bootstore_state.specs.declared.store.StoreError.{StoreError}
use Rattle.bootstore_state.specs.declared.frame.At.{At}
use Rattle.bootstore_state.specs.Moment.{RunningFrame}
use Rattle.bootstore_state.specs.Record.{Record, changed, stepped, with_local, without_first}
use Rattle.rehearse_terms.specs.Outcomes.{OutcomeWord}
use Rattle.rehearse_terms.specs.State.{Text, State}
use Rattle.rehearse_rules.specs.ByShell.{assigned_in, is_refused}
use Rattle.rehearse_terms.specs.State.{with_value}
use Rattle.rehearse_terms.specs.declared.shell.Shell.{Shell}
use Rattle.rehearse_rules.specs.Parameters.{parameters_in}
use Rattle.bootstore_state.specs.StoredState.{state_at}
use Rattle.rehearse_rules.specs.Execution.{Limits, Size, CutSteps, assigned, assign_local, set_status}
use Rattle.rehearse_rules.specs.declared.halt.Halt.TheVariants as halts
use Rattle.rehearse_machine.specs.declared.ask.Step.{Step}
use Rattle.rehearse_machine.specs.declared.ask.Step.TheVariants as steps
use Rattle.rehearse_machine.specs.Places.{PlaceNext, GoOn, StopOn, place, moved_to, behind, place_assign, place_command}
use Rattle.rehearse_machine.specs.Variables.{parameters_at}
use Rattle.rehearse_machine.specs.MovesShown.{under, Changes, Keeps, Does, Comes}
use Rattle.rehearse_machine.proofs.ParameterLemmas.{same_parameters}
use Rattle.rehearse_machine.proofs.StoreMoves.{comes_at, comes_after, keeps_both, keeps_change}
use Rattle.rehearse_machine.proofs.WordLemmas.{local_state}
use Rattle.rehearse_machine.proofs.Beginnings.{chosen, passed, counted_state, stepped_state, stepped_keeps}

-- a variable is assigned, or stays as it is
abbrev local_if : Bool → Text → Text → State → State
local_if refused name value s = record s { memory = record s.memory { locals = cond refused s.memory.locals (with_value s.memory.locals name value) } }

pub variable_stays : (shell : Shell) (name value : Text) (old : Record) → is_refused shell value ≡ true → Changes old old (assigned shell name value)
variable_stays shell name value old e =
    (λ w. ap (λ (b : Bool). local_if b name value (state_at old.present w)) (sym e), refl, record { marked = refl; begun = refl })

pub variable_is_set : (shell : Shell) (name value : Text) (old new : Record) → is_refused shell value ≡ false → new ≡ changed (with_local name value) old → Changes old new (assigned shell name value)
variable_is_set shell name value old new e k = (
  λ w. local_state old new name value w k ∙ ap (λ (b : Bool). local_if b name value (state_at old.present w)) (sym e),
  ap (λ (r : Record). r.present.frames) k,
  subst (Keeps old) (sym k) (keeps_change (with_local name value) old refl),
)

abbrev pub Value : Type 0
Value = Vec ℕ Global × WordCode

-- the first i values are assigned
pub record AreAssigned (shell : Shell) (values : List Value) (i : ℕ) (ps : List RunningFrame) (old now : Record) : Type 0 where
  pub same : (w : OutcomeWord) → place_assign shell (map view.value (drop i values)) ps (state_at now.present w) ≡ place_assign shell (map view.value values) ps (state_at old.present w)
  pub frames : now.present.frames ≡ old.present.frames
  pub kept : Keeps old now

pub none_assigned : (shell : Shell) (values : List Value) (ps : List RunningFrame) (old : Record) → AreAssigned shell values 0 ps old old
none_assigned shell values ps old = record { same = λ w. refl; frames = refl; kept = record { marked = refl; begun = refl } }

module _ (shell : Shell) (values : List Value) (i : ℕ) (ps : List RunningFrame) (old now : Record) (d : Value) (within : i < length values) (is : d ≡ get_or values i d) (before : AreAssigned shell values i ps old now) where
  abbrev value_at : State → Text
  value_at s = assigned_in shell (parameters_in s.memory) (view.word d.1)

  same_value : (w : OutcomeWord) → assigned_in shell (parameters_at now.present) (view.word d.1) ≡ value_at (state_at now.present w)
  same_value w = ap (λ (x : expansion.Parameters). assigned_in shell x (view.word d.1)) (same_parameters now.present w)

  abbrev here : State → PlaceNext
  here s = elim (nat_le (length (value_at s)) most_bytes) [ true ↦ place_assign shell (map view.value (drop (i + 1) values)) ps (assign_local shell d.0.items (value_at s) s) | false ↦ StopOn Size s ]

  opened : (s : State) → place_assign shell (map view.value (drop i values)) ps s ≡ here s
  opened s = ap (λ (x : List Value). place_assign shell (map view.value x) ps s) (drop_next values i d within is)

  pub next_assigned : (new : Record) (name found : Text) → name ≡ d.0.items → found ≡ assigned_in shell (parameters_at now.present) (view.word d.1) → nat_le (length (assigned_in shell (parameters_at now.present) (view.word d.1))) most_bytes ≡ true → Changes now new (assigned shell name found) → AreAssigned shell values (i + 1) ps old new
  next_assigned new name found n f fits a = record {
    same = λ w.
        ap (place_assign shell (map view.value (drop (i + 1) values)) ps) (a.0 w)
        ∙ ap (λ (x : Text). place_assign shell (map view.value (drop (i + 1) values)) ps (assign_local shell x found (state_at now.present w))) n
        ∙ ap (λ (x : Text). place_assign shell (map view.value (drop (i + 1) values)) ps (assign_local shell d.0.items x (state_at now.present w))) (f ∙ same_value w)
        ∙ chosen (nat_le (length (value_at (state_at now.present w))) most_bytes) (place_assign shell (map view.value (drop (i + 1) values)) ps (assign_local shell d.0.items (value_at (state_at now.present w)) (state_at now.present w))) (StopOn Size (state_at now.present w)) (ap (λ (x : Text). nat_le (length x) most_bytes) (sym (same_value w)) ∙ fits)
        ∙ sym (opened (state_at now.present w))
        ∙ before.same w;
    frames = a.1 ∙ before.frames;
    kept = keeps_both old now new before.kept a.2;
  }

  pub value_too_long : nat_le (length (assigned_in shell (parameters_at now.present) (view.word d.1))) most_bytes ≡ false → Does (steps.Ends halts.Size) old now (place_assign shell (map view.value values) ps)
  value_too_long h = (
    λ w. passed (nat_le (length (value_at (state_at now.present w))) most_bytes) (place_assign shell (map view.value (drop (i + 1) values)) ps (assign_local shell d.0.items (value_at (state_at now.present w)) (state_at now.present w))) (StopOn Size (state_at now.present w)) (ap (λ (x : Text). nat_le (length x) most_bytes) (sym (same_value w)) ∙ h)
        ∙ sym (opened (state_at now.present w))
        ∙ before.same w,
    before.kept,
  )

-- a move from where earlier moves have led, which is the same as one from the start
comes_before : (r : Result Step StoreError) (old mid new : Record) (f g : State → PlaceNext) → ((w : OutcomeWord) → f (state_at mid.present w) ≡ g (state_at old.present w)) → Keeps old mid → Comes r mid new f → Comes r old new g
comes_before (Ok step) old mid new f g e k h = (λ w. h.0 w ∙ e w, keeps_both old mid new k h.1)
comes_before (Err x) old mid new f g e k h = tt

pub all_assigned : (shell : Shell) (r : Result Step StoreError) (values : List Value) (i : ℕ) (f : RunningFrame) (old now new : Record) (at : At) → length values ≤ i → AreAssigned shell values i (behind f ∷ under old.present) old now → at ≡ place f.place.list (suc f.place.command) 0 0 → Comes r now new (λ s. GoOn (moved_to at f ∷ under now.present) (set_status 0 s)) → Comes r old new (place_assign shell (map view.value values) (behind f ∷ under old.present))
all_assigned shell r values i f old now new at past before place_is comes =
    comes_before r old now new (λ s. GoOn (moved_to at f ∷ under now.present) (set_status 0 s)) (place_assign shell (map view.value values) (behind f ∷ under old.present))
    (λ w. ap (λ (x : At). GoOn (moved_to x f ∷ under now.present) (set_status 0 (state_at now.present w))) place_is
    ∙ ap (λ (x : List RunningFrame). GoOn (behind f ∷ without_first x) (set_status 0 (state_at now.present w))) before.frames
    ∙ sym (ap (λ (x : List Value). place_assign shell (map view.value x) (behind f ∷ under old.present) (state_at now.present w)) (drop_of_length-le values past))
    ∙ before.same w)
    before.kept comes

pub assign_begins : (limits : Limits) (r : Result Step StoreError) (values : List Value) (f : RunningFrame) (old mid new : Record) → nat_lt old.present.steps limits.step_bound ≡ true → mid ≡ stepped old → Comes r mid new (place_assign limits.shell (map view.value values) (behind f ∷ under mid.present)) → Comes r old new (place_command limits (tree.Assign (map view.value values)) f (under old.present))
assign_begins limits r values f old mid new below e comes =
    comes_at r old new (λ s. place_assign limits.shell (map view.value values) (behind f ∷ under mid.present) (counted_state s)) (place_command limits (tree.Assign (map view.value values)) f (under old.present))
    (λ w. ap (λ (x : Record). place_assign limits.shell (map view.value values) (behind f ∷ under x.present) (counted_state (state_at old.present w))) e
    ∙ chosen (nat_lt old.present.steps limits.step_bound) (place_assign limits.shell (map view.value values) (behind f ∷ under old.present) (counted_state (state_at old.present w))) (StopOn CutSteps (state_at old.present w)) below)
    (comes_after r old mid new counted_state (place_assign limits.shell (map view.value values) (behind f ∷ under mid.present)) (λ w. stepped_state old mid w e) (stepped_keeps old mid e) comes)
