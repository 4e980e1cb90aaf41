-- What the built-in commands do to a store.
use Rattle.rehearse_rules.specs.ByShell.{asks_in, truth_in}
use Rattle.std.proofs.Common.{ℕ, zero, suc, ◌+◌, ◌-◌, ◌*◌, Bool, true, false, cond, List, [], ◌∷◌, take, drop, length, get_or, Option, Some, None, Result, Ok, Err, refl, sym, ap, subst, ◌∙◌, ◌≡◌, ◌<◌, ◌≤◌, arith, drop-cons}
use Rattle.std.specs.Prelude.{Vec, OnOk}
use Rattle.std.proofs.lemmas.Bool.{lt-leb}
use Rattle.std.proofs.Math.Dec.{eqb, eqb-suc-zero}
use Rattle.std.specs.declared.alloc.Global.{Global}
use Rattle.bootstore_state.specs.declared.store.StoreError.{StoreError}
use Rattle.bootstore_state.specs.Moment.{Moment, RunningFrame}
use Rattle.text.specs.Numbers.{is_digit}
use Rattle.text.specs.TextsShown.{bytes_of_words}
use Rattle.text.specs.Words.{joined_words}
use Rattle.bootstore_state.specs.Record.{Record, changed, with_environment, with_status}
use Rattle.hushlang.specs.Tree.{Script}
use Rattle.rehearse_terms.specs.Outcomes.{OutcomeWord}
use Rattle.rehearse_terms.specs.State.{Text, Variables, State, with_value, without}
use Rattle.bootstore_state.specs.StoredState.{state_at}
use Rattle.builtins.specs.Builtins.{Builtin, builtin_of}
use Rattle.rehearse_rules.proofs.GivenRuns.{called_apart}
use Rattle.device_list.specs.Called.{Called, BuiltIn, Device, NoCommand, listed_by, other_called, called_by}
use Rattle.commands.specs.BuiltInCommands.{ChangesVariables, WritesText, Tests, carried, deed_of, setenv, variables_changed, text_written, decimal_from}
use Rattle.commands.specs.VariableNames.{is_bad_name}
use Rattle.rehearse_rules.specs.Needs.{effect_now}
use Rattle.rehearse_rules.specs.Execution.{Limits, Request, remember, set_status, status_when, request_of, test_request}
use Rattle.commands.specs.Computed.{Computed}
use Rattle.device_list.specs.DeviceList.{Effect, Devices, computed_by, effect_of}
use Rattle.bootstore_state.proofs.StateLemmas.{stored_changes, stored_deletions}
use Rattle.rehearse_machine.specs.declared.ask.Step.{Step}
use Rattle.rehearse_machine.specs.declared.ask.Step.TheVariants as steps
use Rattle.rehearse_machine.specs.Places.{GoOn, place_ask, place_called}
use Rattle.rehearse_machine.specs.MovesShown.{Does, Comes, Changes, Changed}
use Rattle.rehearse_machine.proofs.Beginnings.{chosen}

-- ---- numbers

no_number : (b : Bool) (o : Option ℕ) → o ≡ None → cond b o None ≡ None
no_number true o e = e
no_number false o e = refl

grows : (n b : ℕ) → 255 < n → 255 < n * 10 + b
grows n b h = omega arith

too_large : (n : ℕ) (bs : List ℕ) → 255 < n → decimal_from n bs ≡ None
too_large n [] h = ap (λ (b : Bool). cond b (Some n) None) (lt-leb n 255 h)
too_large n (b ∷ bs) h = no_number (is_digit b) (decimal_from (n * 10 + (b - 48)) bs) (too_large (n * 10 + (b - 48)) bs (grows n (b - 48) h))

pub too_much : (n : ℕ) (word : List ℕ) (i : ℕ) → i < length word → 255 < n * 10 + (get_or word i 0 - 48) → decimal_from n (drop i word) ≡ None
too_much n word i l h = ap (decimal_from n) (drop-cons word i 0 l) ∙ no_number (is_digit (get_or word i 0)) (decimal_from (n * 10 + (get_or word i 0 - 48)) (drop (suc i) word)) (too_large (n * 10 + (get_or word i 0 - 48)) (drop (suc i) word) h)

-- ---- lists of words

take_all : {A : Type 0} (n : ℕ) (ys : List A) → n ≡ length ys → take n ys ≡ ys
take_all zero [] e = refl
take_all zero (y ∷ ys) e = absurd (omega arith)
take_all (suc n) [] e = refl
take_all (suc n) (y ∷ ys) e = ap (λ zs. y ∷ zs) (take_all n ys (omega arith))

pub first_and_rest : (xs : List (Vec ℕ Global)) (x : Vec ℕ Global) → 1 ≤ length xs → x ≡ get_or xs 0 x → xs ≡ x ∷ take (length xs - 1) (drop 1 xs)
first_and_rest [] x h e = absurd (omega arith)
first_and_rest (y ∷ ys) x h e = ap (λ z. z ∷ ys) (sym e) ∙ ap (λ zs. x ∷ zs) (sym (take_all (suc (length ys) - 1) ys (omega arith)))

-- ---- `setenv`

abbrev with_memory : State → Variables → State
with_memory s variables = record s { memory = record { environment = variables; locals = s.memory.locals; status = 0; text = s.memory.text } }

pub deleted : (old : Moment) (name : Text) (words : List Text) (w : OutcomeWord) → words ≡ name ∷ [] → is_bad_name name ≡ false → state_at (with_status 0 (with_environment name None old)) w ≡ remember (variables_changed setenv words) (state_at old w)
deleted old name words w e b =
    ap (with_memory (state_at old w)) (stored_deletions old.environment name)
    ∙ ap (λ (x : Bool). remember (variables_changed (λ ws variables. cond x (variables, 1) (without variables name, 0)) words) (state_at old w)) (sym b)
    ∙ ap (λ (x : List Text). remember (variables_changed setenv x) (state_at old w)) (sym e)

pub assigned : (old : Moment) (name value v : Text) (vs words : List Text) (w : OutcomeWord) → words ≡ name ∷ v ∷ vs → value ≡ joined_words (v ∷ vs) → is_bad_name name ≡ false → state_at (with_status 0 (with_environment name (Some value) old)) w ≡ remember (variables_changed setenv words) (state_at old w)
assigned old name value v vs words w e k b =
    ap (with_memory (state_at old w)) (stored_changes old.environment name value)
    ∙ ap (λ (x : Text). with_memory (state_at old w) (with_value (state_at old w).memory.environment name x)) k
    ∙ ap (λ (x : Bool). remember (variables_changed (λ ws variables. cond x (variables, 1) (with_value variables name (joined_words (v ∷ vs)), 0)) words) (state_at old w)) (sym b)
    ∙ ap (λ (x : List Text). remember (variables_changed setenv x) (state_at old w)) (sym e)

set_changed : (r : Result (Unit {0}) StoreError) (old mid new : Record) (name : Text) (o : Option Text) (words : List Text) → ((w : OutcomeWord) → state_at (with_status 0 (with_environment name o old.present)) w ≡ remember (variables_changed setenv words) (state_at old.present w)) → mid ≡ changed (with_environment name o) old → OnOk r (new ≡ changed (with_status 0) mid) → Changed r old new (variables_changed setenv words)
set_changed (Ok done) old mid new name o words h e k =
    subst (λ (x : Record). Changes old x (variables_changed setenv words)) (sym (k ∙ ap (changed (with_status 0)) e)) (h, refl, record { marked = refl; begun = omega arith })
set_changed (Err x) old mid new name o words h e k = tt

pub deletes : (r : Result (Unit {0}) StoreError) (old mid new : Record) (name : Text) (words : List Text) → words ≡ name ∷ [] → is_bad_name name ≡ false → mid ≡ changed (with_environment name None) old → OnOk r (new ≡ changed (with_status 0) mid) → Changed r old new (variables_changed setenv words)
deletes r old mid new name words p b e k = set_changed r old mid new name None words (λ w. deleted old.present name words w p b) e k

pub assigns : (r : Result (Unit {0}) StoreError) (old mid new : Record) (name value : Text) (values words : List Text) → words ≡ name ∷ values → 0 < length values → value ≡ joined_words values → is_bad_name name ≡ false → mid ≡ changed (with_environment name (Some value)) old → OnOk r (new ≡ changed (with_status 0) mid) → Changed r old new (variables_changed setenv words)
assigns r old mid new name value [] words p l j b e k = absurd (omega arith)
assigns r old mid new name value (v ∷ vs) words p l j b e k = set_changed r old mid new name (Some value) words (λ w. assigned old.present name value v vs words w p j b) e k

-- ---- built-in commands

module _ (limits : Limits) (again : Bool) (old new : Record) (name : Text) (words : List Text) (script : Script) where
  abbrev frames : List RunningFrame
  frames = old.present.frames

  pub change_does : (b : Called) (list : List Text) (change : List Text → Variables → Variables × ℕ) → b ≡ BuiltIn (ChangesVariables change) → list ≡ words → Changes old new (variables_changed change list) → Does steps.Going old new (place_called limits again b name words script old.present.frames)
  change_does b list change e l h = (
    λ w. ap (λ (x : List RunningFrame). GoOn x (state_at new.present w)) h.1 ∙ ap (GoOn frames) (h.0 w) ∙ ap (λ (x : List Text). GoOn frames (remember (variables_changed change x) (state_at old.present w))) l
        ∙ sym (ap (λ (x : Called). place_called limits again x name words script frames (state_at old.present w)) e),
    h.2,
  )

  pub writing_does : (b : Called) (list : List Text) (written : List Text → Text) → b ≡ BuiltIn (WritesText written) → list ≡ words → Changes old new (text_written written list) → Does steps.Going old new (place_called limits again b name words script old.present.frames)
  writing_does b list written e l h = (
    λ w. ap (λ (x : List RunningFrame). GoOn x (state_at new.present w)) h.1 ∙ ap (GoOn frames) (h.0 w) ∙ ap (λ (x : List Text). GoOn frames (remember (text_written written x) (state_at old.present w))) l
        ∙ sym (ap (λ (x : Called). place_called limits again x name words script frames (state_at old.present w)) e),
    h.2,
  )

  abbrev request : Effect → Request
  request effect = request_of name words effect

  -- what a device command does now, the name does
  pub device_comes : (r : Result Step StoreError) (b : Called) (effect : Effect) → b ≡ Device effect → Comes r old new (place_ask limits (request (effect_now limits.room (state_at old.present []) effect)) old.present.frames) → Comes r old new (place_called limits again b name words script old.present.frames)
  device_comes (Ok step) b effect e h = subst (λ (x : Called). Does step old new (place_called limits again x name words script old.present.frames)) (sym e) h
  device_comes (Err x) b effect e h = tt

  pub test_comes : (r : Result Step StoreError) (b : Called) → b ≡ BuiltIn Tests → asks_in limits.shell words ≡ true → Comes r old new (place_ask limits (test_request limits name words) old.present.frames) → Comes r old new (place_called limits again b name words script old.present.frames)
  test_comes (Ok step) b e d h = (
    λ w. h.0 w
        ∙ chosen (asks_in limits.shell words) (place_ask limits (test_request limits name words) frames (state_at old.present w)) (GoOn frames (set_status (status_when (truth_in limits.shell words)) (state_at old.present w))) d
        ∙ sym (ap (λ (x : Called). place_called limits again x name words script frames (state_at old.present w)) e),
    h.1,
  )
  test_comes (Err x) b e d h = tt

-- a call that is computed, and one that goes by the list
pub other_computed : (devices : Devices) (name : Text) (words : List Text) (computed : Computed) → computed_by devices name words ≡ Some computed → other_called devices name words ≡ BuiltIn (ChangesVariables (λ ws. carried computed))
other_computed devices name words computed e =
    ap (λ (o : Option Computed). let c : Called = elim o [ Some computed ↦ BuiltIn (ChangesVariables (λ ws. carried computed)) | None ↦ listed_by devices name words ] in c) e

pub other_listed : (devices : Devices) (name : Text) (words : List Text) (o : Option Effect) → computed_by devices name words ≡ None → o ≡ effect_of devices name words → other_called devices name words ≡ elim o [ Some effect ↦ Device effect | None ↦ NoCommand ]
other_listed devices name words o none is =
    ap (λ (o : Option Computed). let c : Called = elim o [ Some computed ↦ BuiltIn (ChangesVariables (λ ws. carried computed)) | None ↦ listed_by devices name words ] in c) none
    ∙ ap (λ (o : Option Effect). let c : Called = elim o [ Some effect ↦ Device effect | None ↦ NoCommand ] in c) (sym is)

-- what the built-in command of a name does, or the call if it is of none, the name does
pub name_called : (limits : Limits) (again : Bool) (name : Text) (words : List Text) (o : Option Builtin) (script : Script) (r : Result Step StoreError) (old new : Record) → o ≡ builtin_of name
    → Comes r old new (place_called limits again (elim o [ Some builtin ↦ BuiltIn (deed_of builtin) | None ↦ other_called limits.devices name words ]) name words script old.present.frames)
    → Comes r old new (place_called limits again (called_by limits.devices name words) name words script old.present.frames)
name_called limits again name words o script r old new named h =
    let called = ap (λ (o : Option Builtin). let c : Called = elim o [ Some builtin ↦ BuiltIn (deed_of builtin) | None ↦ other_called limits.devices name words ] in c) named ∙ sym (called_apart limits.devices name words) in
    subst (λ (x : Called). Comes r old new (place_called limits again x name words script old.present.frames)) called h

pub empty_rest : (ys : List (Vec ℕ Global)) → true ≡ eqb (length ys) 0 → ys ≡ []
empty_rest [] e = refl
empty_rest (y ∷ ys) e = absurd (let f = e ∙ eqb-suc-zero (length ys) in cc)

pub some_rest : (ys : List (Vec ℕ Global)) → false ≡ eqb (length ys) 0 → 0 < length (bytes_of_words ys)
some_rest [] e = absurd (let f = e in cc)
some_rest (y ∷ ys) e = omega arith

-- what the built-in command of a name does, the name does
pub named_comes : (limits : Limits) (again : Bool) (name : Text) (words : List Text) (script : Script) (frames : List RunningFrame) (r : Result Step StoreError) (old new : Record) (b k : Called) → b ≡ k → Comes r old new (place_called limits again k name words script frames) → Comes r old new (place_called limits again b name words script frames)
named_comes limits again name words script frames r old new b k e h = subst (λ (x : Called). Comes r old new (place_called limits again x name words script frames)) (sym e) h
