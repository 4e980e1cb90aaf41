-- Reports of what fields name.
use Rattle.std.proofs.Common.{◌≡◌, ◌∙◌, refl, sym, ap, subst, ℕ, Bool, true, false, List, [], ◌∷◌, ◌++◌, map, length, Option, Some, None, Result, Ok, Err, Vec, Global, if◌then◌else◌, arith}
use Rattle.std.specs.Prelude.{OnOk}
use Rattle.text.specs.TextsShown.{bytes_of_words}
use Rattle.builtins.specs.Builtins as says
use Rattle.builtins.specs.Builtins.{builtin_of}
use Rattle.builtins.specs.BuiltinsShown.{builtin_shown}
use Rattle.builtins.specs.declared.builtins.Builtin.{Builtin}
use Rattle.commands.specs.Computed.{Computed}
use Rattle.device_list.specs.DeviceList.{Effect, effect_of, computed_by}
use Rattle.rehearse_terms.specs.State.{Text, State}
use Rattle.rehearse_terms.specs.declared.shell.Shell.{Shell}
use Rattle.rehearse_terms.specs.declared.shell.Shell.TheVariants.{Profile, Old2023, Old2025, Modern2025}
use Rattle.rehearse_rules.specs.ByShell.{asks_in, leaves_in, follows, is_refused, call_in}
use Rattle.rehearse_rules.specs.Execution.{Limits, test_request}
use Rattle.rehearse_reads.specs.Keys.{Access, Reads, Writes, Local, Status, Covers}
use Rattle.rehearse_reads.specs.Accesses.{status_written, local_accesses, computed_accesses, nothing_accesses}
use Rattle.rehearse_frames.specs.MoveAccesses.{of_exit, of_asking, of_builtin, of_call, of_fields, of_listed, of_simple_call}
use Rattle.rehearse_reports.specs.Reports.{Reports, of_test}
use Rattle.rehearse_reports.proofs.ReportLemmas.{covers_itself, covers_write, reports_nothing, reports_as}
use Rattle.rehearse_reports.proofs.CoverLemmas.{covers_status, covers_nothing}
use Rattle.rehearse_reports.proofs.CallLemmas.{only_status}

pub ok_as : {E P Q : Type 0} (r : Result (Unit {0}) E) → (P → Q) → OnOk r P → OnOk r Q
ok_as (Ok x) f h = f h
ok_as (Err x) f h = h

pub quietly : (old ys : List Access) → Covers [] ys → Reports old old ys
quietly old ys h = reports_as old old [] ys (reports_nothing old) h

pub local_refused : (old : List Access) (shell : Shell) (name value : Text) → true ≡ is_refused shell value → Reports old old (local_accesses shell name value)
local_refused old shell name value e = subst (λ (b : Bool). Reports old old (if b then [] else Writes (Local name) ∷ [])) e (reports_nothing old)

module _ (limits : Limits) (name : Text) (words : List Text) (s : State) where
  abbrev test_if : Bool → List Access
  test_if b = elim b [ true ↦ of_asking limits (test_request limits name words) s | false ↦ status_written ]

  pub test_quiet : (old : List Access) (shell : Shell) → shell ≡ limits.shell → false ≡ asks_in shell words → Reports old old (of_test limits name words s)
  test_quiet old shell h e = subst (λ (b : Bool). Reports old old (test_if b)) (e ∙ ap (λ (x : Shell). asks_in x words) h) (only_status old)

  pub test_asks : {E : Type 0} (r : Result (Unit {0}) E) (old new : List Access) (shell : Shell) → shell ≡ limits.shell → true ≡ asks_in shell words → OnOk r (Reports old new (of_asking limits (test_request limits name words) s)) → OnOk r (Reports old new (of_test limits name words s))
  test_asks r old new shell h e k = subst (λ (b : Bool). OnOk r (Reports old new (test_if b))) (e ∙ ap (λ (x : Shell). asks_in x words) h) k

  exits : (o : Option ℕ) → Covers [] (of_exit limits.shell o [])
  exits None = covers_status
  exits (Some status) = covers_write Status [] (covers_itself [])

  runs : (again : Bool) (ws : List Text) → Covers [] (of_builtin limits again says.Run name ws [] s)
  runs again [] = covers_status
  runs again (w ∷ ws) = covers_itself []

  pub run_quiet : (again : Bool) → Covers [] (of_builtin limits again says.Run name words [] s)
  run_quiet again = runs again words

  pub leave_quiet : (again : Bool) → Covers [] (of_builtin limits again says.Leave name words [] s)
  leave_quiet again = exits (leaves_in limits.shell again words)

-- ---- by what the name is

module _ (limits : Limits) (again : Bool) (name : Text) (words : List Text) (s : State) where
  abbrev call_if : Option Computed → Option says.Builtin → Option Effect → List Access
  call_if o b f = elim o [ Some computed ↦ computed_accesses computed | None ↦ elim b [ Some builtin ↦ of_builtin limits again builtin name words [] s | None ↦ elim f [ Some effect ↦ of_listed limits name words effect s | None ↦ [] ] ] ]

  module _ (uncomputed : computed_by limits.devices name words ≡ None) where
    pub call_builtin : {E : Type 0} (r : Result (Unit {0}) E) (old new : List Access) (b : says.Builtin) → builtin_of name ≡ Some b → OnOk r (Reports old new (of_builtin limits again b name words [] s)) → OnOk r (Reports old new (of_call limits again name words [] s))
    call_builtin r old new b e h =
        subst (λ (o : Option Computed). OnOk r (Reports old new (call_if o (builtin_of name) (effect_of limits.devices name words)))) (sym uncomputed)
        (subst (λ (o : Option says.Builtin). OnOk r (Reports old new (call_if None o (effect_of limits.devices name words)))) (sym e) h)

    pub call_listed : {E : Type 0} (r : Result (Unit {0}) E) (old new : List Access) (effect : Effect) → builtin_of name ≡ None → effect_of limits.devices name words ≡ Some effect → OnOk r (Reports old new (of_listed limits name words effect s)) → OnOk r (Reports old new (of_call limits again name words [] s))
    call_listed r old new effect e f h =
        subst (λ (o : Option Computed). OnOk r (Reports old new (call_if o (builtin_of name) (effect_of limits.devices name words)))) (sym uncomputed)
        (subst (λ (o : Option says.Builtin). OnOk r (Reports old new (call_if None o (effect_of limits.devices name words)))) (sym e)
        (subst (λ (o : Option Effect). OnOk r (Reports old new (call_if None None o))) (sym f) h))

    pub call_unknown : (old : List Access) → builtin_of name ≡ None → effect_of limits.devices name words ≡ None → Reports old old (of_call limits again name words [] s)
    call_unknown old e f =
        subst (λ (o : Option Computed). Reports old old (call_if o (builtin_of name) (effect_of limits.devices name words))) (sym uncomputed)
        (subst (λ (o : Option says.Builtin). Reports old old (call_if None o (effect_of limits.devices name words))) (sym e)
        (subst (λ (o : Option Effect). Reports old old (call_if None None o)) (sym f) (reports_nothing old)))

-- ---- by fields

call_of_none : (shell : Shell) → [] ≡ call_in shell []
call_of_none Profile = refl
call_of_none Old2023 = refl
call_of_none Old2025 = refl
call_of_none Modern2025 = refl

-- the call of a shell and a name that are those of another call
pub call_here : (shell own : Shell) → shell ≡ own → (name first : Text) → name ≡ first → (call words : List Text) → call ≡ call_in shell (name ∷ words) → call ≡ call_in own (first ∷ words)
call_here shell own e name first named call words called =
    called
    ∙ ap (λ (n : Text). call_in shell (n ∷ words)) named
    ∙ ap (λ (x : Shell). call_in x (first ∷ words)) e

module _ (limits : Limits) (again : Bool) (s : State) where
  pub fields_none : (old : List Access) (fields : List (Vec ℕ Global)) → length fields ≡ 0 → Reports old old (of_fields limits again [] (bytes_of_words fields) s)
  fields_none old [] e =
      subst (λ (fs : List Text). Reports old old (of_simple_call limits again [] fs s)) (call_of_none limits.shell)
      (quietly old (nothing_accesses limits.shell) (covers_nothing limits.shell))
  fields_none old (x ∷ fields) e = absurd (omega arith)

  module _ (fields : List (Vec ℕ Global)) (first : Vec ℕ Global) (words : List (Vec ℕ Global)) (split : fields ≡ first ∷ words) (shell : Shell) (own : shell ≡ limits.shell) (name : Text) (plain : List Text) (called : name ∷ plain ≡ call_in limits.shell (first.items ∷ bytes_of_words words)) where
    abbrev fields_if : Bool → List Access
    fields_if b = elim b [ true ↦ of_call limits again name plain [] s | false ↦ [] ]

    call_is : name ∷ plain ≡ call_in limits.shell (bytes_of_words fields)
    call_is = called ∙ ap (λ (fs : List (Vec ℕ Global)). call_in limits.shell (bytes_of_words fs)) (sym split)

    followed : (b : Bool) → b ≡ follows shell limits.devices name plain → b ≡ follows limits.shell limits.devices name plain
    followed b e = e ∙ ap (λ (x : Shell). follows x limits.devices name plain) own

    pub fields_unfollowed : (old : List Access) → false ≡ follows shell limits.devices name plain → Reports old old (of_fields limits again [] (bytes_of_words fields) s)
    fields_unfollowed old e =
        subst (λ (fs : List Text). Reports old old (of_simple_call limits again [] fs s)) call_is
        (subst (λ (b : Bool). Reports old old (fields_if b)) (followed false e) (reports_nothing old))

    pub fields_followed : {E : Type 0} (r : Result (Unit {0}) E) (old new : List Access) → true ≡ follows shell limits.devices name plain → OnOk r (Reports old new (of_call limits again name plain [] s)) → OnOk r (Reports old new (of_fields limits again [] (bytes_of_words fields) s))
    fields_followed r old new e h =
        subst (λ (fs : List Text). OnOk r (Reports old new (of_simple_call limits again [] fs s))) call_is
        (subst (λ (b : Bool). OnOk r (Reports old new (fields_if b))) (followed true e) h)
