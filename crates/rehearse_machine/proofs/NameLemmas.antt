-- The names of a `run`, and their texts.
use Rattle.std.proofs.Common.{◌≡◌, suc, true, false, List, [], ◌∷◌, map, length, Option, Some, None, Result, refl, sym, ap, subst, ◌∙◌, arith}
use Rattle.std.specs.Prelude.{slice_get, option_map}
use Rattle.std.proofs.Math.Dec.{eqb, eqb-suc-zero}
use Rattle.std.specs.FinMap as finite
use Rattle.std.specs.FinMap.{entries}
use Rattle.hushlang.specs.Tree.{Script}
use Rattle.hushlang.specs.TreesShown as view
use Rattle.hushlang.specs.declared.tree.AndOr.{AndOr as ListCode}
use Rattle.hushlang.specs.declared.tree.Script.{Script as Code, out-Script}
use Rattle.bootstore_state.specs.declared.store.StoreError.{StoreError}
use Rattle.bootstore_state.specs.declared.frame.At.{At}
use Rattle.bootstore_state.specs.Moment.{RunningFrame}
use Rattle.bootstore_state.specs.Record.{Record, changed, with_status, without_frame}
use Rattle.rehearse_terms.specs.Outcomes.{OutcomeWord}
use Rattle.hushlang_shells.specs.TreesByShell.{TextRead, Runs, Fails, Panics, Unread, started_in}
use Rattle.rehearse_terms.specs.State.{Text, State, get}
use Rattle.bootstore_state.specs.StoredState.{state_at}
use Rattle.rehearse_rules.specs.Execution.{Ending, Panic, set_status}
use Rattle.rehearse_rules.specs.ByShell.{unread}
use Rattle.rehearse_terms.specs.declared.shell.Shell.{Shell}
use Rattle.bootstore_state.proofs.StateLemmas.{stored_values}
use Rattle.rehearse_machine.specs.Frames.{begun_text}
use Rattle.rehearse_machine.specs.Places.{PlaceNext, GoOn, StopOn, place, moved_to, in_turn, text_frame, place_name, place_text, place_read}
use Rattle.rehearse_machine.specs.MovesShown.{under, Keeps, Does, Comes}
use Rattle.rehearse_machine.specs.declared.ask.Step.{Step}
use Rattle.rehearse_machine.specs.declared.ask.Step.TheVariants as steps
use Rattle.rehearse_machine.proofs.StoreMoves.{comes_at, comes_as, comes_after, keeps_change}
use Rattle.hushlang.proofs.ViewLemmas.{script_out}

no_lists : (items : List ListCode) (s : State) → true ≡ eqb (length items) 0 → set_status 0 s ≡ begun_text (view.runs (map view.list items)) s
no_lists [] s e = refl
no_lists (x ∷ xs) s e = absurd (let f = e ∙ eqb-suc-zero (length xs) in cc)

some_lists : (items : List ListCode) (s : State) → false ≡ eqb (length items) 0 → s ≡ begun_text (view.runs (map view.list items)) s
some_lists [] s e = absurd (let f = e in cc)
some_lists (x ∷ xs) s e = refl

module _ (r : Result Step StoreError) (old new : Record) (f child : RunningFrame) (at : At) (code : Code) (child_is : child ≡ text_frame (view.script code)) where
  abbrev framed : State → State → PlaceNext
  framed t s = GoOn (text_frame (view.script code) ∷ moved_to at f ∷ under old.present) t

  moves : (t : State) → GoOn (child ∷ moved_to at f ∷ under old.present) t ≡ framed t t
  moves t = ap (λ (x : RunningFrame). GoOn (x ∷ moved_to at f ∷ under old.present) t) child_is

  says : (s : State) → begun_text (view.runs (map view.list (out-Script code).lists.items)) s ≡ begun_text (view.script code) s
  says s = sym (ap (λ (x : Script). begun_text x s) (script_out code))

  pub text_goes : false ≡ eqb (length (out-Script code).lists.items) 0 → Comes r old new (GoOn (child ∷ moved_to at f ∷ under old.present)) → Comes r old new (λ s. framed (begun_text (view.script code) s) s)
  text_goes e comes =
      comes_as r old new (GoOn (child ∷ moved_to at f ∷ under old.present)) (λ s. framed (begun_text (view.script code) s) s)
      (λ s. moves s ∙ ap (λ (x : State). framed x s) (some_lists (out-Script code).lists.items s e ∙ says s)) comes

  pub text_empty : (mid : Record) → mid ≡ changed (with_status 0) old → true ≡ eqb (length (out-Script code).lists.items) 0 → Comes r mid new (GoOn (child ∷ moved_to at f ∷ under mid.present)) → Comes r old new (λ s. framed (begun_text (view.script code) s) s)
  text_empty mid d e comes =
      comes_at r old new (λ s. GoOn (child ∷ moved_to at f ∷ under mid.present) (set_status 0 s)) (λ s. framed (begun_text (view.script code) s) s)
      (λ w. ap (λ (x : Record). GoOn (child ∷ moved_to at f ∷ under x.present) (set_status 0 (state_at old.present w))) d
      ∙ moves (set_status 0 (state_at old.present w))
      ∙ ap (λ (x : State). framed x (state_at old.present w)) (no_lists (out-Script code).lists.items (state_at old.present w) e ∙ says (state_at old.present w)))
      (comes_after r old mid new (set_status 0) (GoOn (child ∷ moved_to at f ∷ under mid.present)) (λ w. ap (λ (x : Record). state_at x.present w) d) (subst (Keeps old) (sym d) (keeps_change (with_status 0) old refl)) comes)

module _ (shell : Shell) (old : Record) (f : RunningFrame) (name bytes : Text) (found : slice_get f.words f.place.turn ≡ Some name) (bytes_are : bytes ≡ name) where
  value_is : (o : Option Text) → o ≡ finite.get old.present.environment bytes → get (entries old.present.environment) name ≡ o
  value_is o e = stored_values old.present.environment name ∙ ap (finite.get old.present.environment) (sym bytes_are) ∙ sym e

  abbrev named : State → PlaceNext
  named = place_name shell (slice_get f.words f.place.turn) f (under old.present)

  with_text : (o : Option Text) (w : OutcomeWord) → o ≡ finite.get old.present.environment bytes → place_text shell o name f (under old.present) (state_at old.present w) ≡ named (state_at old.present w)
  with_text o w e =
      sym (ap (λ (x : Option Text). place_name shell x f (under old.present) (state_at old.present w)) found
      ∙ ap (λ (x : Option Text). place_text shell x name f (under old.present) (state_at old.present w)) (value_is o e))

  pub unset : (mid new : Record) → mid ≡ changed without_frame old → new ≡ changed (with_status 1) mid → None ≡ finite.get old.present.environment bytes → Does steps.Going old new named
  unset mid new e d none =
      subst (λ (x : Record). Does steps.Going old x named) (sym (d ∙ ap (changed (with_status 1)) e))
      (λ w. with_text None w none, record { marked = refl; begun = omega arith })

  -- a text that is set, by what becomes of it
  as_read : (what : TextRead) (text : Text) → Some text ≡ finite.get old.present.environment bytes → started_in shell text ≡ what → (w : OutcomeWord) → place_read shell what name f (under old.present) (state_at old.present w) ≡ named (state_at old.present w)
  as_read what text e t w =
      sym (ap (λ (x : TextRead). place_read shell x name f (under old.present) (state_at old.present w)) t) ∙ with_text (Some text) w e

  pub fails : (mid new : Record) (text : Text) → mid ≡ changed without_frame old → new ≡ changed (with_status 1) mid → Some text ≡ finite.get old.present.environment bytes → started_in shell text ≡ Fails → Does steps.Going old new named
  fails mid new text e d t l =
      subst (λ (x : Record). Does steps.Going old x named) (sym (d ∙ ap (changed (with_status 1)) e))
      (λ w. as_read Fails text t l w, record { marked = refl; begun = omega arith })

  pub text_comes : (r : Result Step StoreError) (new : Record) (text : Text) (script : Script) → Some text ≡ finite.get old.present.environment bytes → started_in shell text ≡ Runs script → Comes r old new (λ s. GoOn (text_frame script ∷ in_turn (suc f.place.turn) 0 f ∷ under old.present) (begun_text script s)) → Comes r old new named
  text_comes r new text script e t comes =
      comes_at r old new (λ s. GoOn (text_frame script ∷ in_turn (suc f.place.turn) 0 f ∷ under old.present) (begun_text script s)) named
      (λ w. as_read (Runs script) text e t w) comes

-- by what reading the text of a variable found
none_found : (shell : Shell) (o : Option Text) → None ≡ option_map (started_in shell) o → None ≡ o
none_found shell None e = refl
none_found shell (Some text) e = absurd (let f = e in cc)

abbrev pub within : Option TextRead → TextRead
within None = Unread
within (Some what) = what

module _ (shell : Shell) (old read : Record) (same : read ≡ old) (f : RunningFrame) (name bytes : Text) (found : slice_get f.words f.place.turn ≡ Some name) (bytes_are : bytes ≡ name) where
  abbrev value : Option Text
  value = finite.get old.present.environment bytes

  abbrev wanted : State → PlaceNext
  wanted = place_name shell (slice_get f.words f.place.turn) f (under old.present)

  pub unset_found : (mid new : Record) → mid ≡ changed without_frame read → new ≡ changed (with_status 1) mid → None ≡ option_map (started_in shell) value → Does steps.Going old new wanted
  unset_found mid new e d none = unset shell old f name bytes found bytes_are mid new (e ∙ ap (changed without_frame) same) d (none_found shell value none)

  fails_at : (mid new : Record) → mid ≡ changed without_frame old → new ≡ changed (with_status 1) mid → (o : Option Text) → o ≡ value → Some Fails ≡ option_map (started_in shell) o → Does steps.Going old new wanted
  fails_at mid new e d None v l = absurd (let g = l in cc)
  fails_at mid new e d (Some text) v l = fails shell old f name bytes found bytes_are mid new text e d v (sym (ap within l))

  pub fails_found : (mid new : Record) → mid ≡ changed without_frame read → new ≡ changed (with_status 1) mid → Some Fails ≡ option_map (started_in shell) value → Does steps.Going old new wanted
  fails_found mid new e d l = fails_at mid new (e ∙ ap (changed without_frame) same) d value refl l

  -- a text by which the run ends, at the name of its variable
  module _ (what : TextRead) (ends : Text → Ending) (stops : (s : State) → place_read shell what name f (under old.present) s ≡ StopOn (ends name) s) where
    stops_at : (copy : Text) → copy ≡ name → (o : Option Text) → o ≡ value → Some what ≡ option_map (started_in shell) o → (w : OutcomeWord) → StopOn (ends copy) (state_at old.present w) ≡ wanted (state_at old.present w)
    stops_at copy c None v e w = absurd (let g = e in cc)
    stops_at copy c (Some text) v e w =
        ap (λ (x : Text). StopOn (ends x) (state_at old.present w)) c ∙ sym (stops (state_at old.present w))
        ∙ as_read shell old f name bytes found bytes_are what text v (sym (ap within e)) w

    stops_found : (copy : Text) (ending : Ending) → ending ≡ ends copy → copy ≡ name → Some what ≡ option_map (started_in shell) value → ((w : OutcomeWord) → StopOn ending (state_at read.present w) ≡ wanted (state_at old.present w)) × Keeps old read
    stops_found copy ending is c e =
        subst (λ (x : Record). ((w : OutcomeWord) → StopOn ending (state_at x.present w) ≡ wanted (state_at old.present w)) × Keeps old x) (sym same)
        (λ w. ap (λ (x : Ending). StopOn x (state_at old.present w)) is ∙ stops_at copy c value refl e w, record { marked = refl; begun = refl })

  pub unread_found : (copy : Text) (ending : Ending) → ending ≡ unread shell copy → copy ≡ name → Some Unread ≡ option_map (started_in shell) value → ((w : OutcomeWord) → StopOn ending (state_at read.present w) ≡ wanted (state_at old.present w)) × Keeps old read
  unread_found = stops_found Unread (unread shell) (λ s. refl)

  pub panics_found : (copy : Text) (ending : Ending) → ending ≡ Panic copy → copy ≡ name → Some Panics ≡ option_map (started_in shell) value → ((w : OutcomeWord) → StopOn ending (state_at read.present w) ≡ wanted (state_at old.present w)) × Keeps old read
  panics_found = stops_found Panics Panic (λ s. refl)

  comes_at_once : (r : Result Step StoreError) (new : Record) (script : Script) (o : Option Text) → o ≡ value → Some (Runs script) ≡ option_map (started_in shell) o → Comes r old new (λ s. GoOn (text_frame script ∷ in_turn (suc f.place.turn) 0 f ∷ under old.present) (begun_text script s)) → Comes r old new wanted
  comes_at_once r new script None v e comes = absurd (let g = e in cc)
  comes_at_once r new script (Some text) v e comes = text_comes shell old f name bytes found bytes_are r new text script v (sym (ap within e)) comes

  pub text_found_comes : (r : Result Step StoreError) (new : Record) (script : Script) → Some (Runs script) ≡ option_map (started_in shell) value → Comes r read new (λ s. GoOn (text_frame script ∷ in_turn (suc f.place.turn) 0 f ∷ under read.present) (begun_text script s)) → Comes r old new wanted
  text_found_comes r new script e comes =
      comes_at_once r new script value refl e (subst (λ (x : Record). Comes r x new (λ s. GoOn (text_frame script ∷ in_turn (suc f.place.turn) 0 f ∷ under x.present) (begun_text script s))) same comes)
