-- The words of a frame, and the turns of a `for`.
use Rattle.std.proofs.Common.{ℕ, suc, List, ◌∷◌, length, get_or, Option, Some, None, Result, refl, sym, ap, subst, ◌∙◌, ◌≡◌, ◌<◌, ◌≤◌}
use Rattle.std.specs.Prelude.{slice_get, Vec, option_map}
use Rattle.std.proofs.lemmas.Option.{slice_get_read, slice_get_past, slice_get-map}
use Rattle.std.specs.declared.alloc.Global.{Global}
use Rattle.bootstore_state.specs.declared.frame.At.{At}
use Rattle.bootstore_state.specs.declared.store.StoreError.{StoreError}
use Rattle.bootstore_state.specs.Moment.{RunningFrame}
use Rattle.text.specs.TextsShown.{bytes_of_words}
use Rattle.bootstore_state.specs.Record.{Record, changed, with_local, with_status}
use Rattle.hushlang.specs.Tree.{Script}
use Rattle.rehearse_terms.specs.Outcomes.{OutcomeWord}
use Rattle.rehearse_terms.specs.State.{Text, Variables}
use Rattle.bootstore_state.specs.StoredState.{state_at}
use Rattle.rehearse_rules.specs.Execution.{set_local, set_status, begin_turn}
use Rattle.bootstore_state.proofs.StateLemmas.{stored_changes}
use Rattle.rehearse_machine.specs.declared.ask.Step.{Step}
use Rattle.rehearse_machine.specs.Places.{GoOn, place, moved_to, block_frame, for_turn}
use Rattle.rehearse_machine.specs.MovesShown.{Comes, Keeps, under}
use Rattle.rehearse_machine.proofs.StoreMoves.{comes_at, comes_after, keeps_change, keeps_both}
use Rattle.rehearse_terms.specs.declared.shell.Shell.{Shell}
use Rattle.rehearse_rules.specs.ByShell.{status_in_turn}

abbrev items_of : Vec ℕ Global → Text
items_of v = v.items

pub word_none : (items : List (Vec ℕ Global)) (words : List Text) (k j : ℕ) → bytes_of_words items ≡ words → k ≡ j → length items ≤ k → slice_get words j ≡ None
word_none items words k j e kj h = ap (λ (x : List Text). slice_get x j) (sym e) ∙ ap (slice_get (bytes_of_words items)) (sym kj) ∙ slice_get-map items_of items k ∙ ap (option_map items_of) (slice_get_past items k h)

pub word_some : (items : List (Vec ℕ Global)) (words : List Text) (k j : ℕ) (v : Vec ℕ Global) → bytes_of_words items ≡ words → k ≡ j → k < length items → v ≡ get_or items k v → slice_get words j ≡ Some v.items
word_some items words k j v e kj h r = ap (λ (x : List Text). slice_get x j) (sym e) ∙ ap (slice_get (bytes_of_words items)) (sym kj) ∙ slice_get-map items_of items k ∙ ap (option_map items_of) (slice_get_read items (length items) k v refl h r)

pub local_state : (old mid : Record) (name value : Text) (w : OutcomeWord) → mid ≡ changed (with_local name value) old → state_at mid.present w ≡ set_local name value (state_at old.present w)
local_state old mid name value w e =
    ap (λ (r : Record). state_at r.present w) e
    ∙ ap (λ (x : Variables). record (state_at old.present w) { memory = record (state_at old.present w).memory { locals = x } }) (stored_changes old.present.locals name value)

pub turn_state : (shell : Shell) (old mid set : Record) (name value : Text) (w : OutcomeWord) → mid ≡ changed (with_local name value) old → set ≡ changed (with_status (status_in_turn shell mid.present.status)) mid → state_at set.present w ≡ begin_turn shell name value (state_at old.present w)
turn_state shell old mid set name value w e k =
    ap (λ (r : Record). state_at r.present w) k
    ∙ ap (λ (r : Record). set_status (status_in_turn shell r.present.status) (state_at r.present w)) e
    ∙ ap (set_status (status_in_turn shell old.present.status)) (local_state old (changed (with_local name value) old) name value w refl)

pub turn_begins : (shell : Shell) (r : Result Step StoreError) (old mid set new : Record) (name value : Text) (body : Script) (f child : RunningFrame) (at : At) → slice_get f.words f.place.turn ≡ Some value → child ≡ block_frame body → at ≡ place f.place.list f.place.command (suc f.place.turn) 0 → mid ≡ changed (with_local name value) old → set ≡ changed (with_status (status_in_turn shell mid.present.status)) mid → Comes r set new (GoOn (child ∷ moved_to at f ∷ under set.present)) → Comes r old new (for_turn shell (slice_get f.words f.place.turn) name body f (under old.present))
turn_begins shell r old mid set new name value body f child at found c a e k comes =
    comes_at r old new (λ s. GoOn (child ∷ moved_to at f ∷ under set.present) (begin_turn shell name value s)) (for_turn shell (slice_get f.words f.place.turn) name body f (under old.present))
    (λ w. ap (λ (x : List RunningFrame). GoOn (child ∷ moved_to at f ∷ x) (begin_turn shell name value (state_at old.present w))) (ap (λ (x : Record). under x.present) k ∙ ap (λ (x : Record). under x.present) e)
    ∙ ap (λ (x : RunningFrame). GoOn (x ∷ moved_to at f ∷ under old.present) (begin_turn shell name value (state_at old.present w))) c
    ∙ ap (λ (x : At). GoOn (block_frame body ∷ moved_to x f ∷ under old.present) (begin_turn shell name value (state_at old.present w))) a
    ∙ sym (ap (λ (o : Option Text). for_turn shell o name body f (under old.present) (state_at old.present w)) found))
    (comes_after r old set new (begin_turn shell name value) (GoOn (child ∷ moved_to at f ∷ under set.present)) (λ w. turn_state shell old mid set name value w e k)
    (keeps_both old mid set (subst (Keeps old) (sym e) (keeps_change (with_local name value) old refl)) (subst (Keeps mid) (sym k) (keeps_change (with_status (status_in_turn shell mid.present.status)) mid refl))) comes)
