-- What computed calls do to a store.
use Rattle.std.proofs.Common.{ℕ, Bool, cond, List, [], ◌+◌, drop, length, get_or, Some, None, Result, Ok, Err, refl, sym, ap, subst, ◌∙◌, ◌≡◌, ◌<◌, ◌≤◌}
use Rattle.std.specs.Prelude.{Vec, OnOk}
use Rattle.std.specs.Option.{is_some}
use Rattle.std.specs.FinMap.{entries}
use Rattle.std.proofs.Math.ListN.{drop_of_length-le}
use Rattle.std.specs.declared.alloc.Global.{Global}
use Rattle.hushlang.proofs.ExpandLemmas.{drop_next}
use Rattle.bootstore_state.specs.declared.store.StoreError.{StoreError}
use Rattle.bootstore_state.specs.Record.{Record, changed, with_environment, with_status}
use Rattle.bootstore_state.specs.StoredState.{state_at}
use Rattle.bootstore_state.proofs.StateLemmas.{stored_changes, stored_deletions}
use Rattle.text.specs.TextsShown.{bytes_of_words}
use Rattle.rehearse_terms.specs.Outcomes.{OutcomeWord}
use Rattle.rehearse_terms.specs.State.{Text, Variables, Memory, get, with_value, without}
use Rattle.commands.specs.BuiltInCommands.{changed_by, deletions}
use Rattle.rehearse_rules.specs.Execution.{remember}
use Rattle.rehearse_machine.specs.MovesShown.{Keeps, Changes, Changed}
use Rattle.rehearse_machine.proofs.StoreMoves.{keeps_both, keeps_change}

-- the first i of the names are deleted, with this status
pub record AreDeleted (names : List (Vec ℕ Global)) (i status : ℕ) (old now : Record) : Type 0 where
  pub same : deletions status (bytes_of_words (drop i names)) (entries now.present.environment) ≡ deletions 0 (bytes_of_words names) (entries old.present.environment)
  pub others : (w : OutcomeWord) → state_at now.present w ≡ remember (λ m. record m { environment = entries now.present.environment }) (state_at old.present w)
  pub frames : now.present.frames ≡ old.present.frames
  pub kept : Keeps old now

pub none_deleted : (names : List (Vec ℕ Global)) (old : Record) → AreDeleted names 0 0 old old
none_deleted names old = record { same = refl; others = λ w. refl; frames = refl; kept = record { marked = refl; begun = refl } }

pub next_deleted : (names : List (Vec ℕ Global)) (i status next : ℕ) (old now new : Record) (d : Vec ℕ Global) (was_set : Bool) → i < length names → d ≡ get_or names i d
    → was_set ≡ is_some (get (entries now.present.environment) d.items) → new ≡ changed (with_environment d.items None) now → next ≡ cond was_set status 1
    → AreDeleted names i status old now → AreDeleted names (i + 1) next old new
next_deleted names i status next old now new d was_set within is was made by before =
    let here : entries new.present.environment ≡ without (entries now.present.environment) d.items = ap (λ (r : Record). entries r.present.environment) made ∙ stored_deletions now.present.environment d.items in
    let after : next ≡ cond (is_some (get (entries now.present.environment) d.items)) status 1 = by ∙ ap (λ b. cond b status 1) was in
    record {
      same =
          ap (deletions next (bytes_of_words (drop (i + 1) names))) here
          ∙ ap (λ (n : ℕ). deletions n (bytes_of_words (drop (i + 1) names)) (without (entries now.present.environment) d.items)) after
          ∙ sym (ap (λ (x : List (Vec ℕ Global)). deletions status (bytes_of_words x) (entries now.present.environment)) (drop_next names i d within is))
          ∙ before.same;
      others = λ w.
          ap (λ (r : Record). state_at r.present w) made
          ∙ ap (λ (x : Variables). remember (λ m. record m { environment = x }) (state_at now.present w)) (sym (ap (λ (r : Record). entries r.present.environment) made))
          ∙ ap (remember (λ m. record m { environment = entries new.present.environment })) (before.others w);
      frames = ap (λ (r : Record). r.present.frames) made ∙ before.frames;
      kept = keeps_both old now new before.kept (subst (Keeps now) (sym made) (keeps_change (with_environment d.items None) now refl));
    }

all_changed : (names : List (Vec ℕ Global)) (i status : ℕ) (old now new : Record) → length names ≤ i → AreDeleted names i status old now → new ≡ changed (with_status status) now
    → Changes old new (changed_by (deletions 0 (bytes_of_words names)))
all_changed names i status old now new past before done =
    let end : deletions status [] (entries now.present.environment) ≡ deletions 0 (bytes_of_words names) (entries old.present.environment) =
    sym (ap (λ (x : List (Vec ℕ Global)). deletions status (bytes_of_words x) (entries now.present.environment)) (drop_of_length-le names past)) ∙ before.same in (
      λ w.
          ap (λ (r : Record). state_at r.present w) done
          ∙ ap (remember (λ m. record m { status = status })) (before.others w)
          ∙ ap (λ (x : Variables × ℕ). remember (λ m. record m { environment = x.0; status = x.1 }) (state_at old.present w)) end,
      ap (λ (r : Record). r.present.frames) done ∙ before.frames,
      keeps_both old now new before.kept (subst (Keeps now) (sym done) (keeps_change (with_status status) now refl)),
    )

pub all_deleted : (names : List (Vec ℕ Global)) (i status : ℕ) (old now new : Record) (r : Result (Unit {0}) StoreError) → length names ≤ i → AreDeleted names i status old now → OnOk r (new ≡ changed (with_status status) now)
    → Changed r old new (changed_by (deletions 0 (bytes_of_words names)))
all_deleted names i status old now new (Ok done) past before e = all_changed names i status old now new past before e
all_deleted names i status old now new (Err x) past before e = tt

-- a status alone
pub gives_status : (r : Result (Unit {0}) StoreError) (old new : Record) (n status : ℕ) → n ≡ status → OnOk r (new ≡ changed (with_status n) old) → Changed r old new (changed_by (λ variables. (variables, status)))
gives_status (Ok done) old new n status same e = (
  λ w. ap (λ (r : Record). state_at r.present w) e ∙ ap (λ (x : ℕ). remember (λ m. record m { status = x }) (state_at old.present w)) same,
  ap (λ (r : Record). r.present.frames) e,
  subst (Keeps old) (sym e) (keeps_change (with_status n) old refl),
)
gives_status (Err x) old new n status same e = tt

-- the status of a call that looks up a variable
pub gives_set : (r : Result (Unit {0}) StoreError) (old new : Record) (n : ℕ) (was_set : Bool) (name : Text) → was_set ≡ is_some (get (entries old.present.environment) name) → n ≡ cond was_set 0 1 → OnOk r (new ≡ changed (with_status n) old)
    → Changed r old new (changed_by (λ variables. (variables, cond (is_some (get variables name)) 0 1)))
gives_set (Ok done) old new n was_set name was by e = (
  λ w. ap (λ (r : Record). state_at r.present w) e ∙ ap (λ (x : ℕ). remember (λ m. record m { status = x }) (state_at old.present w)) (by ∙ ap (λ b. cond b 0 1) was),
  ap (λ (r : Record). r.present.frames) e,
  subst (Keeps old) (sym e) (keeps_change (with_status n) old refl),
)
gives_set (Err x) old new n was_set name was by e = tt

-- one variable set, with status 0
pub sets_value : (r : Result (Unit {0}) StoreError) (old mid new : Record) (name value : Text) → mid ≡ changed (with_environment name (Some value)) old → OnOk r (new ≡ changed (with_status 0) mid)
    → Changed r old new (changed_by (λ variables. (with_value variables name value, 0)))
sets_value (Ok done) old mid new name value made e =
    let both = e ∙ ap (changed (with_status 0)) made in (
      λ w. ap (λ (r : Record). state_at r.present w) both
          ∙ ap (λ (x : Variables). remember (λ m. record m { environment = x; status = 0 }) (state_at old.present w)) (stored_changes old.present.environment name value),
      ap (λ (r : Record). r.present.frames) both,
      subst (Keeps old) (sym both) (record { marked = refl; begun = refl }),
    )
sets_value (Err x) old mid new name value made e = tt

-- what is said of a change is said of the same change
pub changed_as : (r : Result (Unit {0}) StoreError) (old new : Record) (f g : Memory → Memory) → f ≡ g → Changed r old new f → Changed r old new g
changed_as r old new f g e h = subst (Changed r old new) e h
