-- How a `for` begins, by its fields.
use Rattle.std.proofs.Common.{ℕ, suc, true, false, List, [], ◌∷◌, length, Result, refl, sym, ap, ◌∙◌, ◌≡◌}
use Rattle.std.specs.Prelude.{Vec}
use Rattle.std.proofs.Math.Dec.{eqb, eqb-suc-zero}
use Rattle.std.specs.declared.alloc.Global.{Global}
use Rattle.bootstore_state.specs.declared.frame.At.{At}
use Rattle.bootstore_state.specs.declared.frame.FrameKind.TheVariants as kinds
use Rattle.bootstore_state.specs.declared.store.StoreError.{StoreError}
use Rattle.bootstore_state.specs.Moment.{RunningFrame}
use Rattle.bootstore_state.specs.Record.{Record}
use Rattle.text.specs.TextsShown.{bytes_of_words}
use Rattle.rehearse_terms.specs.State.{Text, State}
use Rattle.rehearse_rules.specs.Execution.{set_status}
use Rattle.rehearse_machine.specs.declared.ask.Step.{Step}
use Rattle.rehearse_machine.specs.Places.{GoOn, place, moved_to, values_frame, for_begins}
use Rattle.rehearse_machine.specs.MovesShown.{Comes, under}
use Rattle.rehearse_machine.proofs.StoreMoves.{comes_as}

pub no_words : (items : List (Vec ℕ Global)) → true ≡ eqb (length items) 0 → bytes_of_words items ≡ []
no_words [] e = refl
no_words (x ∷ xs) e = absurd (let f = e ∙ eqb-suc-zero (length xs) in cc)

pub some_words : (items : List (Vec ℕ Global)) → false ≡ eqb (length items) 0 → bytes_of_words items ≡ [] → ⊥
some_words [] e = λ h. let f = e in cc
some_words (x ∷ xs) e = λ h. let f = h in cc

pub values_are : (child f : RunningFrame) (values : List Text) → child.kind ≡ kinds.For → child.script ≡ f.script → child.words ≡ values → child.place ≡ place f.place.list f.place.command 0 0 → child ≡ values_frame f values
values_are child f values kind script words there = λ i. record { kind = kind i; script = script i; words = words i; place = there i }

module _ (r : Result Step StoreError) (old new : Record) (f : RunningFrame) (at : At) (there : at ≡ place f.place.list (suc f.place.command) 0 0) where
  pub for_ends : (values : List Text) → values ≡ [] → Comes r old new (λ s. GoOn (moved_to at f ∷ under old.present) (set_status 0 s)) → Comes r old new (for_begins values f (under old.present))
  for_ends values e =
      comes_as r old new (λ s. GoOn (moved_to at f ∷ under old.present) (set_status 0 s)) (for_begins values f (under old.present))
      (λ s. ap (λ (x : At). GoOn (moved_to x f ∷ under old.present) (set_status 0 s)) there ∙ sym (ap (λ (x : List Text). for_begins x f (under old.present) s) e))

  turns : (child : RunningFrame) (values : List Text) → child ≡ values_frame f values → (values ≡ [] → ⊥) → (s : State) → GoOn (child ∷ moved_to at f ∷ under old.present) s ≡ for_begins values f (under old.present) s
  turns child [] c h s = absurd (h refl)
  turns child (v ∷ vs) c h s =
      ap (λ (x : RunningFrame). GoOn (x ∷ moved_to at f ∷ under old.present) s) c
      ∙ ap (λ (x : At). GoOn (values_frame f (v ∷ vs) ∷ moved_to x f ∷ under old.present) s) there

  pub for_turns : (child : RunningFrame) (values : List Text) → child ≡ values_frame f values → (values ≡ [] → ⊥) → Comes r old new (GoOn (child ∷ moved_to at f ∷ under old.present)) → Comes r old new (for_begins values f (under old.present))
  for_turns child values c h = comes_as r old new (GoOn (child ∷ moved_to at f ∷ under old.present)) (for_begins values f (under old.present)) (turns child values c h)
