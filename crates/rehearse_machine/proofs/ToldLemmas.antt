-- Answers that stay, found in a log.
use Rattle.std.proofs.Common.{ℕ, Bool, true, false, not, cond, ◌&&◌, List, [], ◌∷◌, ◌≡◌, ◌<◌, ◌≤◌, ◌+◌, length, drop, get_or, map, Option, Some, None, Result, Ok, Err, refl, sym, ap, subst, ◌∙◌, nat_lt, ltb-false, arith}
use Rattle.std.proofs.Math.ListN.{drop_of_length-le}
use Rattle.std.specs.Prelude.{Vec}
use Rattle.std.specs.Cmp.Lexicographic.{pointwise}
use Rattle.std.specs.Str.{bytes_eq}
use Rattle.std.specs.declared.alloc.Global.{Global}
use Rattle.hushlang.proofs.ExpandLemmas.{drop_next}
use Rattle.bootstore_state.specs.declared.store.StoreError.{StoreError}
use Rattle.bootstore_state.specs.Record.{Record}
use Rattle.bootstore_state.specs.StoredState.{state_at}
use Rattle.rehearse_terms.specs.State.{Text, LoggedCommand, same_words, answer_in}
use Rattle.text.specs.TextsShown.{bytes_of_words}
use Rattle.rehearse_rules.specs.Needs.{has_succeeded, is_met}
use Rattle.rehearse_rules.specs.Execution.{Limits, Request, CutDevices, succeeds, outcome_when, told}
use Rattle.rehearse_machine.specs.declared.ask.Step.{Step}
use Rattle.rehearse_machine.specs.Places.{StopOn, place_answered, place_ask, place_tell_or_ask}
use Rattle.rehearse_machine.specs.MovesShown.{Comes}

-- words that are compared one by one
pub words_compared : (vs ws : List (Vec ℕ Global)) → pointwise (λ (v w : Vec ℕ Global). bytes_eq v.items w.items) vs ws ≡ same_words (map (λ v. v.items) vs) (map (λ w. w.items) ws)
words_compared [] [] = refl
words_compared [] (w ∷ ws) = refl
words_compared (v ∷ vs) [] = refl
words_compared (v ∷ vs) (w ∷ ws) = ap (λ (b : Bool). bytes_eq v.items w.items && b) (words_compared vs ws)

-- whether this entry has the answer
abbrev pub has_answer : LoggedCommand → (call : List Text) → Bool
has_answer e call = (not e.again && e.stays) && same_words call e.words

answer-cons : (e : LoggedCommand) (log : List LoggedCommand) (call : List Text) → answer_in (e ∷ log) call ≡ cond (has_answer e call) (Some e.success) (answer_in log call)
answer-cons e log call = by e.again e.stays refl refl
  where
    by : (again stays : Bool) → e.again ≡ again → e.stays ≡ stays → answer_in (e ∷ log) call ≡ cond (has_answer e call) (Some e.success) (answer_in log call)
    by true stays p q = rw p refl
    by false true p q = rw (p, q) refl
    by false false p q = rw (p, q) refl

module _ (log : List LoggedCommand) (call : List Text) (i : ℕ) (e : LoggedCommand) (within : i < length log) (is : e ≡ get_or log i e) where
  answer-at : answer_in (drop i log) call ≡ cond (has_answer e call) (Some e.success) (answer_in (drop (i + 1) log) call)
  answer-at = ap (λ (es : List LoggedCommand). answer_in es call) (drop_next log i e within is) ∙ answer-cons e (drop (i + 1) log) call

  pub answer_found : answer_in (drop i log) call ≡ answer_in log call → has_answer e call ≡ true → Some e.success ≡ answer_in log call
  answer_found before here = sym (ap (λ (b : Bool). cond b (Some e.success) (answer_in (drop (i + 1) log) call)) here) ∙ sym answer-at ∙ before

  pub answer_later : answer_in (drop i log) call ≡ answer_in log call → has_answer e call ≡ false → answer_in (drop (i + 1) log) call ≡ answer_in log call
  answer_later before here = sym (ap (λ (b : Bool). cond b (Some e.success) (answer_in (drop (i + 1) log) call)) here) ∙ sym answer-at ∙ before

pub no_answer : (log : List LoggedCommand) (call : List Text) (i : ℕ) → length log ≤ i → answer_in (drop i log) call ≡ answer_in log call → None ≡ answer_in log call
no_answer log call i past before = sym (ap (λ (es : List LoggedCommand). answer_in es call) (drop_of_length-le log past)) ∙ before

-- a request below the bound
pub ask_comes : (limits : Limits) (request : Request) (r : Result Step StoreError) (old new : Record) (answer : Option Bool) → nat_lt (length old.present.log) limits.device_bound ≡ true → told request old.present.log ≡ answer
    → Comes r old new (place_tell_or_ask answer request old.present.frames) → Comes r old new (place_ask limits request old.present.frames)
ask_comes limits request (Ok step) old new answer room is h = (
  λ w. h.0 w
      ∙ ap (λ (o : Option Bool). place_tell_or_ask o request old.present.frames (state_at old.present w)) (sym is)
      ∙ ap (λ (b : Bool). elim b [ true ↦ place_tell_or_ask (told request old.present.log) request old.present.frames (state_at old.present w) | false ↦ StopOn CutDevices (state_at old.present w) ]) (sym room),
  h.1,
)
ask_comes limits request (Err e) old new answer room is h = tt

-- ---- a call that is needed

pub met_some : (needs : List (Vec ℕ Global)) (log : List LoggedCommand) (b : Bool) → 1 ≤ length needs → b ≡ has_succeeded log (bytes_of_words needs) → b ≡ is_met (bytes_of_words needs) log
met_some [] log b some e = absurd (omega arith)
met_some (n ∷ ns) log b some e = e

-- ---- a request

pub outcome_succeeds : (b : Bool) → succeeds (outcome_when b) ≡ b
outcome_succeeds true = refl
outcome_succeeds false = refl

pub room_for : (asked bound : ℕ) → asked < bound → nat_lt asked bound ≡ true
room_for asked bound l = by (nat_lt asked bound) refl
  where
    by : (b : Bool) → nat_lt asked bound ≡ b → b ≡ true
    by true e = refl
    by false e = absurd (let m = ltb-false asked bound e in omega arith)

-- it is given its answer again
pub told_comes : (request : Request) (again success : Bool) (r : Result Step StoreError) (old new : Record) → again ≡ true → Comes r old new (place_answered (outcome_when success) (record request { again = again }) old.present.frames)
    → Comes r old new (place_tell_or_ask (Some success) request old.present.frames)
told_comes request again success r old new e h = subst (λ (b : Bool). Comes r old new (place_answered (outcome_when success) (record request { again = b }) old.present.frames)) e h
