-- Keys with what a moment has at them: one after another, and at two moments.
use Rattle.std.proofs.Common.{◌≡◌, ◌∙◌, refl, sym, ap, subst, ℕ, zero, suc, arith, ◌+◌, ◌<◌, ◌≤◌, List, [], ◌∷◌, ◌++◌, length, take, get_or, append_assoc, append-nil, add-one, Option, Vec, Global, Bool, true, false, IsTrue, inl, inr}
use Rattle.std.proofs.Math.Bool.{beq}
use Rattle.std.proofs.Math.Seq.{take-suc}
use Rattle.std.proofs.lemmas.List.{map-append, take_all}
use Rattle.std.specs.FinMap.{get-entries}
use Rattle.bootstore_state.specs.Moment.{Moment}
use Rattle.bootstore_state.specs.StoredState.{state_at}
use Rattle.rehearse_reads.specs.Keys as keys
use Rattle.rehearse_reads.specs.Keys.{AgreeAt, AgreeOn, IsAmong}
use Rattle.rehearse_reports.specs.declared.key.Key.{Key}
use Rattle.rehearse_reports.specs.declared.known.Known.{Known}
use Rattle.rehearse_reports.specs.declared.known.Known.TheVariants.{Environment, Local, AnswerTo, Succeeded, Status}
use Rattle.rehearse_reports.specs.ReportsShown.{key_shown, keys_shown}
use Rattle.rehearse_reports.specs.Known.{value_shown, key_of, keys_of, Holds, AllHold}

-- answers that are found equal are equal
pub same_answer : (a b : Bool) → IsTrue (beq a b) → a ≡ b
same_answer true true h = refl
same_answer true false h = absurd (let g = h in cc)
same_answer false true h = absurd (let g = h in cc)
same_answer false false h = refl

pub answer_told : (a b : Bool) → a ≡ b → IsTrue (beq a b)
answer_told true true h = refl
answer_told true false h = absurd (let g = h in cc)
answer_told false true h = absurd (let g = h in cc)
answer_told false false h = refl

-- of things that hold each holds
pub holds_one : (m : Moment) (all : List Known) (i : ℕ) (known : Known) → i < length all → known ≡ get_or all i known → AllHold m all → Holds m known
holds_one m [] i known within is h = absurd (omega arith)
holds_one m (k ∷ all) zero known within is h = subst (Holds m) (sym is) h.0
holds_one m (k ∷ all) (suc i) known within is h = holds_one m all i known (omega arith) is h.1

pub hold_more : (m : Moment) (some more : List Known) → AllHold m some → AllHold m more → AllHold m (some ++ more)
hold_more m [] more h k = k
hold_more m (known ∷ some) more h k = (h.0, hold_more m some more h.1 k)

-- the first ones, and one more
pub hold_next : (m : Moment) (all : List Known) (i : ℕ) (known : Known) → i < length all → known ≡ get_or all i known → AllHold m (take i all) → Holds m known → AllHold m (take (i + 1) all)
hold_next m all i known within is h k =
    let items : take (i + 1) all ≡ take i all ++ known ∷ [] = ap (λ (n : ℕ). take n all) (add-one i) ∙ take-suc all i known within ∙ ap (λ (k : Known). take i all ++ k ∷ []) (sym is) in
    subst (AllHold m) (sym items) (hold_more m (take i all) (known ∷ []) h (k, tt))

pub hold_all : (m : Moment) (all : List Known) (i : ℕ) → length all ≤ i → AllHold m (take i all) → AllHold m all
hold_all m all i past h = subst (AllHold m) (take_all i all past) h

-- ---- what is known of keys, one after another

pub known_next : (old new : List Known) (key : Key) (rest : List Key) (all : List keys.Key) (known : Known) → new ≡ old ++ known ∷ [] → key_of known ≡ key_shown key → keys_of old ++ keys_shown (key ∷ rest) ≡ all → keys_of new ++ keys_shown rest ≡ all
known_next old new key rest all known is same h =
    ap (λ (ks : List Known). keys_of ks ++ keys_shown rest) is
    ∙ ap (λ (ks : List keys.Key). ks ++ keys_shown rest) (map-append key_of old (known ∷ []))
    ∙ append_assoc (keys_of old) (key_of known ∷ []) (keys_shown rest)
    ∙ ap (λ (k : keys.Key). keys_of old ++ k ∷ keys_shown rest) same
    ∙ h

pub known_all : (known : List Known) (rest : List Key) (all : List keys.Key) → rest ≡ [] → keys_of known ++ keys_shown rest ≡ all → keys_of known ≡ all
known_all known rest all none h = sym (append-nil (keys_of known)) ∙ ap (λ (ks : List Key). keys_of known ++ keys_shown ks) (sym none) ∙ h

-- ---- two moments that have the same at keys agree on them

agree_at : (m n : Moment) (known : Known) → Holds m known → Holds n known → AgreeAt (key_of known) (state_at m []) (state_at n [])
agree_at m n (Environment name value) h k = sym (get-entries n.environment name.items) ∙ k ∙ sym h ∙ get-entries m.environment name.items
agree_at m n (Local name value) h k = sym (get-entries n.locals name.items) ∙ k ∙ sym h ∙ get-entries m.locals name.items
agree_at m n (AnswerTo call answer) h k = k ∙ sym h
agree_at m n (Succeeded start has) h k = k ∙ sym h
agree_at m n (Status status) h k = k ∙ sym h

pub agree_on_known : (m n : Moment) (all : List Known) → AllHold m all → AllHold n all → AgreeOn (keys_of all) (state_at m []) (state_at n [])
agree_on_known m n [] h k key among = absurd among
agree_on_known m n (known ∷ all) h k key (inl same) = subst (λ (x : keys.Key). AgreeAt x (state_at m []) (state_at n [])) (sym same) (agree_at m n known h.0 k.0)
agree_on_known m n (known ∷ all) h k key (inr among) = agree_on_known m n all h.1 k.1 key among
