-- The places of the causes of a number.
use Rattle.std.proofs.Common.{ℕ, suc, Bool, true, false, cond, ◌||◌, List, [], ◌∷◌, ◌++◌, Option, Some, None, length, refl, sym, ap, ◌∙◌, ◌≡◌, ◌+◌, nat_eq, append_assoc, arith}
use Rattle.std.proofs.lemmas.List.{length-append}
use Rattle.std.specs.HashMap.{get}
use Rattle.std.specs.List.{list_any, slice_get}
use Rattle.std.specs.declared.alloc.Global.{Global}
use Rattle.std.specs.declared.vec.Vec.{Vec}
use Rattle.rehearse_causes.specs.Causes.{Cause, covers}
use Rattle.rehearse_causes.specs.Keeping.{AreNoted, NotesOne, is_covered_by, is_one_covering, noted, places_from, places_in}
use Rattle.rehearse_causes.specs.Numbers.{cause_number}
use Rattle.rehearse_causes.specs.declared.kept.Kept.{Kept}

got : (before : List Cause) (k : Cause) (ks : List Cause) → slice_get (before ++ k ∷ ks) (length before) ≡ Some k
got [] k ks = refl
got (b ∷ before) k ks = got before k ks

found_from : (n : ℕ) (c : Cause) (all before : List Cause) (place : ℕ) (ks : List Cause) → all ≡ before ++ ks → place ≡ length before
    → list_any (λ p. is_one_covering (slice_get all p) c) (places_from place n ks) ≡ is_covered_by n ks c
found_from n c all before place [] h l = refl
found_from n c all before place (k ∷ ks) h l =
    by (nat_eq (cause_number k) n) refl
    (found_from n c all (before ++ k ∷ []) (suc place) ks (h ∙ sym (append_assoc before (k ∷ []) ks)) (next (length-append before (k ∷ []))))
  where
    next : length (before ++ k ∷ []) ≡ length before + 1 → suc place ≡ length (before ++ k ∷ [])
    next e = omega (arith, e, l)

    here : slice_get all place ≡ Some k
    here = ap (λ (cs : List Cause). slice_get cs place) h ∙ ap (λ (p : ℕ). slice_get (before ++ k ∷ ks) p) l ∙ got before k ks

    by : (b : Bool) → nat_eq (cause_number k) n ≡ b
        → list_any (λ p. is_one_covering (slice_get all p) c) (places_from (suc place) n ks) ≡ is_covered_by n ks c
        → list_any (λ p. is_one_covering (slice_get all p) c) (places_from place n (k ∷ ks)) ≡ is_covered_by n (k ∷ ks) c
    by true e on =
        rw e (ap (λ (o : Option Cause). is_one_covering o c || list_any (λ p. is_one_covering (slice_get all p) c) (places_from (suc place) n ks)) here
        ∙ ap (λ (b : Bool). covers k c || b) on)
    by false e on = rw e on

-- one of a number covers a cause
pub found_at_places : (n : ℕ) (ks : List Cause) (c : Cause) → list_any (λ p. is_one_covering (slice_get ks p) c) (places_from 0 n ks) ≡ is_covered_by n ks c
found_at_places n ks c = found_from n c ks [] 0 ks refl refl

places_more_from : (n place : ℕ) (ks : List Cause) (c : Cause) → places_from place n (ks ++ c ∷ []) ≡ places_from place n ks ++ cond (nat_eq (cause_number c) n) ((place + length ks) ∷ []) []
places_more_from n place [] c =
    let here : place ≡ place + 0 = omega arith in
    ap (λ (p : ℕ). cond (nat_eq (cause_number c) n) (p ∷ []) []) here
places_more_from n place (k ∷ ks) c = by (nat_eq (cause_number k) n) refl (places_more_from n (suc place) ks c ∙ ap (λ (p : ℕ). places_from (suc place) n ks ++ cond (nat_eq (cause_number c) n) (p ∷ []) []) further)
  where
    further : suc place + length ks ≡ place + length (k ∷ ks)
    further = omega arith

    by : (b : Bool) → nat_eq (cause_number k) n ≡ b
        → places_from (suc place) n (ks ++ c ∷ []) ≡ places_from (suc place) n ks ++ cond (nat_eq (cause_number c) n) ((place + length (k ∷ ks)) ∷ []) []
        → places_from place n (k ∷ ks ++ c ∷ []) ≡ places_from place n (k ∷ ks) ++ cond (nat_eq (cause_number c) n) ((place + length (k ∷ ks)) ∷ []) []
    by true e on = rw e (ap (λ (ps : List ℕ). place ∷ ps) on)
    by false e on = rw e on

-- one more cause
pub places_more : (n : ℕ) (ks : List Cause) (c : Cause) → places_from 0 n (ks ++ c ∷ []) ≡ places_from 0 n ks ++ cond (nat_eq (cause_number c) n) (length ks ∷ []) []
places_more n ks c =
    let here : 0 + length ks ≡ length ks = omega arith in
    places_more_from n 0 ks c ∙ ap (λ (p : ℕ). places_from 0 n ks ++ cond (nat_eq (cause_number c) n) (p ∷ []) []) here

-- ---- as they are noted

pub found_where : (kept : Kept) (n : ℕ) (places : Vec ℕ Global) (c : Cause) → AreNoted kept → get nat_eq kept.places n ≡ Some places
    → list_any (λ p. is_one_covering (slice_get kept.causes.items p) c) places.items ≡ is_covered_by n kept.causes.items c
found_where kept n places c are is =
    ap (list_any (λ p. is_one_covering (slice_get kept.causes.items p) c)) (sym (ap places_in is) ∙ are n) ∙ found_at_places n kept.causes.items c

pub found_nowhere : (kept : Kept) (n : ℕ) (c : Cause) → AreNoted kept → get nat_eq kept.places n ≡ None → false ≡ is_covered_by n kept.causes.items c
found_nowhere kept n c are is =
    ap (list_any (λ p. is_one_covering (slice_get kept.causes.items p) c)) (sym (ap places_in is) ∙ are n) ∙ found_at_places n kept.causes.items c

pub noted_with : (old mid : Kept) (number place : ℕ) (c : Cause) (items : List Cause) → AreNoted old → NotesOne old mid number place
    → number ≡ cause_number c → place ≡ length old.causes.items → items ≡ old.causes.items ++ c ∷ [] → (n : ℕ) → noted mid n ≡ places_from 0 n items
noted_with old mid number place c items are notes is at more n =
    notes n
    ∙ ap (λ (ps : List ℕ). ps ++ cond (nat_eq number n) (place ∷ []) []) (are n)
    ∙ ap (λ (m : ℕ). places_from 0 n old.causes.items ++ cond (nat_eq m n) (place ∷ []) []) is
    ∙ ap (λ (p : ℕ). places_from 0 n old.causes.items ++ cond (nat_eq (cause_number c) n) (p ∷ []) []) at
    ∙ sym (places_more n old.causes.items c)
    ∙ ap (places_from 0 n) (sym more)
