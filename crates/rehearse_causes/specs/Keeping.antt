-- The causes of which none is covered by one before it, and where those of a number are. Ours.
use Rattle.std.specs.Prelude.{ℕ, suc, ◌≡◌, nat_eq, Bool, false, cond, ◌&&◌, List, [], ◌∷◌, ◌++◌, fold, Option, Some, None}
use Rattle.std.specs.List.{list_any}
use Rattle.std.specs.HashMap.{get}
use Rattle.std.specs.declared.alloc.Global.{Global}
use Rattle.std.specs.declared.vec.Vec.{Vec}
use Rattle.rehearse_causes.specs.Causes.{Cause, covers}
use Rattle.rehearse_causes.specs.Numbers.{cause_number}
use Rattle.rehearse_causes.specs.declared.kept.Kept.{Kept}

-- one of them covers a cause
abbrev pub is_covered : List Cause → Cause → Bool
is_covered kept cause = list_any (λ one. covers one cause) kept

-- with one more, if none covers it
abbrev pub with_cause : List Cause → Cause → List Cause
with_cause kept cause = cond (is_covered kept cause) kept (kept ++ cause ∷ [])

abbrev pub foremost : List Cause → List Cause
foremost causes = fold with_cause [] causes

-- one has this number and covers a cause
abbrev pub is_covered_by : (number : ℕ) → List Cause → Cause → Bool
is_covered_by number kept cause = list_any (λ one. nat_eq (cause_number one) number && covers one cause) kept

-- there is one, and it covers a cause
abbrev pub is_one_covering : Option Cause → Cause → Bool
is_one_covering None cause = false
is_one_covering (Some one) cause = covers one cause

-- the places of those of a number, if the first is at this place
abbrev pub places_from : (place number : ℕ) → List Cause → List ℕ
places_from place number [] = []
places_from place number (c ∷ cs) = cond (nat_eq (cause_number c) number) (place ∷ places_from (suc place) number cs) (places_from (suc place) number cs)

-- the places that a vector holds, if there is one
abbrev pub places_in : Option (Vec ℕ Global) → List ℕ
places_in None = []
places_in (Some places) = places.items

-- the places of this number
abbrev pub noted : Kept → (number : ℕ) → List ℕ
noted kept number = places_in (get nat_eq kept.places number)

-- the places under each number are those of its causes
abbrev pub AreNoted : Kept → Type 0
AreNoted kept = (number : ℕ) → noted kept number ≡ places_from 0 number kept.causes.items

-- one more place is under a number, and nothing else is new
abbrev pub NotesOne : (old new : Kept) → (number place : ℕ) → Type 0
NotesOne old new number place = (n : ℕ) → noted new n ≡ noted old n ++ cond (nat_eq number n) (place ∷ []) []
