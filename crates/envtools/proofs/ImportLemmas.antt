-- The variables that U-Boot reads from an image, one after another.
use Rattle.std.proofs.Common.{◌≡◌, ◌≢◌, ℕ, zero, suc, ◌+◌, ◌==◌, ◌&&◌, ◌||◌, not, Bool, true, false, cond, take, List, [], ◌∷◌, ◌++◌, map, Some, refl, sym, ap, subst, ◌∙◌, arith, add-one}
use Rattle.std.specs.Prelude.{slice_get, filter, if◌then◌else◌}
use Rattle.std.specs.List.{AllByRecursion, list_any}
use Rattle.std.proofs.lemmas.List.{append-nil, map-append}
use Rattle.std.proofs.lemmas.List.Elements.{filter-append}
use Rattle.std.proofs.lemmas.List.Folds.{list_any-append}
use Rattle.std.proofs.lemmas.Option.{none-some}
use Rattle.text.specs.Words.{cut_front, is_space}
use Rattle.envimage.specs.Data.{Pair, IsNameByte, IsVariable}
use Rattle.std.specs.Cmp.Lexicographic.{nat_list_eq_equiv}
use Rattle.envtools.specs.Environment.{assigned, env_of, same, HasDistinctNames}
use Rattle.envtools.specs.Importing.{imported_name, imported_value, imported_pair, is_read, is_doubtful, names_variable, is_set, with_imported, imported}
use Rattle.envtools.proofs.EnvOf.{env_of-snoc, take-next, all-at}

abbrev HasNoNul : List ℕ → Type 0
HasNoNul = AllByRecursion (λ b. b ≢ 0)

kept_byte : (skips : Bool) (byte : ℕ) (bytes : List ℕ) → byte ≢ 0 → ((behind : Bool) → HasNoNul (imported_value behind bytes)) → HasNoNul (elim skips [ true ↦ imported_value true bytes | false ↦ byte ∷ imported_value false bytes ])
kept_byte true byte bytes b rest = rest true
kept_byte false byte bytes b rest = (b, rest false)

no_nul : (behind : Bool) (value : List ℕ) → HasNoNul value → HasNoNul (imported_value behind value)
no_nul true [] all = (omega arith, tt)
no_nul false [] all = tt
no_nul behind (byte ∷ bytes) all = kept_byte (byte == 92 && not behind) byte bytes all.0 (λ b. no_nul b bytes all.1)

cut_byte : (P : ℕ → Type 0) (cuts : Bool) (byte : ℕ) (bytes : List ℕ) → P byte → AllByRecursion P bytes → AllByRecursion P (cut_front is_space bytes) → AllByRecursion P (cond cuts (cut_front is_space bytes) (byte ∷ bytes))
cut_byte P true byte bytes first all cut = cut
cut_byte P false byte bytes first all cut = (first, all)

all_cut : (P : ℕ → Type 0) (name : List ℕ) → AllByRecursion P name → AllByRecursion P (cut_front is_space name)
all_cut P [] all = tt
all_cut P (byte ∷ bytes) all = cut_byte P (is_space byte) byte bytes all.0 all.1 (all_cut P bytes all.1)

-- what names a variable is not empty
some_left : (cut : List ℕ) → names_variable cut ≡ true → cut ≢ []
some_left [] e none = absurd (let f = e in cc)
some_left (byte ∷ bytes) e none = absurd (cc)

pub imported_is_variable : (name value cut made : List ℕ) → cut ≡ imported_name name → made ≡ imported_value false value → names_variable cut ≡ true → IsVariable (name, value) → IsVariable (cut, made)
imported_is_variable name value cut made c e named v = record {
  named = some_left cut named;
  name = subst (AllByRecursion IsNameByte) (sym c) (all_cut IsNameByte name v.name);
  value = subst HasNoNul (sym e) (no_nul false value v.value);
}

-- what is imported of the variables in front of a place
abbrev pub imported_of : List Pair → List Pair
imported_of pairs = env_of (map imported_pair (filter is_read pairs))

one_more : (kept : Bool) (pairs : List Pair) (p : Pair) → is_read p ≡ kept → env_of (map imported_pair (filter is_read pairs) ++ map imported_pair (cond kept (p ∷ []) [])) ≡ cond kept (assigned (imported_of pairs) (imported_name p.0) (imported_value false p.1)) (imported_of pairs)
one_more true pairs p e = env_of-snoc (map imported_pair (filter is_read pairs)) (imported_pair p)
one_more false pairs p e = ap env_of (append-nil (map imported_pair (filter is_read pairs)))

pub imported_next : (pairs : List Pair) (place : ℕ) (p : Pair) → slice_get pairs place ≡ Some p → with_imported (imported_of (take place pairs)) p ≡ imported_of (take (place + 1) pairs)
imported_next pairs place p there =
    let before = take place pairs in
    sym (ap imported_of (take-next pairs place p there)
    ∙ ap (λ kept. env_of (map imported_pair kept)) (filter-append is_read before (p ∷ []))
    ∙ ap env_of (map-append imported_pair (filter is_read before) (filter is_read (p ∷ [])))
    ∙ one_more (is_read p) before p refl)

pub none_blank_next : (pairs : List Pair) (place : ℕ) (p : Pair) → slice_get pairs place ≡ Some p → list_any is_doubtful (take place pairs) ≡ false → is_doubtful p ≡ false → list_any is_doubtful (take (place + 1) pairs) ≡ false
none_blank_next pairs place p there before here =
    ap (list_any is_doubtful) (take-next pairs place p there)
    ∙ list_any-append is_doubtful (take place pairs) (p ∷ [])
    ∙ (λ i. before i || (here i || false))

one_blank : (pairs : List Pair) (place : ℕ) (p : Pair) → slice_get pairs place ≡ Some p → is_doubtful p ≡ true → list_any is_doubtful pairs ≡ true
one_blank [] place p there blank = absurd (none-some p there)
one_blank (q ∷ pairs) zero p there blank =
    let one : q ≡ p = cc in
    ap (λ (r : Pair). is_doubtful r || list_any is_doubtful pairs) one ∙ ap (λ (b : Bool). b || list_any is_doubtful pairs) blank
one_blank (q ∷ pairs) (suc place) p there blank =
    ap (λ (b : Bool). is_doubtful q || b) (one_blank pairs place p there blank) ∙ or_true (is_doubtful q)
  where
    or_true : (b : Bool) → (b || true) ≡ true
    or_true true = refl
    or_true false = refl

pub none_imported : (pairs : List Pair) (place : ℕ) (p : Pair) → slice_get pairs place ≡ Some p → is_doubtful p ≡ true → [] ≡ imported pairs
none_imported pairs place p there blank = sym (ap (λ (b : Bool). if b then [] else filter is_set (imported_of pairs)) (one_blank pairs place p there blank))

pub all_imported : (pairs : List Pair) → list_any is_doubtful pairs ≡ false → filter is_set (imported_of pairs) ≡ imported pairs
all_imported pairs none = sym (ap (λ (b : Bool). if b then [] else filter is_set (imported_of pairs)) none)

-- ---- the variables that are set

behind_first : (first : Bool) (q p : Pair) (before after : List Pair) → same p.0 q.0 ≡ false → assigned before p.0 p.1 ≡ after → assigned (cond first (q ∷ before) before) p.0 p.1 ≡ cond first (q ∷ after) after
behind_first true q p before after apart e = rw apart (ap (λ t. q ∷ t) e)
behind_first false q p before after apart e = e

set_suc : (pairs : List Pair) (place : ℕ) (p : Pair) → HasDistinctNames pairs → slice_get pairs place ≡ Some p → is_set p ≡ true → assigned (filter is_set (take place pairs)) p.0 p.1 ≡ filter is_set (take (suc place) pairs)
set_suc [] place p d there kept = absurd (none-some p there)
set_suc (q ∷ pairs) zero p d there kept = let one : p ≡ q = cc in rw (sym (ap is_set one) ∙ kept) (ap (λ r. r ∷ []) one)
set_suc (q ∷ pairs) (suc place) p d there kept =
    let apart : same q.0 p.0 ≡ false = all-at (λ r. same q.0 r.0 ≡ false) pairs place p d.0 there in
    behind_first (is_set q) q p (filter is_set (take place pairs)) (filter is_set (take (suc place) pairs)) (nat_list_eq_equiv.symm p.0 q.0 ∙ apart) (set_suc pairs place p d.1 there kept)

-- a variable that is set is the next one
pub set_next : (pairs : List Pair) (place : ℕ) (p : Pair) → HasDistinctNames pairs → slice_get pairs place ≡ Some p → is_set p ≡ true → assigned (filter is_set (take place pairs)) p.0 p.1 ≡ filter is_set (take (place + 1) pairs)
set_next pairs place p d there kept = rw add-one (set_suc pairs place p d there kept)

-- and one that is not set leaves them as they are
pub unset_next : (pairs : List Pair) (place : ℕ) (p : Pair) → slice_get pairs place ≡ Some p → is_set p ≡ false → filter is_set (take place pairs) ≡ filter is_set (take (place + 1) pairs)
unset_next pairs place p there empty =
    let before = take place pairs in
    sym (ap (filter is_set) (take-next pairs place p there)
    ∙ filter-append is_set before (p ∷ [])
    ∙ ap (λ (b : Bool). filter is_set before ++ cond b (p ∷ []) []) empty
    ∙ append-nil (filter is_set before))
