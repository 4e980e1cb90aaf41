-- Boots in a set.
use Rattle.std.proofs.Common.{◌≡◌, ℕ, ◌+◌, ◌||◌, cond, Bool, true, false, not, List, [], ◌∷◌, ◌++◌, map, refl, sym, ap, ◌∙◌, if◌then◌else◌, Vec}
use Rattle.std.specs.List.{list_any, position_or_len, prefix_len}
use Rattle.std.specs.Cmp.Lexicographic.{pointwise}
use Rattle.std.specs.Cmp.Derive.Mapped.{pointwise-map}
use Rattle.std.specs.declared.alloc.Global.{Global}
use Rattle.envtools.specs.Environment.{same}
use Rattle.indexmap.specs.IndexSet.{insert_key}
use Rattle.rehearse_boots.specs.Boots.{Kept, number_of, same_kept, with_boot}
use Rattle.rehearse_boots.specs.BootsShown.{kept_shown}
use Rattle.rehearse_boots.proofs.BootLemmas.{same_kept_itself}

abbrev pub Words : Type 0
Words = Vec (Vec ℕ Global) Global

abbrev pub eq : Words → Words → Bool
eq a b = pointwise (λ x y. same x.items y.items) a.items b.items

abbrev pub seen : List Words → List Kept
seen kept = map kept_shown kept

shown_eq : (a b : Words) → same_kept (kept_shown a) (kept_shown b) ≡ eq a b
shown_eq a b = pointwise-map (λ v. v.items) same a.items b.items

any_seen : (kept : Words) (keys : List Words) → list_any (eq kept) keys ≡ list_any (same_kept (kept_shown kept)) (seen keys)
any_seen kept [] = refl
any_seen kept (k ∷ keys) =
    ap (λ b. b || list_any (eq kept) keys) (sym (shown_eq kept k)) ∙ ap (λ b. same_kept (kept_shown kept) (kept_shown k) || b) (any_seen kept keys)

place_seen : (kept : Words) (keys : List Words) → prefix_len (λ x. not (eq kept x)) keys ≡ prefix_len (λ x. not (same_kept (kept_shown kept) x)) (seen keys)
place_seen kept [] = refl
place_seen kept (k ∷ keys) =
    ap (λ b. cond (not b) (1 + prefix_len (λ x. not (eq kept x)) keys) 0) (sym (shown_eq kept k))
    ∙ ap (λ n. cond (not (same_kept (kept_shown kept) (kept_shown k))) (1 + n) 0) (place_seen kept keys)

seen_append : (keys : List Words) (kept : Words) → seen (keys ++ kept ∷ []) ≡ seen keys ++ kept_shown kept ∷ []
seen_append [] kept = refl
seen_append (k ∷ keys) kept = ap (λ rest. kept_shown k ∷ rest) (seen_append keys kept)

seen_if : (b : Bool) (keys : List Words) (kept : Words) → seen (if b then keys else keys ++ kept ∷ []) ≡ (if b then seen keys else seen keys ++ kept_shown kept ∷ [])
seen_if true keys kept = refl
seen_if false keys kept = seen_append keys kept

-- one more
pub seen_insert : (old new : List Words) (boots : List Kept) (kept : Words) → seen old ≡ boots → new ≡ insert_key eq old kept → seen new ≡ with_boot boots (kept_shown kept)
seen_insert old new boots kept view e =
    ap seen e ∙ seen_if (list_any (eq kept) old) old kept
    ∙ ap (λ b. if b then seen old else seen old ++ kept_shown kept ∷ []) (any_seen kept old)
    ∙ ap (λ x. with_boot x (kept_shown kept)) view

-- ---- its number

place_last : (boots : List Kept) (kept : Kept) → list_any (same_kept kept) boots ≡ false → prefix_len (λ x. not (same_kept kept x)) (boots ++ kept ∷ []) ≡ prefix_len (λ x. not (same_kept kept x)) boots
place_last [] kept h = ap (λ s. cond (not s) 1 0) (same_kept_itself kept)
place_last (b ∷ boots) kept h = by (same_kept kept b) (place_last boots kept) h
  where
    by : (s : Bool) → (list_any (same_kept kept) boots ≡ false → prefix_len (λ x. not (same_kept kept x)) (boots ++ kept ∷ []) ≡ prefix_len (λ x. not (same_kept kept x)) boots) → (s || list_any (same_kept kept) boots) ≡ false → cond (not s) (1 + prefix_len (λ x. not (same_kept kept x)) (boots ++ kept ∷ [])) 0 ≡ cond (not s) (1 + prefix_len (λ x. not (same_kept kept x)) boots) 0
    by true rest k = refl
    by false rest k = ap (λ n. 1 + n) (rest k)

place_with : (boots : List Kept) (kept : Kept) → prefix_len (λ x. not (same_kept kept x)) (with_boot boots kept) ≡ prefix_len (λ x. not (same_kept kept x)) boots
place_with boots kept = by (list_any (same_kept kept) boots) refl
  where
    by : (s : Bool) → list_any (same_kept kept) boots ≡ s → prefix_len (λ x. not (same_kept kept x)) (if s then boots else boots ++ kept ∷ []) ≡ prefix_len (λ x. not (same_kept kept x)) boots
    by true h = refl
    by false h = place_last boots kept h

pub number_with : (old : List Words) (boots new : List Kept) (kept : Words) (place : ℕ) → seen old ≡ boots → new ≡ with_boot boots (kept_shown kept) → place ≡ position_or_len (eq kept) old → place + 1 ≡ number_of new (kept_shown kept)
number_with old boots new kept place view is at =
    ap (λ n. n + 1)
    (at ∙ place_seen kept old ∙ ap (λ x. position_or_len (same_kept (kept_shown kept)) x) view
    ∙ sym (place_with boots (kept_shown kept)) ∙ ap (λ x. position_or_len (same_kept (kept_shown kept)) x) (sym is))
