-- The files in memory, seen as paths with their bytes.
use Rattle.std.proofs.Common.{◌≡◌, ◌∙◌, ◌<◌, ◌+◌, ℕ, zero, suc, Bool, true, false, cond, refl, sym, ap, subst, List, [], ◌∷◌, length, map, get_or, set, take, Option, Some, None, option_map, arith, string_bytes}
use Rattle.std.specs.Prelude.{nat_lt, nat_le}
use Rattle.std.specs.Option.{option_map_or}
use Rattle.std.proofs.Common.{add-zero}
use Rattle.std.proofs.lemmas.List.{take-append-drop}
use Rattle.std.proofs.lemmas.Map.Steps.{set_value_same}
use Rattle.std.specs.List.{find, position, position_or_len, slice_get}
use Rattle.std.specs.Str.{bytes_eq}
use Rattle.std.specs.Map.{lookup, set_value}
use Rattle.std.proofs.lemmas.Bool.{ltb-true, ltb-false}
use Rattle.std.proofs.lemmas.List.Folds.{find_at}
use Rattle.std.proofs.lemmas.Option.{slice_get-get_or, slice_get_past}
use Rattle.tool_files.specs.MemoryFiles.{file_of, put, reaches}
use Rattle.tool_files.specs.Told.{Stored, file_at, overwritten, written}
use Rattle.tool_files.specs.declared.memory_files.MemoryFile.{MemoryFile}

-- the file has this path
abbrev pub has_path : List ℕ → MemoryFile → Bool
has_path path f = bytes_eq path (string_bytes f.path)

-- a look-up finds the first file of the path
pub lookup-seen : (path : List ℕ) (fs : List MemoryFile)
    → lookup (bytes_eq path) (map file_of fs) ≡ option_map (λ f. f.bytes.items) (find (has_path path) fs)
lookup-seen path [] = refl
lookup-seen path (f ∷ fs) = go (has_path path f) refl (lookup-seen path fs)
  where
    go : (b : Bool) → has_path path f ≡ b
        → lookup (bytes_eq path) (map file_of fs) ≡ option_map (λ f. f.bytes.items) (find (has_path path) fs)
        → lookup (bytes_eq path) (map file_of (f ∷ fs)) ≡ option_map (λ f. f.bytes.items) (find (has_path path) (f ∷ fs))
    go true e rest = rw e refl
    go false e rest = rw e rest

-- what the place of the first that passes is
pub place_is : {X : Type 0} (p : X → Bool) (xs : List X) (i : ℕ) → position p xs ≡ Some i → (position_or_len p xs ≡ i) × (i < length xs)
place_is p xs i = go (nat_lt (position_or_len p xs) (length xs)) refl
  where
    go : (b : Bool) → nat_lt (position_or_len p xs) (length xs) ≡ b → cond b (Some (position_or_len p xs)) None ≡ Some i → (position_or_len p xs ≡ i) × (i < length xs)
    go true e h =
        let same : position_or_len p xs ≡ i = cc in
        (same, subst (λ (n : ℕ). n < length xs) same (ltb-true _ _ e))
    go false e h = let bad : ⊥ = cc in absurd bad

pub find_none : {X : Type 0} (p : X → Bool) (xs : List X) → position p xs ≡ None → find p xs ≡ None
find_none p xs = go (nat_lt (position_or_len p xs) (length xs)) refl
  where
    go : (b : Bool) → nat_lt (position_or_len p xs) (length xs) ≡ b → cond b (Some (position_or_len p xs)) None ≡ None → find p xs ≡ None
    go true e h = let bad : ⊥ = cc in absurd bad
    go false e h = find_at p xs ∙ slice_get_past xs (position_or_len p xs) (ltb-false _ _ e)

-- the bytes at the path are those of the file at its place
pub lookup-place : (path : List ℕ) (fs : List MemoryFile) (i : ℕ) (d : MemoryFile) → position (has_path path) fs ≡ Some i
    → lookup (bytes_eq path) (map file_of fs) ≡ Some (get_or fs i d).bytes.items
lookup-place path fs i d place =
    let at = place_is (has_path path) fs i place in
    let found : find (has_path path) fs ≡ Some (get_or fs i d) =
    find_at (has_path path) fs ∙ ap (slice_get fs) at.0 ∙ slice_get-get_or fs i d at.1 in
    lookup-seen path fs ∙ ap (option_map (λ f. f.bytes.items)) found

pub lookup-no_place : (path : List ℕ) (fs : List MemoryFile) → position (has_path path) fs ≡ None
    → lookup (bytes_eq path) (map file_of fs) ≡ None
lookup-no_place path fs none = lookup-seen path fs ∙ ap (option_map (λ f. f.bytes.items)) (find_none (has_path path) fs none)

-- a file at the place of the first of its path, written back with other bytes
pub set-seen : (path : List ℕ) (fs : List MemoryFile) (i : ℕ) (new d : MemoryFile) → position_or_len (has_path path) fs ≡ i → i < length fs
    → string_bytes new.path ≡ string_bytes (get_or fs i d).path
    → map file_of (set fs i new) ≡ set_value (bytes_eq path) (map file_of fs) new.bytes.items
set-seen path [] i new d place within same = absurd (omega arith)
set-seen path (f ∷ fs) i new d place within same =
    go (has_path path f) refl i place within same (λ k p w s. set-seen path fs k new d p w s)
  where
    go : (b : Bool) → has_path path f ≡ b → (k : ℕ) → position_or_len (has_path path) (f ∷ fs) ≡ k → k < length (f ∷ fs)
        → string_bytes new.path ≡ string_bytes (get_or (f ∷ fs) k d).path
        → ((j : ℕ) → position_or_len (has_path path) fs ≡ j → j < length fs → string_bytes new.path ≡ string_bytes (get_or fs j d).path
        → map file_of (set fs j new) ≡ set_value (bytes_eq path) (map file_of fs) new.bytes.items)
        → map file_of (set (f ∷ fs) k new) ≡ set_value (bytes_eq path) (map file_of (f ∷ fs)) new.bytes.items
    go true e zero place within same rest = rw e (ap (λ (q : List ℕ). (q, new.bytes.items) ∷ map file_of fs) same)
    go true e (suc k) place within same rest = let bad : 0 ≡ suc k = rw e at place in absurd (omega arith)
    go false e zero place within same rest = let bad : 1 + position_or_len (has_path path) fs ≡ 0 = rw e at place in absurd (omega arith)
    go false e (suc k) place within same rest =
        let next : 1 + position_or_len (has_path path) fs ≡ suc k = rw e at place in
        rw e (ap (λ (q : List (List ℕ × List ℕ)). file_of f ∷ q) (rest k (omega arith) (omega arith) same))

-- bytes put over those of the file at the place
pub put-seen : (path : List ℕ) (fs : List MemoryFile) (i offset : ℕ) (bytes : List ℕ) (old new : MemoryFile) → position (has_path path) fs ≡ Some i
    → old ≡ get_or fs i old → string_bytes new.path ≡ string_bytes old.path
    → new.bytes.items ≡ cond (nat_le (offset + length bytes) (length old.bytes.items)) (overwritten old.bytes.items offset bytes) old.bytes.items
    → map file_of (set fs i new) ≡ put path offset bytes (map file_of fs)
put-seen path fs i offset bytes old new place is path_same bytes_are =
    let at = place_is (has_path path) fs i place in
    let there : file_at path (map file_of fs) ≡ Some old.bytes.items = lookup-place path fs i old place ∙ ap (λ f. Some f.bytes.items) (sym is) in
    let moved = set-seen path fs i new old at.0 at.1 (path_same ∙ ap (λ f. string_bytes f.path) is) in
    moved ∙ rw there (go (nat_le (offset + length bytes) (length old.bytes.items)) bytes_are there)
  where
    go : (b : Bool) → new.bytes.items ≡ cond b (overwritten old.bytes.items offset bytes) old.bytes.items
        → lookup (bytes_eq path) (map file_of fs) ≡ Some old.bytes.items
        → set_value (bytes_eq path) (map file_of fs) new.bytes.items
        ≡ cond b (set_value (bytes_eq path) (map file_of fs) (overwritten old.bytes.items offset bytes)) (map file_of fs)
    go true are there = ap (set_value (bytes_eq path) (map file_of fs)) are
    go false are there = ap (set_value (bytes_eq path) (map file_of fs)) are ∙ set_value_same (bytes_eq path) (map file_of fs) old.bytes.items there

-- no bytes put over others
pub written-nothing : (path : List ℕ) (offset : ℕ) (stored : Stored) → written path offset [] stored ≡ stored
written-nothing path offset stored = go (file_at path stored) refl
  where
    go : (o : Option (List ℕ)) → file_at path stored ≡ o → option_map_or (λ old. set_value (bytes_eq path) stored (overwritten old offset [])) o stored ≡ stored
    go None e = refl
    go (Some old) e =
        let same : overwritten old offset [] ≡ old = rw add-zero (take-append-drop offset old) in
        ap (set_value (bytes_eq path) stored) same ∙ set_value_same (bytes_eq path) stored old e

-- if a prefix was to be written, some prefix was
pub put-part : (path : List ℕ) (offset kept : ℕ) (bytes : List ℕ) (stored : Stored)
    → (n : ℕ) × (put path offset (take kept bytes) stored ≡ written path offset (take n bytes) stored)
put-part path offset kept bytes stored = go (reaches (file_at path stored) offset (length (take kept bytes)))
  where
    go : (b : Bool) → (n : ℕ) × (cond b (written path offset (take kept bytes) stored) stored ≡ written path offset (take n bytes) stored)
    go true = (kept, refl)
    go false = (0, sym (written-nothing path offset stored))
