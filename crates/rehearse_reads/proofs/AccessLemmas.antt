-- Accesses one after another: what is read of them, and what is known after them.
use Rattle.std.proofs.Common.{◌≡◌, refl, List, [], ◌∷◌, ◌++◌}
use Rattle.rehearse_reads.specs.Keys.{Key, Access, Reads, Writes, AreAmong, all_read, ReadsWithin, known_after}

pub within_first : (known : List Key) (xs ys : List Access) → ReadsWithin known (xs ++ ys) → ReadsWithin known xs
within_first known [] ys h = tt
within_first known (Reads key ∷ xs) ys h = (h.0, within_first known xs ys h.1)
within_first known (Writes key ∷ xs) ys h = within_first (key ∷ known) xs ys h

pub within_then : (known : List Key) (xs ys : List Access) → ReadsWithin known (xs ++ ys) → ReadsWithin (known_after known xs) ys
within_then known [] ys h = h
within_then known (Reads key ∷ xs) ys h = within_then known xs ys h.1
within_then known (Writes key ∷ xs) ys h = within_then (key ∷ known) xs ys h

pub after_both : (known : List Key) (xs ys : List Access) → known_after known (xs ++ ys) ≡ known_after (known_after known xs) ys
after_both known [] ys = refl
after_both known (Reads key ∷ xs) ys = after_both known xs ys
after_both known (Writes key ∷ xs) ys = after_both (key ∷ known) xs ys

-- ---- keys that are read

pub among_first : (known xs ys : List Key) → AreAmong (xs ++ ys) known → AreAmong xs known
among_first known [] ys h = tt
among_first known (x ∷ xs) ys h = (h.0, among_first known xs ys h.1)

pub among_then : (known xs ys : List Key) → AreAmong (xs ++ ys) known → AreAmong ys known
among_then known [] ys h = h
among_then known (x ∷ xs) ys h = among_then known xs ys h.1

pub read_first : (known keys : List Key) (ys : List Access) → ReadsWithin known (all_read keys ++ ys) → AreAmong keys known
read_first known [] ys h = tt
read_first known (key ∷ keys) ys h = (h.0, read_first known keys ys h.1)

pub read_then : (known keys : List Key) (ys : List Access) → ReadsWithin known (all_read keys ++ ys) → ReadsWithin known ys
read_then known [] ys h = h
read_then known (key ∷ keys) ys h = read_then known keys ys h.1

pub after_read : (known keys : List Key) (ys : List Access) → known_after known (all_read keys ++ ys) ≡ known_after known ys
after_read known [] ys = refl
after_read known (key ∷ keys) ys = after_read known keys ys
