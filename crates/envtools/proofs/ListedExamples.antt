-- Worked examples of names that ascend, and of numbers of names, computed.
use Rattle.std.proofs.Common.{◌≡◌, [], ◌∷◌, refl, arith}
use Rattle.std.specs.Prelude.{codes}
use Rattle.envtools.specs.Listed.{Ascend, Rise, name_number}

-- a name that goes on after another is greater
ascending : Ascend ((codes "a", codes "2") ∷ (codes "ab", codes "1") ∷ (codes "b", codes "1") ∷ [])
ascending = (refl, (refl, (refl, tt)))

-- a name that is there twice does not ascend, whatever its values
twice : Ascend ((codes "a", codes "1") ∷ (codes "a", codes "2") ∷ []) → ⊥
twice h = let bad = h.1.0 in cc

-- nor do names that descend
descending : Ascend ((codes "b", codes "1") ∷ (codes "a", codes "1") ∷ []) → ⊥
descending h = let bad = h.1.0 in cc

-- the number of a name is what FNV-1a gives for its bytes
one_byte : name_number (codes "a") ≡ 0xaf63dc4c8601ec8c
one_byte = refl

six_bytes : name_number (codes "foobar") ≡ 0x85944171f73967e8
six_bytes = refl

-- the empty name has the number with which each starts
no_byte : name_number [] ≡ 0xcbf29ce484222325
no_byte = refl

-- numbers that rise
rising : Rise (1 ∷ 3 ∷ [])
rising = (omega arith, (omega arith, tt))

-- a number that is there twice does not rise
again : Rise (2 ∷ 2 ∷ []) → ⊥
again h = let bad = h.1.0 in omega (arith, bad)

-- nor does 0
nothing : Rise (0 ∷ []) → ⊥
nothing h = let bad = h.0 in omega (arith, bad)
