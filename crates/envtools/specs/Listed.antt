-- Lists of variables: names that ascend, numbers of names, and places. Ours.
use Rattle.std.specs.Prelude.{◌≡◌, ℕ, ◌<◌, ◌*◌, ◌%◌, ◌^◌, bit_xor, true, false, List, [], ◌∷◌, Option, None, Some, slice_get}
use Rattle.std.specs.Ordering.{nat_cmp}
use Rattle.std.specs.Cmp.Lexicographic.{slice_cmp}
use Rattle.std.specs.declared.cmp.Ordering.TheVariants.{Less}
use Rattle.std.specs.List.{fold, list_any}
use Rattle.envimage.specs.Data.{Pair}
use Rattle.envtools.specs.Environment.{same}

-- each name is greater in byte order than the one before it, and the first than this name
abbrev pub AscendAfter : List ℕ → List Pair → Type 0
AscendAfter last [] = Unit {0}
AscendAfter last (p ∷ ps) = (slice_cmp nat_cmp last p.0 ≡ Less) × AscendAfter p.0 ps

-- the names ascend in byte order
abbrev pub Ascend : List Pair → Type 0
Ascend pairs = AscendAfter [] pairs

-- the number of a name, as the hash FNV-1a
abbrev pub with_byte : ℕ → ℕ → ℕ
with_byte number byte = (bit_xor number byte * 0x100000001b3) % 2 ^ 64

abbrev pub name_number : List ℕ → ℕ
name_number name = fold with_byte 0xcbf29ce484222325 name

-- each number is greater than the one before it, and the first than this one
abbrev pub RiseAfter : ℕ → List ℕ → Type 0
RiseAfter last [] = Unit {0}
RiseAfter last (n ∷ ns) = (last < n) × RiseAfter n ns

-- the numbers rise from above 0
abbrev pub Rise : List ℕ → Type 0
Rise numbers = RiseAfter 0 numbers

-- the variable of a name is at this place, or none has the name
abbrev pub IsPlaceOf : List Pair → List ℕ → Option ℕ → Type 0
IsPlaceOf pairs name None = list_any (λ p. same name p.0) pairs ≡ false
IsPlaceOf pairs name (Some at) = (p : Pair) × (slice_get pairs at ≡ Some p) × (same name p.0 ≡ true)
