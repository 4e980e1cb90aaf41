-- As what bytes would be right, in worked cases, computed. The images are those of Debian's mkenvimage (2023.01).
use Rattle.std.proofs.Common.{◌≡◌, refl, List, ℕ, [], ◌∷◌, ◌++◌, codes, false, replicate, true}
use Rattle.std.specs.Fmt.{digits}
use Rattle.envimage.specs.declared.image.ByteOrder.TheVariants.{Big, Little}
use Rattle.inspecting.specs.Guesses.{guesses, has_variables, may_be, place_of, right_sizes, starts}
use Rattle.inspecting.specs.Report.{line}

-- `mkenvimage -s 12` of the line abcd=1
abbrev twelve : List ℕ
twelve = 34 ∷ 33 ∷ 112 ∷ 160 ∷ (codes "abcd=1" ++ 0 ∷ 0 ∷ [])

-- the same by `-b`
abbrev big : List ℕ
big = 160 ∷ 112 ∷ 33 ∷ 34 ∷ (codes "abcd=1" ++ 0 ∷ 0 ∷ [])

-- `mkenvimage -r -s 12` of the line abc=1
abbrev copy : List ℕ
copy = 56 ∷ 148 ∷ 235 ∷ 12 ∷ 1 ∷ (codes "abc=1" ++ 0 ∷ 0 ∷ [])

-- ---- sizes, orders and kinds

whole : right_sizes Little false twelve ≡ 12 ∷ []
whole = refl

-- more bytes follow
with_more : right_sizes Little false (twelve ++ 255 ∷ 255 ∷ []) ≡ 12 ∷ []
with_more = refl

-- the last byte is missing
cut_off : right_sizes Little false (34 ∷ 33 ∷ 112 ∷ 160 ∷ (codes "abcd=1" ++ 0 ∷ [])) ≡ []
cut_off = refl

other_order : right_sizes Big false twelve ≡ []
other_order = refl

by_big : right_sizes Big false big ≡ 12 ∷ []
by_big = refl

of_a_pair : right_sizes Little true copy ≡ 12 ∷ []
of_a_pair = refl

not_alone : right_sizes Little false copy ≡ []
not_alone = refl

-- ---- what is tried

variables : has_variables (codes "a=1" ++ 0 ∷ 0 ∷ []) ≡ true
variables = refl

empty : has_variables (0 ∷ 0 ∷ []) ≡ false
empty = refl

erased : has_variables (255 ∷ 255 ∷ []) ≡ false
erased = refl

-- erased bytes up to an image: they would be a name
erased_front : has_variables (255 ∷ 255 ∷ (codes "a=1" ++ 0 ∷ 0 ∷ [])) ≡ false
erased_front = refl

no_variables : has_variables [] ≡ false
no_variables = refl

header_alone : may_be false (34 ∷ 33 ∷ 112 ∷ 160 ∷ []) ≡ false
header_alone = refl

at_the_start : starts twelve ≡ 0 ∷ []
at_the_start = refl

-- not at a multiple of 512
between : starts (replicate 12 0 ++ twelve) ≡ []
between = refl

-- ---- the lines

-- the offset is that in the file
its_place : place_of (record { path = codes "a b"; offset = 4096; bytes = [] }) 512 8192 ≡ codes "a\\x20b 0x1200 0x2000"
unfolding digits
its_place = refl

behind : guesses (record { path = codes "env"; offset = 4096; bytes = replicate 512 0 ++ twelve }) ≡ codes "guess single little\nconfig env 0x1200 0xc\n"
unfolding line digits
behind = refl

a_copy : guesses (record { path = codes "env"; offset = 0; bytes = copy }) ≡ codes "guess copy little\nconfig env 0x0 0xc\n"
unfolding line digits
a_copy = refl

as_big : guesses (record { path = codes "env"; offset = 0; bytes = big }) ≡ codes "guess single big\nconfig env 0x0 0xc\n"
unfolding line digits
as_big = refl

nothing : guesses (record { path = codes "env"; offset = 0; bytes = 255 ∷ twelve }) ≡ []
nothing = refl
