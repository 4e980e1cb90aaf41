-- Worked examples, computed.
use Rattle.std.specs.Prelude.{◌≡◌, [], ◌∷◌, Some, None, refl}
use Rattle.envimage.specs.Crc.{crc}
use Rattle.envimage.specs.Data.{data_fault, pairs_of}
use Rattle.envimage.specs.declared.content.DataError.TheVariants.{NotTerminated, NoEquals, EmptyName}

check_digits : crc (49 ∷ 50 ∷ 51 ∷ 52 ∷ 53 ∷ 54 ∷ 55 ∷ 56 ∷ 57 ∷ []) ≡ 0xcbf43926
check_digits = refl

check_nothing : crc [] ≡ 0
check_nothing = refl

one_pair : crc (0x61 ∷ 0x3d ∷ 0x31 ∷ 0 ∷ 0 ∷ []) ≡ 0x4598063b
one_pair = refl

zeros : crc (0 ∷ 0 ∷ 0 ∷ 0 ∷ []) ≡ 0x2144df1c
zeros = refl

smallest : crc (0 ∷ []) ≡ 0xd202ef8d
smallest = refl

cut_off : crc (0x61 ∷ 0x3d ∷ 0x31 ∷ 1 ∷ 1 ∷ []) ≡ 0x2b8407ec
cut_off = refl

filled : crc (0x61 ∷ 0x3d ∷ 0x31 ∷ 0 ∷ 0 ∷ 0xff ∷ 0xff ∷ 0xff ∷ []) ≡ 0x7f4f49c4
filled = refl

cut_off_fault : data_fault (0x61 ∷ 0x3d ∷ 0x31 ∷ 1 ∷ 1 ∷ []) ≡ Some NotTerminated
cut_off_fault = refl

no_equals : data_fault (0x61 ∷ 0 ∷ 0 ∷ []) ≡ Some (NoEquals 0)
no_equals = refl

empty_name : data_fault (0x3d ∷ 0x61 ∷ 0 ∷ 0 ∷ []) ≡ Some (EmptyName 0)
empty_name = refl

later_empty_name : data_fault (0x61 ∷ 0x3d ∷ 0 ∷ 0x3d ∷ 0 ∷ 0 ∷ []) ≡ Some (EmptyName 3)
later_empty_name = refl

no_bytes : data_fault [] ≡ Some NotTerminated
no_bytes = refl

one_variable : data_fault (0x61 ∷ 0x3d ∷ 0x31 ∷ 0 ∷ 0 ∷ []) ≡ None
one_variable = refl

its_pairs : pairs_of (0x61 ∷ 0x3d ∷ 0x31 ∷ 0 ∷ 0 ∷ []) ≡ (0x61 ∷ [], 0x31 ∷ []) ∷ []
its_pairs = refl
