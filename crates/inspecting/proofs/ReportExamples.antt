-- Worked reports, computed. The images are those of Debian's mkenvimage (2023.01).
use Rattle.std.proofs.Common.{◌≡◌, refl, ℕ, List, [], ◌∷◌, ◌++◌, None, codes, true, false}
use Rattle.std.specs.Fmt.{digits}
use Rattle.envimage.specs.declared.content.DataError.TheVariants.{EmptyName, NoEquals, NotTerminated}
use Rattle.envimage.specs.declared.image.ByteOrder.TheVariants.{Big, Little}
use Rattle.inspecting.specs.Inspecting.{is_readable, report_of}
use Rattle.inspecting.specs.Report.{CopyShown, are_sizes, body_of, data_lines, fault_line, has_no_fault, hex_line, line, pair, path_line, reason_line, single}

-- ---- lines

a_line : line (codes "right") (codes "yes") ≡ codes "right yes\n"
unfolding line digits
a_line = refl

a_number : hex_line (codes "size") 8192 ≡ codes "size 0x2000\n"
unfolding line digits
a_number = refl

a_path : path_line (codes "/dev/mtd 0") ≡ codes "path /dev/mtd\\x200\n"
unfolding line digits
a_path = refl

a_fault : fault_line (NoEquals 12) ≡ codes "fault no-equals 12\n"
unfolding line digits
a_fault = refl

no_name : fault_line (EmptyName 0) ≡ codes "fault no-name 0\n"
unfolding line digits
no_name = refl

no_end : fault_line NotTerminated ≡ codes "fault not-terminated\n"
unfolding line digits
no_end = refl

-- ---- a single image

-- `mkenvimage -s 12` of the line abcd=1
abbrev twelve : List ℕ
twelve = 34 ∷ 33 ∷ 112 ∷ 160 ∷ (codes "abcd=1" ++ 0 ∷ 0 ∷ [])

abbrev alone : List ℕ → CopyShown
alone bytes = record { path = codes "env"; offset = 0; bytes = bytes }

right_alone : report_of Little (single (alone twelve)) ≡
    codes "copy 1\npath env\noffset 0x0\nsize 0xc\nstored 0xa0702122\nchecksum 0xa0702122\nright yes\ncurrent yes\nvariables 1\nused 8\nfree 0\n"
unfolding line digits
right_alone = refl

its_environment : is_readable Little (single (alone twelve)) ≡ true
its_environment = refl

-- in the other byte order its checksum is wrong
wrong_alone : report_of Big (single (alone twelve)) ≡
    codes "copy 1\npath env\noffset 0x0\nsize 0xc\nstored 0x222170a0\nchecksum 0xa0702122\nright no\ncurrent no\n"
    ++ codes "guess single little\nconfig env 0x0 0xc\n"
unfolding line digits
wrong_alone = refl

no_environment : is_readable Big (single (alone twelve)) ≡ false
no_environment = refl

-- ---- a pair

-- `mkenvimage -r -s 12` of the line abc=1, with this flag
abbrev copy : (flag : ℕ) → List ℕ
copy flag = 56 ∷ 148 ∷ 235 ∷ 12 ∷ flag ∷ (codes "abc=1" ++ 0 ∷ 0 ∷ [])

-- the same with a byte that is wrong
abbrev spoiled : (flag : ℕ) → List ℕ
spoiled flag = 57 ∷ 148 ∷ 235 ∷ 12 ∷ flag ∷ (codes "abc=1" ++ 0 ∷ 0 ∷ [])

abbrev first : List ℕ → CopyShown
first bytes = record { path = codes "env"; offset = 0; bytes = bytes }

abbrev second : List ℕ → CopyShown
second bytes = record { path = codes "env"; offset = 16; bytes = bytes }

by_flag : report_of Little (pair (first (copy 1)) (second (copy 2))) ≡
    codes "copy 1\npath env\noffset 0x0\nsize 0xc\nflag 1\nstored 0xceb9438\nchecksum 0xceb9438\nright yes\ncurrent no\n"
    ++ codes "copy 2\npath env\noffset 0x10\nsize 0xc\nflag 2\nstored 0xceb9438\nchecksum 0xceb9438\nright yes\ncurrent yes\n"
    ++ codes "because flag\nvariables 1\nused 7\nfree 0\n"
unfolding line digits
by_flag = refl

-- the flags are the same: the first one counts
by_order : reason_line Little (copy 7) (copy 7) ≡ codes "because order\n"
unfolding line digits
by_order = refl

-- 0 comes after 255
by_turn : reason_line Little (copy 255) (copy 0) ≡ codes "because flag\n"
unfolding line digits
by_turn = refl

-- one checksum is wrong, whatever the flags are
by_checksum : report_of Little (pair (first (copy 1)) (second (spoiled 2))) ≡
    codes "copy 1\npath env\noffset 0x0\nsize 0xc\nflag 1\nstored 0xceb9438\nchecksum 0xceb9438\nright yes\ncurrent yes\n"
    ++ codes "copy 2\npath env\noffset 0x10\nsize 0xc\nflag 2\nstored 0xceb9439\nchecksum 0xceb9438\nright no\ncurrent no\n"
    ++ codes "because checksum\nvariables 1\nused 7\nfree 0\n"
unfolding line digits
by_checksum = refl

by_second_checksum : reason_line Little (spoiled 2) (copy 1) ≡ codes "because checksum\n"
unfolding line digits
by_second_checksum = refl

-- no copy counts
by_nothing : reason_line Little (spoiled 1) (spoiled 2) ≡ []
by_nothing = refl

none_counts : body_of Little (pair (first (spoiled 1)) (second (spoiled 2))) ≡ None
none_counts = refl

-- ---- the data

-- a name that is there twice is one variable, and both entries are used
repeated : data_lines (codes "a=1" ++ 0 ∷ (codes "a=2" ++ 0 ∷ 0 ∷ 255 ∷ 255 ∷ [])) ≡ codes "variables 1\nused 9\nfree 2\n"
unfolding line digits
repeated = refl

none : data_lines (0 ∷ 255 ∷ []) ≡ codes "variables 0\nused 1\nfree 1\n"
unfolding line digits
none = refl

faulty : data_lines (codes "a=1" ++ 0 ∷ (codes "b" ++ 0 ∷ 0 ∷ [])) ≡ codes "fault no-equals 4\n"
unfolding line digits
faulty = refl

faulty_data : has_no_fault (codes "a=1" ++ 0 ∷ (codes "b" ++ 0 ∷ 0 ∷ [])) ≡ false
faulty_data = refl

-- ---- sizes

too_small : are_sizes (single (alone (0 ∷ 0 ∷ 0 ∷ 0 ∷ []))) ≡ false
too_small = refl

too_small_copy : are_sizes (pair (first (0 ∷ 0 ∷ 0 ∷ 0 ∷ 0 ∷ [])) (second (0 ∷ 0 ∷ 0 ∷ 0 ∷ 0 ∷ []))) ≡ false
too_small_copy = refl

unequal : are_sizes (pair (first (copy 1)) (second (255 ∷ copy 1))) ≡ false
unequal = refl
