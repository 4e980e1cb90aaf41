-- Worked examples, computed.
use Rattle.std.specs.Prelude.{◌≡◌, ℕ, ◌++◌, List, [], ◌∷◌, replicate, take, Ok, Err, refl}
use Rattle.std.specs.Int.{w32, to_be_bytes}
use Rattle.script_file.specs.ScriptFiles.{script_in, magic}
use Rattle.script_file.specs.declared.script.ScriptFault.TheVariants.{CutOff, DataChecksum, Empty, HeaderChecksum, NotScript, Outside, Unended}

-- ---- texts

no_bytes : script_in [] ≡ Ok []
no_bytes = refl

a_text : script_in (0x78 ∷ 0x0a ∷ 0x79 ∷ []) ≡ Ok (0x78 ∷ 0x0a ∷ 0x79 ∷ [])
a_text = refl

text_up_to_a_nul : script_in (0x78 ∷ 0 ∷ 0x79 ∷ 0 ∷ []) ≡ Ok (0x78 ∷ [])
text_up_to_a_nul = refl

-- only the whole four bytes make an image
three_of_four : script_in (0x27 ∷ 0x05 ∷ 0x19 ∷ []) ≡ Ok (0x27 ∷ 0x05 ∷ 0x19 ∷ [])
three_of_four = refl

another_fourth : script_in (0x27 ∷ 0x05 ∷ 0x19 ∷ 0x57 ∷ []) ≡ Ok (0x27 ∷ 0x05 ∷ 0x19 ∷ 0x57 ∷ [])
another_fourth = refl

no_header : script_in magic ≡ Err CutOff
no_header = refl

-- ---- images

-- An image that was made on 1 January 1970 for an ARM processor, and has no name: with this checksum of its header, this size
-- and checksum of its data, this type, and this after its header.
abbrev made : (header_checksum size data_checksum type : ℕ) → (rest : List ℕ) → List ℕ
made header_checksum size data_checksum type rest =
    magic ++ to_be_bytes w32 header_checksum ++ replicate 4 0 ++ to_be_bytes w32 size ++ replicate 8 0
    ++ to_be_bytes w32 data_checksum ++ (5 ∷ 2 ∷ type ∷ 0 ∷ []) ++ replicate 32 0 ++ rest

-- these are what `mkimage` of U-Boot 2023.01 makes of the text `x`, of `x` and `yy`, of `x`, a NUL and `y`, and of a kernel
one_text : script_in (made 0xeddc3e41 9 0x738b3e05 6 (0 ∷ 0 ∷ 0 ∷ 0x01 ∷ 0 ∷ 0 ∷ 0 ∷ 0 ∷ 0x78 ∷ [])) ≡ Ok (0x78 ∷ [])
one_text = refl

two_texts : script_in (made 0xbb0187b9 18 0xb6d929ef 6 (0 ∷ 0 ∷ 0 ∷ 0x01 ∷ 0 ∷ 0 ∷ 0 ∷ 0x02 ∷ 0 ∷ 0 ∷ 0 ∷ 0 ∷ 0x78 ∷ 0 ∷ 0 ∷ 0 ∷ 0x79 ∷ 0x79 ∷ [])) ≡ Ok (0x78 ∷ [])
two_texts = refl

up_to_a_nul : script_in (made 0x3b4d51a9 11 0x9633467f 6 (0 ∷ 0 ∷ 0 ∷ 0x03 ∷ 0 ∷ 0 ∷ 0 ∷ 0 ∷ 0x78 ∷ 0 ∷ 0x79 ∷ [])) ≡ Ok (0x78 ∷ [])
up_to_a_nul = refl

a_kernel : script_in (made 0xecb3c815 1 0x8cdc1683 2 (0x78 ∷ [])) ≡ Err NotScript
a_kernel = refl

-- what is after the data does not count
more_behind : script_in (made 0xeddc3e41 9 0x738b3e05 6 (0 ∷ 0 ∷ 0 ∷ 0x01 ∷ 0 ∷ 0 ∷ 0 ∷ 0 ∷ 0x78 ∷ 0xff ∷ 0xff ∷ [])) ≡ Ok (0x78 ∷ [])
more_behind = refl

-- the header is looked at before the data, its checksum before its size
wrong_header : script_in (made 0xeddc3e42 9 0x738b3e05 6 (0 ∷ 0 ∷ 0 ∷ 0x01 ∷ 0 ∷ 0 ∷ 0 ∷ 0 ∷ 0x78 ∷ [])) ≡ Err HeaderChecksum
wrong_header = refl

wrong_header_short : script_in (made 0xeddc3e42 9 0x738b3e05 6 (0 ∷ 0 ∷ 0 ∷ 0x01 ∷ 0 ∷ 0 ∷ 0 ∷ 0 ∷ [])) ≡ Err HeaderChecksum
wrong_header_short = refl

short_data : script_in (made 0xeddc3e41 9 0x738b3e05 6 (0 ∷ 0 ∷ 0 ∷ 0x01 ∷ 0 ∷ 0 ∷ 0 ∷ 0 ∷ [])) ≡ Err CutOff
short_data = refl

-- the checksum of the data before the type, the type before the texts
wrong_data : script_in (made 0xeddc3e41 9 0x738b3e05 6 (0 ∷ 0 ∷ 0 ∷ 0x01 ∷ 0 ∷ 0 ∷ 0 ∷ 0 ∷ 0x79 ∷ [])) ≡ Err DataChecksum
wrong_data = refl

wrong_kernel : script_in (made 0xecb3c815 1 0x8cdc1683 2 (0x79 ∷ [])) ≡ Err DataChecksum
wrong_kernel = refl

listed_kernel : script_in (made 0x7fd57a99 9 0x738b3e05 2 (0 ∷ 0 ∷ 0 ∷ 0x01 ∷ 0 ∷ 0 ∷ 0 ∷ 0 ∷ 0x78 ∷ [])) ≡ Err NotScript
listed_kernel = refl

-- the list of sizes
no_data : script_in (made 0x01c95072 0 0x00000000 6 ([])) ≡ Err Unended
no_data = refl

part_of_a_size : script_in (made 0x03f92a91 3 0xff41d912 6 (0 ∷ 0 ∷ 0 ∷ [])) ≡ Err Unended
part_of_a_size = refl

no_end : script_in (made 0x6ea447df 9 0x6a900f44 6 (0 ∷ 0 ∷ 0 ∷ 0x01 ∷ 0 ∷ 0 ∷ 0 ∷ 0x01 ∷ 0x78 ∷ [])) ≡ Err Unended
no_end = refl

no_text : script_in (made 0x3194fdc9 4 0x2144df1c 6 (0 ∷ 0 ∷ 0 ∷ 0 ∷ [])) ≡ Err Empty
no_text = refl

no_text_listed : script_in (made 0xf712b264 9 0xa1ccdce1 6 (0 ∷ 0 ∷ 0 ∷ 0 ∷ 0 ∷ 0 ∷ 0 ∷ 0x01 ∷ 0x78 ∷ [])) ≡ Err Empty
no_text_listed = refl

too_long : script_in (made 0x93fc0a0d 9 0xf51f4cab 6 (0 ∷ 0 ∷ 0 ∷ 0x02 ∷ 0 ∷ 0 ∷ 0 ∷ 0 ∷ 0x78 ∷ [])) ≡ Err Outside
too_long = refl

size_by_its_highest_byte : script_in (made 0xcd1278b2 9 0xafacf9e3 6 (0x01 ∷ 0 ∷ 0 ∷ 0 ∷ 0 ∷ 0 ∷ 0 ∷ 0 ∷ 0x78 ∷ [])) ≡ Err Outside
size_by_its_highest_byte = refl

-- the header is whole with its last byte
header_but_one : script_in (take 63 (made 0xeddc3e41 9 0x738b3e05 6 [])) ≡ Err CutOff
header_but_one = refl
