-- Script files: an image that U-Boot's `source` runs, or the text itself. An image is read as `source` reads it (U-Boot,
-- cmd/source.c, `image_source_script`; the header: include/image.h, `struct legacy_img_hdr`; the checksums: boot/image.c,
-- `image_check_hcrc` and `image_check_dcrc`). That an image has to be whole, and that any other file is a text, is ours.
use Rattle.std.specs.Prelude.{ℕ, ◌==◌, ◌++◌, not, nat_eq, nat_le, nat_lt, Bool, List, [], ◌∷◌, length, take, drop, replicate, slice_index, Option, None, Some, Result, Ok, Err, if◌then◌else◌}
use Rattle.std.specs.Int.{w32, from_be_bytes}
use Rattle.std.specs.List.{before_first, starts_with}
use Rattle.envimage.specs.Crc.{crc}
use Rattle.script_file.specs.declared.script.ScriptFault.{ScriptFault}
use Rattle.script_file.specs.declared.script.ScriptFault.TheVariants.{CutOff, DataChecksum, Empty, HeaderChecksum, NotScript, Outside, Unended}
use Rattle.text.specs.Words.{is_nul}

-- what an image starts with
abbrev pub magic : List ℕ
magic = 0x27 ∷ 0x05 ∷ 0x19 ∷ 0x56 ∷ []

abbrev pub is_image : List ℕ → Bool
is_image bytes = starts_with nat_eq bytes magic

-- ---- the header, which has 64 bytes

-- the number that four bytes at a place spell, the highest byte first
abbrev pub word_at : (place : ℕ) → List ℕ → ℕ
word_at place bytes = from_be_bytes w32 (take 4 (drop place bytes))

-- its checksum
abbrev pub header_checksum : List ℕ → ℕ
header_checksum header = word_at 4 header

-- how many bytes of data follow it
abbrev pub data_size : List ℕ → ℕ
data_size header = word_at 12 header

-- the checksum of the data
abbrev pub data_checksum : List ℕ → ℕ
data_checksum header = word_at 24 header

-- what the data is
abbrev pub type_of : List ℕ → ℕ
type_of header = slice_index header 30

-- the type of a script
abbrev pub script_type : ℕ
script_type = 6

-- the header with zeros in the place of its checksum
abbrev pub blanked : List ℕ → List ℕ
blanked header = take 4 header ++ (replicate 4 0 ++ drop 8 header)

abbrev pub header_is_right : List ℕ → Bool
header_is_right header = crc (blanked header) == header_checksum header

-- ---- the data: the sizes of texts, four bytes each, then a zero of four bytes, then the texts

-- what is after the list of sizes, if it ends
abbrev pub behind_sizes : List ℕ → Option (List ℕ)
behind_sizes (a ∷ b ∷ c ∷ d ∷ rest) =
    if from_be_bytes w32 (a ∷ b ∷ c ∷ d ∷ []) == 0 then Some rest else behind_sizes rest
behind_sizes _ = None

-- the text of this size in front of these texts
abbrev pub of_size : ℕ → Option (List ℕ) → Result (List ℕ) ScriptFault
of_size size None = Err Unended
of_size size (Some texts) =
    if size == 0 then Err Empty
    else (if nat_le size (length texts) then Ok (take size texts) else Err Outside)

-- the first text
abbrev pub first_text : List ℕ → Result (List ℕ) ScriptFault
first_text body = of_size (word_at 0 body) (behind_sizes body)

-- ---- the file

-- the first text of an image with this header and this after it, or its first fault
abbrev pub text_behind : (header rest : List ℕ) → Result (List ℕ) ScriptFault
text_behind header rest =
    if not (header_is_right header) then Err HeaderChecksum
    else (if nat_lt (length rest) (data_size header) then Err CutOff
    else (if not (crc (take (data_size header) rest) == data_checksum header) then Err DataChecksum
    else (if not (type_of header == script_type) then Err NotScript
    else first_text (take (data_size header) rest))))

-- the same of an image
abbrev pub image_text : List ℕ → Result (List ℕ) ScriptFault
image_text image =
    if nat_lt (length image) 64 then Err CutOff else text_behind (take 64 image) (drop 64 image)

-- the text of a file, with what is after its first NUL
abbrev pub text_in : List ℕ → Result (List ℕ) ScriptFault
text_in bytes = if is_image bytes then image_text bytes else Ok bytes

-- what the parser reads of a text: it ends before the first NUL (U-Boot, common/cli.c, `run_command_list`)
abbrev pub parsed_of : Result (List ℕ) ScriptFault → Result (List ℕ) ScriptFault
parsed_of (Ok text) = Ok (before_first is_nul text)
parsed_of (Err fault) = Err fault

-- the script of a file, or its first fault
abbrev pub script_in : List ℕ → Result (List ℕ) ScriptFault
script_in bytes = parsed_of (text_in bytes)
