-- What is reported of an image. Which copy counts is U-Boot's rule (env/common.c, `env_check_redund`); the words of the
-- report are ours.
use Rattle.std.specs.Prelude.{◌+◌, ◌-◌, ◌==◌, ◌&&◌, ℕ, Bool, true, false, List, [], ◌∷◌, ◌++◌, codes, decimal, drop, length, slice_index, Option, None, Some, if◌then◌else◌}
use Rattle.std.specs.Fmt.{radix_digits}
use Rattle.std.specs.List.{flat_map}
use Rattle.std.specs.Option.{option_map, option_map_or}
use Rattle.text.specs.Bytes as ascii
use Rattle.text.specs.Escapes.{word_form}
use Rattle.envimage.specs.Crc.{crc}
use Rattle.envimage.specs.Data.{data_fault, entry, pairs_of}
use Rattle.envimage.specs.Image.{current, is_right, is_size, stored}
use Rattle.envimage.specs.declared.content.DataError.{DataError}
use Rattle.envimage.specs.declared.content.DataError.TheVariants.{EmptyName, NoEquals, NotTerminated}
use Rattle.envimage.specs.declared.image.ByteOrder.{ByteOrder}
use Rattle.envimage.specs.declared.image.Which.{Which}
use Rattle.envimage.specs.declared.image.Which.TheVariants.{First, Second}
use Rattle.envtools.specs.Environment.{env_of}

-- ---- what is inspected

-- a single image, or a copy of a pair: its file, where it begins there, and its bytes
pub record CopyShown : Type 0 where
  pub path : List ℕ
  pub offset : ℕ
  pub bytes : List ℕ

pub data CopiesShown : Type 0 where
  single : CopyShown → CopiesShown
  pair : (first second : CopyShown) → CopiesShown

-- ---- lines

-- a key, a space and a value
unfoldable pub line : (key value : List ℕ) → List ℕ
line key value = key ++ ascii.space ∷ (value ++ ascii.newline ∷ [])

abbrev pub decimal_line : (key : List ℕ) → ℕ → List ℕ
decimal_line key number = line key (decimal number)

abbrev pub hex_line : (key : List ℕ) → ℕ → List ℕ
hex_line key number = line key (codes "0x" ++ radix_digits 16 false number)

abbrev pub path_line : (path : List ℕ) → List ℕ
path_line path = line (codes "path") (word_form path)

abbrev pub choice : Bool → List ℕ
choice true = codes "yes"
choice false = codes "no"

-- ---- a copy

-- the bytes in front of the data: a copy of a pair has a flag
abbrev pub header_of : (is_copy : Bool) → ℕ
header_of false = 4
header_of true = 5

-- the checksum that is right
abbrev pub checksum : (is_copy : Bool) → List ℕ → ℕ
checksum is_copy image = crc (drop (header_of is_copy) image)

-- where it is
abbrev pub place_lines : (number : ℕ) → CopyShown → List ℕ
place_lines number held = decimal_line (codes "copy") number ++ (path_line held.path
    ++ (hex_line (codes "offset") held.offset ++ hex_line (codes "size") (length held.bytes)))

-- the checksum that is there, the one that is right, and whether they are the same
abbrev pub checksum_lines : ByteOrder → (is_copy : Bool) → List ℕ → List ℕ
checksum_lines order is_copy image = hex_line (codes "stored") (stored order image)
    ++ (hex_line (codes "checksum") (checksum is_copy image)
    ++ line (codes "right") (choice (is_right order (header_of is_copy) image)))

abbrev pub flag_line : List ℕ → List ℕ
flag_line image = decimal_line (codes "flag") (slice_index image 4)

-- a single image counts if it is right
abbrev pub single_lines : ByteOrder → CopyShown → List ℕ
single_lines order held = place_lines 1 held ++ (checksum_lines order false held.bytes
    ++ line (codes "current") (choice (is_right order 4 held.bytes)))

abbrev pub copy_lines : ByteOrder → (number : ℕ) → CopyShown → (is_current : Bool) → List ℕ
copy_lines order number held is_current = place_lines number held ++ (flag_line held.bytes
    ++ (checksum_lines order true held.bytes ++ line (codes "current") (choice is_current)))

-- ---- a pair

abbrev pub is_first : Option Which → Bool
is_first (Some First) = true
is_first _ = false

abbrev pub is_second : Option Which → Bool
is_second (Some Second) = true
is_second _ = false

-- why the copy counts that does: the other one's checksum is wrong; or both are right, and the flags decide; or the flags
-- are the same, and the first one counts
abbrev pub reason_line : ByteOrder → (first second : List ℕ) → List ℕ
reason_line order first second = by (is_right order 5 first) (is_right order 5 second)
  where
    by : Bool → Bool → List ℕ
    by false false = []
    by true true = line (codes "because") (if slice_index first 4 == slice_index second 4 then codes "order" else codes "flag")
    by _ _ = line (codes "because") (codes "checksum")

abbrev pub pair_lines : ByteOrder → (first second : CopyShown) → List ℕ
pair_lines order first second =
    copy_lines order 1 first (is_first (current order first.bytes second.bytes))
    ++ (copy_lines order 2 second (is_second (current order first.bytes second.bytes))
    ++ reason_line order first.bytes second.bytes)

abbrev pub copies_lines : ByteOrder → CopiesShown → List ℕ
copies_lines order (single held) = single_lines order held
copies_lines order (pair first second) = pair_lines order first second

-- ---- the data

-- the bytes of the entries as they are, and of the NUL after them
abbrev pub used_by : List ℕ → ℕ
used_by body = length (flat_map entry (pairs_of body)) + 1

-- the variables: a name that is there twice counts once
abbrev pub variables_in : List ℕ → ℕ
variables_in body = length (env_of (pairs_of body))

abbrev pub environment_lines : List ℕ → List ℕ
environment_lines body = decimal_line (codes "variables") (variables_in body)
    ++ (decimal_line (codes "used") (used_by body)
    ++ decimal_line (codes "free") (length body - used_by body))

-- the first fault, and the byte of the data at which its entry starts
abbrev pub fault_line : DataError → List ℕ
fault_line NotTerminated = line (codes "fault") (codes "not-terminated")
fault_line (NoEquals at) = decimal_line (codes "fault no-equals") at
fault_line (EmptyName at) = decimal_line (codes "fault no-name") at

abbrev pub data_lines : List ℕ → List ℕ
data_lines body = option_map_or fault_line (data_fault body) (environment_lines body)

abbrev pub has_no_fault : List ℕ → Bool
has_no_fault body = option_map_or (λ _. false) (data_fault body) true

-- ---- the image

-- images may have these sizes
abbrev pub are_sizes : CopiesShown → Bool
are_sizes (single held) = is_size 5 (length held.bytes)
are_sizes (pair first second) = is_size 6 (length first.bytes) && (length first.bytes == length second.bytes)

-- the data of the copy that counts
abbrev pub body_of : ByteOrder → CopiesShown → Option (List ℕ)
body_of order (single held) = if is_right order 4 held.bytes then Some (drop 4 held.bytes) else None
body_of order (pair first second) = option_map of_copy (current order first.bytes second.bytes)
  where
    of_copy : Which → List ℕ
    of_copy First = drop 5 first.bytes
    of_copy Second = drop 5 second.bytes
