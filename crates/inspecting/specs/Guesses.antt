-- As what bytes would be right that count as no image: alone or as a copy of a pair, in either byte order, in each size, and
-- from each multiple of 512 on. What is tried is ours.
use Rattle.std.specs.Prelude.{ℕ, ◌+◌, ◌*◌, ◌-◌, ◌/◌, ◌^◌, ◌&&◌, ◌||◌, min, nat_lt, Bool, true, false, List, [], ◌++◌, codes, drop, filter, length, map, take, if◌then◌else◌}
use Rattle.std.specs.Fmt.{radix_digits}
use Rattle.std.specs.List.{flat_map, range_with_len, slice_get}
use Rattle.std.specs.Option.{option_map_or}
use Rattle.text.specs.Escapes.{word_form}
use Rattle.std.specs.Char.{is_ascii_graphic}
use Rattle.envimage.specs.Image.{is_right}
use Rattle.envimage.specs.declared.image.ByteOrder.{ByteOrder}
use Rattle.envimage.specs.declared.image.ByteOrder.TheVariants.{Big, Little}
use Rattle.inspecting.specs.Report.{CopyShown, has_no_fault, header_of, line}

-- ---- what is right

-- the bytes are an image: their checksum is right, and their data have no fault
abbrev pub is_image : ByteOrder → (is_copy : Bool) → List ℕ → Bool
is_image order is_copy image =
    is_right order (header_of is_copy) image && has_no_fault (drop (header_of is_copy) image)

-- the sizes that are tried: with one byte of data, up to all bytes
abbrev pub sizes : (is_copy : Bool) → List ℕ → List ℕ
sizes is_copy bytes = map (λ n. header_of is_copy + n) (range_with_len 1 (length bytes - header_of is_copy))

-- the sizes in which the first bytes are an image
abbrev pub right_sizes : ByteOrder → (is_copy : Bool) → List ℕ → List ℕ
right_sizes order is_copy bytes = filter (λ size. is_image order is_copy (take size bytes)) (sizes is_copy bytes)

-- ---- what is tried

-- data that are tried start with a name whose first byte prints, and end within their first 65536 bytes
abbrev pub has_variables : List ℕ → Bool
has_variables body = option_map_or is_ascii_graphic (slice_get body 0) false && has_no_fault (take 65536 body)

abbrev pub may_be : (is_copy : Bool) → List ℕ → Bool
may_be is_copy bytes = nat_lt (header_of is_copy) (length bytes) && has_variables (drop (header_of is_copy) bytes)

abbrev pub is_start : List ℕ → Bool
is_start bytes = may_be false bytes || may_be true bytes

-- the places that are tried: the multiples of 512 at which an image may begin
abbrev pub starts : List ℕ → List ℕ
starts bytes = filter (λ offset. is_start (drop offset bytes))
    (map (λ block. block * 512) (range_with_len 0 ((length bytes + 511) / 512)))

-- ---- the lines

abbrev pub kind_word : (is_copy : Bool) → List ℕ
kind_word false = codes "single"
kind_word true = codes "copy"

abbrev pub order_word : ByteOrder → List ℕ
order_word Little = codes "little"
order_word Big = codes "big"

-- the line of a configuration: the path, the offset in the file, and the size
abbrev pub place_of : CopyShown → (offset size : ℕ) → List ℕ
place_of copy offset size = word_form copy.path
    ++ (codes " 0x" ++ (radix_digits 16 false (min (copy.offset + offset) (2 ^ 64 - 1))
    ++ (codes " 0x" ++ radix_digits 16 false size)))

abbrev pub guess_lines : CopyShown → (offset : ℕ) → (is_copy : Bool) → ByteOrder → (size : ℕ) → List ℕ
guess_lines copy offset is_copy order size = line (codes "guess") (kind_word is_copy ++ (codes " " ++ order_word order))
    ++ line (codes "config") (place_of copy offset size)

-- all that the bytes from an offset on are right as, in one kind and order
abbrev pub guesses_in : CopyShown → (offset : ℕ) → (is_copy : Bool) → ByteOrder → List ℕ
guesses_in copy offset is_copy order =
    flat_map (guess_lines copy offset is_copy order) (right_sizes order is_copy (drop offset copy.bytes))

abbrev pub guesses_as : CopyShown → (offset : ℕ) → (is_copy : Bool) → List ℕ
guesses_as copy offset is_copy = if may_be is_copy (drop offset copy.bytes)
    then guesses_in copy offset is_copy Little ++ guesses_in copy offset is_copy Big else []

abbrev pub guesses_at : CopyShown → (offset : ℕ) → List ℕ
guesses_at copy offset = guesses_as copy offset false ++ guesses_as copy offset true

-- at the first 32 places that are tried
abbrev pub guesses : CopyShown → List ℕ
guesses copy = flat_map (guesses_at copy) (take 32 (starts copy.bytes))
