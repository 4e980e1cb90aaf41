-- Images: a stored checksum, a flag if the image is a copy of a pair, and data.
use Rattle.std.specs.Prelude.{◌≡◌, ℕ, ◌==◌, ◌&&◌, ◌||◌, not, nat_lt, nat_le, Bool, true, false, List, length, take, drop, slice_index, Option, None, Some, Result, Ok, Err, if◌then◌else◌}
use Rattle.std.specs.Int.{w32, from_le_bytes, from_be_bytes, to_le_bytes, to_be_bytes}
use Rattle.envimage.specs.Crc.{crc}
use Rattle.envimage.specs.Data.{data_fault}
use Rattle.envimage.specs.declared.content.DataError.{DataError}
use Rattle.envimage.specs.declared.image.ByteOrder.{ByteOrder}
use Rattle.envimage.specs.declared.image.ByteOrder.TheVariants.{Little, Big}
use Rattle.envimage.specs.declared.image.Which.{Which}
use Rattle.envimage.specs.declared.image.Which.TheVariants.{First, Second}
use Rattle.envimage.specs.declared.image.ImageError.{ImageError}
use Rattle.envimage.specs.declared.image.ImageError.TheVariants.{WrongSize, BadCrc, Content}
use Rattle.envimage.specs.declared.image.Loaded.{Loaded}

-- the checksum that a copy starts with
abbrev pub stored : ByteOrder → List ℕ → ℕ
stored Little copy = from_le_bytes w32 (take 4 copy)
stored Big copy = from_be_bytes w32 (take 4 copy)

abbrev pub stored_bytes : ByteOrder → ℕ → List ℕ
stored_bytes Little crc = to_le_bytes w32 crc
stored_bytes Big crc = to_be_bytes w32 crc

-- a copy is right if it starts with the checksum of what follows its header
abbrev pub is_right : ByteOrder → ℕ → List ℕ → Bool
is_right order header copy = stored order copy == crc (drop header copy)

-- the most bytes that an image may have: one mebibyte. Ours.
abbrev pub most_size : ℕ
most_size = 1048576

-- the sizes that an image may have
abbrev pub is_size : ℕ → ℕ → Bool
is_size least size = nat_le least size && nat_le size most_size

-- a copy with flag b was written after one with flag a
abbrev pub is_newer : ℕ → ℕ → Bool
is_newer a b = ((a == 255) && (b == 0)) || (nat_lt a b && not ((a == 0) && (b == 255)))

-- which of two copies is current
abbrev pub current : ByteOrder → List ℕ → List ℕ → Option Which
current order a b = by (is_right order 5 a) (is_right order 5 b)
  where
    by : Bool → Bool → Option Which
    by true true = if is_newer (slice_index a 4) (slice_index b 4) then Some Second else Some First
    by true false = Some First
    by false true = Some Second
    by false false = None

abbrev pub or_bad_crc : Option Which → Result Which ImageError
or_bad_crc (Some which) = Ok which
or_bad_crc None = Err BadCrc

-- the current copy, or the first refusal
abbrev pub chosen_of : ByteOrder → List ℕ → Option (List ℕ) → Result Which ImageError
chosen_of order first None =
    if not (is_size 5 (length first)) then Err WrongSize
    else (if is_right order 4 first then Ok First else Err BadCrc)
chosen_of order first (Some second) =
    if not (is_size 6 (length first)) || not (length first == length second) then Err WrongSize
    else or_bad_crc (current order first second)

-- what an image says: the current copy, its flag, the byte order and the body
pub record LoadedShown : Type 0 where
  pub which : Which
  pub flag : Option ℕ
  pub order : ByteOrder
  pub body : List ℕ

abbrev pub loaded_shown : Loaded → LoadedShown
loaded_shown l = record { which = l.which; flag = l.flag; order = l.order; body = l.body.now }

abbrev pub checked : LoadedShown → Option DataError → Result LoadedShown ImageError
checked s None = Ok s
checked s (Some fault) = Err (Content fault)

abbrev pub copy_shown : ByteOrder → Which → List ℕ → LoadedShown
copy_shown order which copy =
    record { which = which; flag = Some (slice_index copy 4); order = order; body = drop 5 copy }

abbrev pub loaded_shown_of : ByteOrder → List ℕ → Option (List ℕ) → Which → LoadedShown
loaded_shown_of order first None which =
    record { which = First; flag = None; order = order; body = drop 4 first }
loaded_shown_of order first (Some second) First = copy_shown order First first
loaded_shown_of order first (Some second) Second = copy_shown order Second second

abbrev pub then_checked : Result Which ImageError → (Which → LoadedShown) → Result LoadedShown ImageError
then_checked (Err e) show = Err e
then_checked (Ok which) show = checked (show which) (data_fault (show which).body)

-- what loading an image answers
abbrev pub load_of : ByteOrder → List ℕ → Option (List ℕ) → Result LoadedShown ImageError
load_of order first second = then_checked (chosen_of order first second) (loaded_shown_of order first second)

-- a function's answer, seen by view, is this answer
abbrev pub Gives : {X Y E : Type 0} → (X → Y) → Result X E → Result Y E → Type 0
Gives view (Ok x) answer = answer ≡ Ok (view x)
Gives view (Err e) answer = answer ≡ Err e
