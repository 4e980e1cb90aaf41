-- What is written back to replace a loaded image.
use Rattle.std.specs.Prelude.{◌≡◌, ◌≤◌, ◌<◌, ◌⊎◌, ℕ, ◌+◌, ◌%◌, true, false, List, ◌++◌, length, take, drop, slice_index, Option, None, Some, Result, Ok}
use Rattle.std.specs.List.{AllByRecursion}
use Rattle.envimage.specs.Data.{Pair, IsVariable, pairs_of}
use Rattle.envimage.specs.Encoding.{header_len, needed, image_of}
use Rattle.envimage.specs.Image.{LoadedShown, load_of, is_right}
use Rattle.envimage.specs.declared.image.ByteOrder.{ByteOrder}
use Rattle.envimage.specs.declared.image.ImageError.{ImageError}
use Rattle.envimage.specs.declared.image.ImageError.TheVariants.{WrongSize, BadCrc, Content, TooLarge, Memory}
use Rattle.envimage.specs.declared.image.Which.{Which}
use Rattle.envimage.specs.declared.image.Which.TheVariants.{First, Second}

-- the size of the loaded image, with its header
abbrev pub size_of : LoadedShown → ℕ
size_of loaded = header_len loaded.flag + length loaded.body

-- the current flag plus one, modulo 256
abbrev pub next_flag : Option ℕ → Option ℕ
next_flag None = None
next_flag (Some flag) = Some ((flag + 1) % 256)

abbrev pub other_copy : Which → Which
other_copy First = Second
other_copy Second = First

-- the copy of a pair that is not current, or the single image itself
abbrev pub copy_to_write : LoadedShown → Which
copy_to_write loaded = by loaded.flag
  where
    by : Option ℕ → Which
    by None = First
    by (Some flag) = other_copy loaded.which

-- the bytes that are written there
abbrev pub saved_image : List Pair → LoadedShown → List ℕ
saved_image env loaded = image_of loaded.order (next_flag loaded.flag) (size_of loaded) env

-- the refusals that writing back may give
abbrev pub IsSaveRefusal : ImageError → Type 0
IsSaveRefusal WrongSize = ⊥
IsSaveRefusal BadCrc = ⊥
IsSaveRefusal (Content fault) = ⊥
IsSaveRefusal TooLarge = Unit {0}
IsSaveRefusal Memory = Unit {0}

-- ---- laws

-- a pair with other bytes in place of the copy that is not current
abbrev pub with_spare : Which → List ℕ → List ℕ → List ℕ → List ℕ × List ℕ
with_spare First first second bytes = (first, bytes)
with_spare Second first second bytes = (bytes, second)

abbrev pub load_pair : ByteOrder → List ℕ × List ℕ → Result LoadedShown ImageError
load_pair order copies = load_of order copies.0 (Some copies.1)

-- If bytes of the right size replace the spare copy and are not right, what was loaded stays current.
abbrev pub SpareMayBreak : Type 0
SpareMayBreak = (order : ByteOrder) (first second bytes : List ℕ) (loaded : LoadedShown) →
    load_of order first (Some second) ≡ Ok loaded → length bytes ≡ length first → is_right order 5 bytes ≡ false →
    load_pair order (with_spare loaded.which first second bytes) ≡ Ok loaded

-- the copy of a pair that was not loaded
abbrev pub spare_of : Which → List ℕ → List ℕ → List ℕ
spare_of First first second = second
spare_of Second first second = first

-- a copy over which the first n of these bytes were written
abbrev pub half_written : List ℕ → ℕ → List ℕ → List ℕ
half_written copy n bytes = take n bytes ++ drop n copy

-- loading gives the same with these bytes in place of the spare copy, or these bytes are a right copy
abbrev pub OldOrRight : ByteOrder → List ℕ → List ℕ → LoadedShown → List ℕ → Type 0
OldOrRight order first second loaded bytes =
    (load_pair order (with_spare loaded.which first second bytes) ≡ Ok loaded) ⊎ (is_right order 5 bytes ≡ true)

-- If any prefix of the saved bytes is in the spare copy's place, loading gives what it gave before, or that copy is
-- right.
abbrev pub FrontMayStand : Type 0
FrontMayStand = (order : ByteOrder) (first second : List ℕ) (loaded : LoadedShown) (env : List Pair) (n : ℕ) →
    load_of order first (Some second) ≡ Ok loaded → needed (next_flag loaded.flag) env ≤ size_of loaded →
    OldOrRight order first second loaded (half_written (spare_of loaded.which first second) n (saved_image env loaded))

-- If the saved bytes are in the spare copy's place, loading gives the saved variables.
abbrev pub SavedIsLoaded : Type 0
SavedIsLoaded = (order : ByteOrder) (first second : List ℕ) (loaded : LoadedShown) (env : List Pair) →
    load_of order first (Some second) ≡ Ok loaded → slice_index first 4 < 256 → slice_index second 4 < 256 →
    AllByRecursion IsVariable env → needed (next_flag loaded.flag) env ≤ size_of loaded →
    (body : List ℕ) × (load_pair order (with_spare loaded.which first second (saved_image env loaded))
    ≡ Ok (record { which = copy_to_write loaded; flag = next_flag loaded.flag; order = order; body = body }))
    × (pairs_of body ≡ env)
