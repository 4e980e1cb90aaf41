-- How many bytes there are for the variables that a board saves, with the byte that ends them. Ours; the layout of an image is
-- U-Boot's (include/env_internal.h).
use Rattle.std.specs.Prelude.{ℕ, ◌-◌, Bool, true, false, List, length, Option, Some, None, if◌then◌else◌}
use Rattle.tool_words.specs.Asked.{OriginShown, configured, no_images, texts, whole}

-- the data of an image: what follows its checksum, and the flag of a copy of a pair
abbrev pub data_length : (first : List ℕ) → (second : Option (List ℕ)) → ℕ
data_length first None = length first - 4
data_length first (Some second) = length first - 5

-- whether images are named: of a text, and of nothing, no size is known
abbrev pub are_images : OriginShown → Bool
are_images (configured config) = true
are_images (whole first second) = true
are_images (texts path order) = false
are_images (no_images order) = false

-- the room of these copies; nothing if there are no images, so that any environment can be saved
abbrev pub room_if : (images : Bool) → (first : List ℕ) → (second : Option (List ℕ)) → Option ℕ
room_if images first second = if images then Some (data_length first second) else None

abbrev pub room_of : OriginShown → (first : List ℕ) → (second : Option (List ℕ)) → Option ℕ
room_of origin first second = room_if (are_images origin) first second
