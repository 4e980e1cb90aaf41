-- Worked examples, computed: numbers of texts, as FNV-1a gives them for bytes.
use Rattle.std.proofs.Common.{ℕ, [], ◌∷◌, codes, refl, ◌≡◌}
use Rattle.hushlang.specs.Tree.{Empty}
use Rattle.rehearse_states.specs.PlaceNumbers.{mixed, mixed_text, mixed_script, place_number}

-- `a`, from the number with which each starts
one_byte : mixed 0xcbf29ce484222325 0x61 ≡ 0xaf63dc4c8601ec8c
one_byte = refl

-- `foobar`, byte by byte
six_bytes : mixed (mixed (mixed (mixed (mixed (mixed 0xcbf29ce484222325 0x66) 0x6f) 0x6f) 0x62) 0x61) 0x72 ≡ 0x85944171f73967e8
six_bytes = refl

-- of a text how long it is comes first
text_number : mixed_text 0xcbf29ce484222325 (codes "a") ≡ mixed (mixed 0xcbf29ce484222325 1) 0x61
text_number = refl

-- a script without lists
no_lists : mixed_script 7 Empty ≡ mixed 7 0
no_lists = refl

-- no frames
nowhere : place_number [] ≡ 0xcbf29ce484222325
nowhere = refl
