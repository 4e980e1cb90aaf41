-- Worked examples of what U-Boot reads from an image, computed. A sandbox of U-Boot has the same variables.
use Rattle.std.specs.Prelude.{◌≡◌, [], ◌∷◌, codes, refl}
use Rattle.envtools.specs.Importing.{imported}

values : imported ((codes "a", codes "x\\y\\\\z\\") ∷ (codes "b", codes "\\=1") ∷ (codes "c", codes "'\"$ ") ∷ []) ≡ ((codes "a", codes "xy\\z\\") ∷ (codes "b", codes "=1") ∷ (codes "c", codes "'\"$ ") ∷ [])
values = refl

-- a value of one backslash keeps it
backslash_alone : imported ((codes "a", codes "\\") ∷ (codes "b", codes "\\\\") ∷ []) ≡ ((codes "a", codes "\\") ∷ (codes "b", codes "\\") ∷ [])
backslash_alone = refl

not_set : imported ((codes "a", []) ∷ (codes "#b", codes "1") ∷ (codes "c#", codes "2") ∷ (codes "d", codes "#") ∷ []) ≡ ((codes "c#", codes "2") ∷ (codes "d", codes "#") ∷ [])
not_set = refl

-- blanks in front of a name are dropped, so that two variables can become one
blanks_in_front : imported ((codes "a", codes "1") ∷ (codes " \tb", codes "2") ∷ (codes " a", codes "3") ∷ (codes " #c", codes "4") ∷ []) ≡ ((codes "a", codes "3") ∷ (codes "b", codes "2") ∷ [])
blanks_in_front = refl

-- an empty value deletes what stood before, also under the name with other blanks; a later value sets the name again
empty_value_deletes : imported ((codes "a", codes "1") ∷ (codes "b", codes "2") ∷ (codes " a", []) ∷ []) ≡ ((codes "b", codes "2") ∷ [])
empty_value_deletes = refl

set_again : imported ((codes "a", codes "1") ∷ (codes " a", []) ∷ (codes "b", codes "2") ∷ (codes "\ta", codes "3") ∷ (codes " c", []) ∷ []) ≡ ((codes "a", codes "3") ∷ (codes "b", codes "2") ∷ [])
set_again = refl

comment_deletes_nothing : imported ((codes "a", codes "1") ∷ (codes " #a", []) ∷ (codes "#", []) ∷ []) ≡ ((codes "a", codes "1") ∷ [])
comment_deletes_nothing = refl

-- a name of blanks alone is not followed if it has a value, and is none if it has none
blanks_alone : imported ((codes "\t ", codes "2") ∷ (codes "a", codes "1") ∷ []) ≡ []
blanks_alone = refl

blanks_and_no_value : imported ((codes "a", codes "1") ∷ (codes "\t ", []) ∷ []) ≡ ((codes "a", codes "1") ∷ [])
blanks_and_no_value = refl

blank_inside : imported ((codes "a b", codes " 1 ") ∷ []) ≡ ((codes "a b", codes " 1 ") ∷ [])
blank_inside = refl
