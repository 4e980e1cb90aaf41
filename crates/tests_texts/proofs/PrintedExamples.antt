-- What is printed of an environment, read again, in worked cases. The text that is read is named where the reading differs.
use Rattle.std.specs.Prelude.{◌≡◌, [], ◌∷◌, codes, refl, Some}
use Rattle.envimage.specs.Data.{data_fault, pairs_of}
use Rattle.envimage.specs.declared.content.DataError.TheVariants.{NoEquals}
use Rattle.envtools.specs.FromText.{data_of}
use Rattle.tests_texts.specs.PrintedText.{printed_text}

-- each variable is a line; a hash within a name, and a backslash within a value, are bytes like others
printed : printed_text ((codes "a#", codes "1\\2") ∷ (codes "b\\", codes "") ∷ []) ≡ codes "a#=1\\2\nb\\=\n"
printed = refl

reads_back : pairs_of (data_of (codes "a#=1\\2\nb\\=\n")) ≡ ((codes "a#", codes "1\\2") ∷ (codes "b\\", codes "") ∷ [])
reads_back = refl

-- a name that starts with a hash: its line is a comment
hash_first : pairs_of (data_of (printed_text ((codes "#a", codes "1") ∷ (codes "b", codes "2") ∷ []))) ≡ ((codes "b", codes "2") ∷ [])
hash_first = refl

-- a value that ends with a backslash takes in the line after it
backslash_last : pairs_of (data_of (printed_text ((codes "a", codes "1\\") ∷ (codes "b", codes "2") ∷ []))) ≡ ((codes "a", codes "1\nb=2") ∷ [])
backslash_last = refl

-- a value with a newline: what is after it is a variable of its own, or none
newline_in_value : pairs_of (data_of (printed_text ((codes "a", codes "1\nb=2") ∷ []))) ≡ ((codes "a", codes "1") ∷ (codes "b", codes "2") ∷ [])
newline_in_value = refl

-- a name with a newline: what is before it has no `=`
newline_in_name : data_fault (data_of (printed_text ((codes "a\nb", codes "1") ∷ []))) ≡ Some (NoEquals 0)
newline_in_name = refl
