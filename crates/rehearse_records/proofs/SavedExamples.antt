-- Worked rows, computed: the lines of variables that are asked for, and of what was saved of them.
use Rattle.std.proofs.Common.{[], ◌∷◌, List, codes, refl, ◌≡◌}
use Rattle.device_list.specs.Saving.{saved_name}
use Rattle.rehearse_terms.specs.State.{Text, Variables}
use Rattle.rehearse_rules.specs.Listing.{variable_lines}
use Rattle.rehearse_records.specs.Recording.{named_text}

-- both are asked for: the variable, and what was saved of it
abbrev asked : List Text
asked = codes "v" ∷ saved_name (codes "v") ∷ []

-- the variable is set, and its copy holds these bytes
abbrev with_copy : Text → Variables
with_copy copy = (saved_name (codes "v"), copy) ∷ (codes "v", codes "1") ∷ []

-- another value than the variable now has
saved_value : variable_lines (with_copy (codes "=2")) asked ≡ codes "var v=1" ∷ codes "saved v=2" ∷ []
saved_value = refl

-- a value that starts with `=` keeps it
saved_sign : variable_lines (with_copy (codes "==")) asked ≡ codes "var v=1" ∷ codes "saved v==" ∷ []
saved_sign = refl

saved_empty : variable_lines (with_copy (codes "=")) asked ≡ codes "var v=1" ∷ codes "saved v=" ∷ []
saved_empty = refl

-- when the environment was saved, the variable was not set
saved_unset : variable_lines (with_copy []) asked ≡ codes "var v=1" ∷ codes "saved unset v" ∷ []
saved_unset = refl

-- nothing was saved: no line
saved_nothing : variable_lines ((codes "v", codes "1") ∷ []) asked ≡ codes "var v=1" ∷ []
saved_nothing = refl

-- the variable was saved, and then deleted
deleted_since : variable_lines ((saved_name (codes "v"), codes "=2") ∷ []) asked ≡ codes "unset v" ∷ codes "saved v=2" ∷ []
deleted_since = refl

-- bytes that are escaped, in the value and in the name
saved_escaped : variable_lines (with_copy (codes "=\n\\")) asked ≡ codes "var v=1" ∷ codes "saved v=\\n\\\\" ∷ []
saved_escaped = refl

name_escaped : named_text ((saved_name (codes "a b"), codes "=c d") ∷ []) (saved_name (codes "a b")) ≡ codes "saved a\\x20b=c d\n"
name_escaped = refl

name_empty : named_text ((saved_name [], []) ∷ []) (saved_name []) ≡ codes "saved unset \\e\n"
name_empty = refl
