-- Fields on the way: atoms are read from the left, into one output.
use Rattle.std.specs.Prelude.{◌≡◌, ◌≤◌, ℕ, ◌+◌, ◌*◌, Bool, true, false, List, [], ◌∷◌, ◌++◌, length, map}
use Rattle.std.specs.declared.alloc.Global.{Global}
use Rattle.std.specs.declared.vec.Vec.{Vec}
use Rattle.hushlang.specs.Tree.{Word}
use Rattle.hushlang.specs.Expansion.{Atom, Kept, Separator, Mark, Parameters, value_of, split_atom, kept_bytes, atoms, size, most_bytes}
use Rattle.hushlang.specs.declared.expanding.Gathering.{Gathering}

-- the fields that are whole, the one on the way, and whether it has begun
pub record FieldsSoFar : Type 0 where
  pub whole : List (List ℕ)
  pub field : List ℕ
  pub begun : Bool

abbrev pub fields_so_far : Gathering → FieldsSoFar
fields_so_far g = record { whole = map (λ field. field.items) g.whole.items; field = g.field.items; begun = g.begun }

abbrev pub nothing_gathered : FieldsSoFar
nothing_gathered = record { whole = []; field = []; begun = false }

-- the field on the way, if it has begun
abbrev pub begun_field : Bool → List ℕ → List (List ℕ)
begun_field true field = field ∷ []
begun_field false field = []

-- what stays gathered when the field on the way ends
abbrev pub left_field : Bool → List ℕ → List ℕ
left_field true field = []
left_field false field = field

-- the field on the way ends here
abbrev pub closed : FieldsSoFar → FieldsSoFar
closed g = record { whole = g.whole ++ begun_field g.begun g.field; field = left_field g.begun g.field; begun = false }

abbrev pub with_atom : FieldsSoFar → Atom → FieldsSoFar
with_atom g (Kept byte) = record { whole = g.whole; field = g.field ++ byte ∷ []; begun = true }
with_atom g (Separator byte) = closed g
with_atom g Mark = record { whole = g.whole; field = g.field; begun = true }

abbrev pub with_atoms : FieldsSoFar → List Atom → FieldsSoFar
with_atoms g [] = g
with_atoms g (atom ∷ rest) = with_atoms (with_atom g atom) rest

abbrev pub with_word : Parameters → FieldsSoFar → Word → FieldsSoFar
with_word parameters g word = closed (with_atoms g (atoms parameters word))

abbrev pub with_words : Parameters → FieldsSoFar → List Word → FieldsSoFar
with_words parameters g [] = g
with_words parameters g (word ∷ rest) = with_words parameters (with_word parameters g word) rest

-- how many bytes are gathered
abbrev pub gathered_size : FieldsSoFar → ℕ
gathered_size g = size g.whole + length g.field

-- the room left is what the limit leaves
abbrev pub IsCounted : Gathering → Type 0
IsCounted g = gathered_size (fields_so_far g) + g.room ≡ most_bytes

-- ---- values with fewer separators

-- split values that have the same effect, whatever comes before them
abbrev pub AreCutAlike : (value other : List ℕ) → Type 0
AreCutAlike value other = (g : FieldsSoFar) → with_atoms g (map split_atom value) ≡ with_atoms g (map split_atom other)

-- a split value with at most one separator more than the bytes that fields keep
abbrev pub IsBrief : List ℕ → Type 0
IsBrief value = length value ≤ 2 * length (kept_bytes (map split_atom value)) + 1

-- each name has a brief value that is cut as its variable's value is
abbrev pub AreShort : Parameters → List (Vec ℕ Global × Vec ℕ Global) → Type 0
AreShort parameters [] = Unit
AreShort parameters (entry ∷ entries) = AreCutAlike (value_of parameters entry.0.items) entry.1.items
    × IsBrief entry.1.items × AreShort parameters entries
