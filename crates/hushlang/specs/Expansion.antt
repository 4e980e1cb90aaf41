-- What words expand to, by the rules of the shell's expansion (U-Boot documentation, doc/usage/cmdline, on variables
-- and quotes). The limit and the details of splitting are ours.
use Rattle.std.specs.Prelude.{ℕ, Bool, true, false, ◌||◌, ◌==◌, List, [], ◌∷◌, length, map, filter, flat_map, sum_by, decimal, if◌then◌else◌, Option, Some, unwrap_or}
use Rattle.std.specs.FinMap as finite
use Rattle.std.specs.FinMap.{FinMap}
use Rattle.std.specs.Ordering.{is_eq, nat_cmp}
use Rattle.std.specs.Cmp.Lexicographic.{slice_cmp}
use Rattle.text.specs.Bytes as ascii
use Rattle.hushlang.specs.Tree as tree
use Rattle.hushlang.specs.Tree.{Word, Piece}

-- an atom of a word: a byte that is kept, a byte at which a field is cut, or the mark that a pair of quotes leaves
pub data Atom : Type 0 where
  Kept : (byte : ℕ) → Atom
  Separator : (byte : ℕ) → Atom
  Mark : Atom

-- what words expand by: the values of the variables, and the status, which is `$?`
pub record Parameters : Type 0 where
  pub value : List ℕ → Option (List ℕ)
  pub status : ℕ

-- the parameters of a finite map of variables
abbrev pub parameters_of : FinMap (slice_cmp nat_cmp) (List ℕ) → ℕ → Parameters
parameters_of variables status = record { value = finite.get variables; status = status }

-- one more variable is set, or has another value
abbrev pub with_variable : Parameters → (name value : List ℕ) → Parameters
with_variable parameters name value = record {
  value = λ other. if is_eq (slice_cmp nat_cmp other name) then Some value else parameters.value other;
  status = parameters.status;
}

-- the value of a variable, or empty if it is not set
abbrev pub value_of : Parameters → List ℕ → List ℕ
value_of parameters name = unwrap_or (parameters.value name) []

-- a byte at which a split value is cut: a space, a tab or a newline
abbrev pub separates : ℕ → Bool
separates byte = byte == ascii.space || byte == ascii.tab || byte == ascii.newline

abbrev pub split_atom : ℕ → Atom
split_atom byte = if separates byte then Separator byte else Kept byte

abbrev pub atoms_of_piece : Parameters → Piece → List Atom
atoms_of_piece parameters (tree.Bytes bytes) = map Kept bytes
atoms_of_piece parameters tree.Mark = Mark ∷ []
atoms_of_piece parameters (tree.Var name true) = map split_atom (value_of parameters name)
atoms_of_piece parameters (tree.Var name false) = map Kept (value_of parameters name)
atoms_of_piece parameters tree.Status = map Kept (decimal parameters.status)

-- the atoms of a word, in order
unfoldable pub atoms : Parameters → Word → List Atom
atoms parameters word = flat_map (atoms_of_piece parameters) word

-- an atom before the first of some parts
abbrev pub onto_first : Atom → List (List Atom) → List (List Atom)
onto_first atom [] = (atom ∷ []) ∷ []
onto_first atom (part ∷ parts) = (atom ∷ part) ∷ parts

-- the atoms cut at separators, into one part more than there are separators
abbrev pub cut : List Atom → List (List Atom)
cut [] = [] ∷ []
cut (Separator byte ∷ rest) = [] ∷ cut rest
cut (Kept byte ∷ rest) = onto_first (Kept byte) (cut rest)
cut (Mark ∷ rest) = onto_first Mark (cut rest)

-- a part with a byte or a mark is a field
abbrev pub is_field : List Atom → Bool
is_field [] = false
is_field (atom ∷ rest) = true

-- the bytes that are kept: marks are removed
abbrev pub kept_bytes : List Atom → List ℕ
kept_bytes [] = []
kept_bytes (Kept byte ∷ rest) = byte ∷ kept_bytes rest
kept_bytes (Separator byte ∷ rest) = kept_bytes rest
kept_bytes (Mark ∷ rest) = kept_bytes rest

-- the fields of one word
abbrev pub fields_of_word : Parameters → Word → List (List ℕ)
fields_of_word parameters word = map kept_bytes (filter is_field (cut (atoms parameters word)))

-- the fields of all words, in order
unfoldable pub fields : Parameters → List Word → List (List ℕ)
fields parameters words = flat_map (fields_of_word parameters) words

-- the bytes of atoms that are not cut: a separator is then the byte that it was
abbrev pub all_bytes : List Atom → List ℕ
all_bytes [] = []
all_bytes (Kept byte ∷ rest) = byte ∷ all_bytes rest
all_bytes (Separator byte ∷ rest) = byte ∷ all_bytes rest
all_bytes (Mark ∷ rest) = all_bytes rest

-- all bytes of a word, uncut
unfoldable pub joined : Parameters → Word → List ℕ
joined parameters word = all_bytes (atoms parameters word)

-- how many bytes fields hold in all
abbrev pub size : List (List ℕ) → ℕ
size all = sum_by length all

-- the most bytes that one expansion may hold
abbrev pub most_bytes : ℕ
most_bytes = 65536
