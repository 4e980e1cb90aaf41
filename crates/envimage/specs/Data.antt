-- The data of an image: entries `name=value`, each ended by a NUL, then one more NUL, then anything.
use Rattle.std.specs.Prelude.{◌≡◌, ◌≢◌, ℕ, ◌+◌, ◌≤◌, List, [], ◌∷◌, ◌++◌, length, Option, None, Some, if◌then◌else◌}
use Rattle.std.specs.List.{flat_map, AllByRecursion, before_first, after_first, list_any}
use Rattle.text.specs.Bytes as ascii
use Rattle.text.specs.Words.{is_equals, is_nul}
use Rattle.envimage.specs.declared.content.DataError.{DataError}
use Rattle.envimage.specs.declared.content.DataError.TheVariants.{NotTerminated, NoEquals, EmptyName}

-- a variable: its name and its value
abbrev pub Pair : Type 0
Pair = List ℕ × List ℕ

abbrev pub IsNameByte : ℕ → Type 0
IsNameByte b = (b ≢ ascii.nul) × (b ≢ ascii.equals)

pub record IsVariable (p : Pair) : Type 0 where
  pub named : p.0 ≢ []
  pub name : AllByRecursion IsNameByte p.0
  pub value : AllByRecursion (λ b. b ≢ ascii.nul) p.1

abbrev pub entry : Pair → List ℕ
entry p = p.0 ++ ascii.equals ∷ p.1 ++ ascii.nul ∷ []

-- The body is the entries of these variables, a NUL, and a filling.
pub record IsData (body : List ℕ) (pairs : List Pair) : Type 0 where
  pub filling : List ℕ
  pub whole : body ≡ flat_map entry pairs ++ ascii.nul ∷ filling
  pub each : AllByRecursion IsVariable pairs

-- The body starts with the entries of these variables, and goes on with the rest.
pub record IsRow (body : List ℕ) (pairs : List Pair) (rest : List ℕ) : Type 0 where
  pub whole : body ≡ flat_map entry pairs ++ rest
  pub each : AllByRecursion IsVariable pairs

-- The body starts with no longer row of entries.
pub record IsLongestRow (body : List ℕ) (pairs : List Pair) (rest : List ℕ) : Type 0 where
  pub row : IsRow body pairs rest
  pub longest : (others : List Pair) (left : List ℕ) → IsRow body others left →
      length (flat_map entry others) ≤ length (flat_map entry pairs)

-- The rest starts with this text, which a NUL ends.
pub record BeginsWithText (rest text : List ℕ) : Type 0 where
  pub after : List ℕ
  pub whole : rest ≡ text ++ ascii.nul ∷ after
  pub unbroken : AllByRecursion (λ b. b ≢ ascii.nul) text

-- What is wrong at a place that has no entry: nothing, if the last NUL is there.
abbrev pub IsFaultAt : ℕ → List ℕ → Option DataError → Type 0
IsFaultAt at rest None = BeginsWithText rest []
IsFaultAt at rest (Some NotTerminated) = AllByRecursion (λ b. b ≢ ascii.nul) rest
IsFaultAt at rest (Some (EmptyName place)) = (place ≡ at)
    × ((text : List ℕ) × BeginsWithText rest (ascii.equals ∷ text))
IsFaultAt at rest (Some (NoEquals place)) =
    (place ≡ at) × ((text : List ℕ) × (BeginsWithText rest text) × (text ≢ []) × (AllByRecursion IsNameByte text))

-- The fault of a body is what is wrong after its longest row of entries.
pub record IsFault (body : List ℕ) (fault : Option DataError) : Type 0 where
  pub pairs : List Pair
  pub rest : List ℕ
  pub row : IsLongestRow body pairs rest
  pub fault_there : IsFaultAt (length (flat_map entry pairs)) rest fault

-- ---- the same, computed from the texts between the NULs

abbrev pub onto_first : ℕ → List (List ℕ) → List (List ℕ)
onto_first b [] = []
onto_first b (text ∷ texts) = (b ∷ text) ∷ texts

-- the texts that NULs end; the bytes after the last NUL are no text
abbrev pub texts_of : List ℕ → List (List ℕ)
texts_of [] = []
texts_of (b ∷ bs) = if is_nul b then [] ∷ texts_of bs else onto_first b (texts_of bs)

-- The first fault of the texts from a place on. An empty text is the data's end.
abbrev pub texts_fault : ℕ → List (List ℕ) → Option DataError
texts_fault at [] = Some NotTerminated
texts_fault at ([] ∷ texts) = None
texts_fault at ((b ∷ bs) ∷ texts) =
    if is_equals b then Some (EmptyName at)
    else (if list_any is_equals bs then texts_fault (at + (length bs + 2)) texts else Some (NoEquals at))

-- the first fault of the data
abbrev pub data_fault : List ℕ → Option DataError
data_fault body = texts_fault 0 (texts_of body)

abbrev pub pair_of : List ℕ → Pair
pair_of text = (before_first is_equals text, after_first is_equals text)

abbrev pub pairs_of_texts : List (List ℕ) → List Pair
pairs_of_texts [] = []
pairs_of_texts ([] ∷ rest) = []
pairs_of_texts ((b ∷ bs) ∷ rest) = pair_of (b ∷ bs) ∷ pairs_of_texts rest

-- the variables of the data
abbrev pub pairs_of : List ℕ → List Pair
pairs_of body = pairs_of_texts (texts_of body)
