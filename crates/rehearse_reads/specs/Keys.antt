-- The keys by which a run reads and writes what it has at a moment, and whether two moments agree on them. Ours.
use Rattle.std.specs.Prelude.{◌≡◌, Bool, true, false, not, List, [], ◌∷◌, map, filter, ◌⊎◌}
use Rattle.std.specs.Str.{bytes_eq}
use Rattle.rehearse_terms.specs.State.{Text, State, get, answer_in, same_words}
use Rattle.rehearse_rules.specs.Needs.{has_succeeded}

-- one thing that a run can read
pub data Key : Type 0 where
  -- a variable of the environment: its value, or that it is not set
  Environment : (name : Text) → Key
  -- a shell variable, in the same way
  Local : (name : Text) → Key
  -- the answer that stays for a device command with these words, its name first: the answer, or that there is none
  AnswerTo : (call : List Text) → Key
  -- whether a device command has succeeded whose words, its name first, begin so
  Succeeded : (start : List Text) → Key
  -- `$?`
  Status : Key

-- a key is read, or it is written
pub data Access : Type 0 where
  Reads : Key → Access
  Writes : Key → Access

-- two states have the same at a key
abbrev pub AgreeAt : Key → State → State → Type 0
AgreeAt (Environment name) s t = get t.memory.environment name ≡ get s.memory.environment name
AgreeAt (Local name) s t = get t.memory.locals name ≡ get s.memory.locals name
AgreeAt (AnswerTo call) s t = answer_in t.log call ≡ answer_in s.log call
AgreeAt (Succeeded start) s t = has_succeeded t.log start ≡ has_succeeded s.log start
AgreeAt Status s t = t.memory.status ≡ s.memory.status

abbrev pub IsAmong : Key → List Key → Type 0
IsAmong key [] = ⊥
IsAmong key (k ∷ keys) = (key ≡ k) ⊎ IsAmong key keys

abbrev pub AreAmong : (keys known : List Key) → Type 0
AreAmong [] known = Unit {0}
AreAmong (key ∷ keys) known = IsAmong key known × AreAmong keys known

-- two states have the same at each of these keys
abbrev pub AgreeOn : List Key → State → State → Type 0
AgreeOn keys s t = (key : Key) → IsAmong key keys → AgreeAt key s t

abbrev pub all_read : List Key → List Access
all_read keys = map Reads keys

-- each key that is read is among the known ones, or was written before
abbrev pub ReadsWithin : (known : List Key) → List Access → Type 0
ReadsWithin known [] = Unit {0}
ReadsWithin known (Reads key ∷ accesses) = IsAmong key known × ReadsWithin known accesses
ReadsWithin known (Writes key ∷ accesses) = ReadsWithin (key ∷ known) accesses

-- the known keys, and those that were written
abbrev pub known_after : (known : List Key) → List Access → List Key
known_after known [] = known
known_after known (Reads key ∷ accesses) = known_after known accesses
known_after known (Writes key ∷ accesses) = known_after (key ∷ known) accesses

-- ---- the keys that are read before they are written

abbrev pub same_key : Key → Key → Bool
same_key (Environment name) (Environment other) = bytes_eq name other
same_key (Local name) (Local other) = bytes_eq name other
same_key (AnswerTo call) (AnswerTo other) = same_words call other
same_key (Succeeded start) (Succeeded other) = same_words start other
same_key Status Status = true
same_key _ _ = false

-- what has to be known before these accesses, if these keys have to be known after them
abbrev pub keys_in_front : List Access → (later : List Key) → List Key
keys_in_front [] later = later
keys_in_front (Reads key ∷ accesses) later = key ∷ keys_in_front accesses later
keys_in_front (Writes key ∷ accesses) later = filter (λ other. not (same_key other key)) (keys_in_front accesses later)

abbrev pub keys_read : List Access → List Key
keys_read accesses = keys_in_front accesses []

-- what has to be known before the accesses has to be known before the others, which may be reported in their place
abbrev pub Covers : (others accesses : List Access) → Type 0
Covers others accesses = (later : List Key) → AreAmong (keys_in_front accesses later) (keys_in_front others later)
