-- How device lists grow. A line names a command; what else a line may have are kinds. A list is read the same whatever
-- kinds there are beside those that its lines use. A further kind is added here and in DeviceList.antt. Ours.
use Rattle.std.specs.Prelude.{◌≡◌, ℕ, ◌||◌, ◌&&◌, not, Bool, true, false, List, [], ◌∷◌, filter, Option, Some, None, is_some, Result, Ok, Err, codes, if◌then◌else◌}
use Rattle.std.specs.List.{list_any, list_all}
use Rattle.std.specs.Str.{bytes_eq}
use Rattle.text.specs.Lines.{numbered_lines}
use Rattle.text.specs.Words.{has_nul, is_equals}
use Rattle.text.specs.Lines.{Text}
use Rattle.device_list.specs.CallLines.{call_said, is_call}
use Rattle.device_list.specs.DeviceList.{Effect, Devices, DeviceLine, Heading, effect_of, device_words, named, call_of, finish_before, heading_of, line_of, known_named, is_steady_test, after_known, is_or, after_call, begins_comment, after_line, only, is_marked, listed}
use Rattle.device_list.specs.declared.finish.BoardEnd.{BoardEnd}
use Rattle.device_list.specs.declared.finish.BoardEnd.TheVariants.{Boots, Restarts, Halts}
use Rattle.device_list.specs.declared.devices_error.DevicesError.{DevicesError}
use Rattle.device_list.specs.declared.devices_error.DevicesError.TheVariants.{BadLine, ByteOrderMark}

pub data Kind : Type 0 where
  -- a command that boots
  Final : Kind
  -- a command that restarts the board, or halts it
  Stops : Kind
  -- a command, or `test -e`, whose answers stay
  Steady : Kind
  -- the calls of a command with a first word
  Sub : Kind
  -- what a command sets on success
  Settings : Kind
  -- a command that is computed
  Known : Kind
  -- a line `call` or `absent`, with all its clauses
  Calls : Kind

abbrev pub every_kind : List Kind
every_kind = Final ∷ Stops ∷ Steady ∷ Sub ∷ Settings ∷ Known ∷ Calls ∷ []

abbrev pub same_kind : Kind → Kind → Bool
same_kind Final Final = true
same_kind Stops Stops = true
same_kind Steady Steady = true
same_kind Sub Sub = true
same_kind Settings Settings = true
same_kind Known Known = true
same_kind Calls Calls = true
same_kind one other = false

-- whether a kind is among these
abbrev pub has : List Kind → Kind → Bool
has kinds kind = list_any (same_kind kind) kinds

-- ---- the kinds that a line uses

abbrev pub kind_of : BoardEnd → Kind
kind_of Boots = Final
kind_of Restarts = Stops
kind_of Halts = Stops

-- whether it ends the run in a way of this kind
abbrev pub ends_by : Option BoardEnd → Kind → Bool
ends_by None kind = false
ends_by (Some finish) kind = same_kind (kind_of finish) kind

-- whether words follow the names
abbrev pub has_words : Heading → Bool
has_words h = elim h.words [ [] ↦ false | word ∷ words ↦ true ]

-- what the line of a command uses
abbrev pub uses : Heading → Kind → Bool
uses h Final = ends_by h.ends Final
uses h Stops = ends_by h.ends Stops
uses h Steady = h.stays
uses h Sub = is_some h.word
uses h Settings = has_words h
uses h Known = false
uses h Calls = false

-- a line without a word, and a comment, use none
abbrev pub kinds_said : List Text → List Kind
kinds_said [] = []
kinds_said (first ∷ words) =
    if begins_comment first then []
    else (if is_call first words then Calls ∷ []
    else (if is_some (known_named first words) then Known ∷ [] else filter (uses (heading_of first words)) every_kind))

abbrev pub kinds_of : (line : Text) → List Kind
kinds_of line = kinds_said (device_words line)

abbrev pub uses_only : List Kind → (line : Text) → Bool
uses_only kinds line = list_all (has kinds) (kinds_of line)

-- ---- lists read with some kinds alone

-- what DeviceList.antt says, but that a word which would begin a kind that is left out is a word as any other
module _ (kinds : List Kind) where
  abbrev pub call_among : Option BoardEnd → (stays : Bool) → Text → List Text → Heading
  call_among ends stays first words =
      if has kinds Sub then call_of ends stays first words else named ends stays first words

  abbrev pub steady_among : Option BoardEnd → Text → List Text → Heading
  steady_among ends first [] = named ends false first []
  steady_among ends first (second ∷ words) =
      if has kinds Steady && bytes_eq first (codes "steady") && not (list_any is_equals second)
      then call_among ends true second words else call_among ends false first (second ∷ words)

  abbrev pub finish_among : Option BoardEnd → Option BoardEnd
  finish_among None = None
  finish_among (Some finish) = if has kinds (kind_of finish) then Some finish else None

  abbrev pub finishing_among : Option BoardEnd → Text → (second : Text) → List Text → Heading
  finishing_among (Some finish) first second words = steady_among (Some finish) second words
  finishing_among None first second words = steady_among None first (second ∷ words)

  abbrev pub heading_among : Text → List Text → Heading
  heading_among first [] = named None false first []
  heading_among first (second ∷ words) = finishing_among (finish_among (finish_before first second)) first second words

  -- without settings, no words follow the names
  abbrev pub said_among : ℕ → Heading → Result DeviceLine DevicesError
  said_among number h = if not (has_words h) || has kinds Settings then line_of number h else Err (BadLine number)

  abbrev pub known_among : Text → List Text → Option Text
  known_among first words = if has kinds Known then known_named first words else None

  -- the list after one more line, or the fault of that line
  abbrev pub words_among : Devices → ℕ → Text → List Text → Result Devices DevicesError
  words_among devices number line [] = Ok devices
  words_among devices number line (first ∷ words) =
      if begins_comment first then Ok devices
      else (if has_nul line then Err (BadLine number)
      else (if has kinds Calls && is_call first words then after_call devices number (is_or first) (call_said devices.files number line first words)
      else after_known devices (known_among first words) (has kinds Steady && is_steady_test first words)
      (said_among number (heading_among first words))))

  abbrev pub line_among : Devices → ℕ → Text → Result Devices DevicesError
  line_among devices number line = words_among devices number line (device_words line)

  abbrev pub lines_among : Devices → List (ℕ × Text) → Result Devices DevicesError
  lines_among devices [] = Ok devices
  lines_among devices (l ∷ lines) =
      elim (line_among devices l.0 l.1) [
        | Ok next ↦ lines_among next lines
        | Err fault ↦ Err fault
      ]

  abbrev pub listed_among : Text → Result Devices DevicesError
  listed_among text = if is_marked text then Err ByteOrderMark else lines_among (only []) (numbered_lines text)

-- ---- laws

-- With some kinds alone, a line that uses only these is read as it is, and a line that uses another kind is a bad line.
abbrev pub LinesGoByKinds : Type 0
LinesGoByKinds = (kinds : List Kind) (devices : Devices) (number : ℕ) (line : Text) →
    line_among kinds devices number line ≡
    (if uses_only kinds line then after_line devices number line else Err (BadLine number))

-- So a list whose lines use only these kinds is read as it is,
abbrev pub ListsGoByKinds : Type 0
ListsGoByKinds = (kinds : List Kind) (text : Text) →
    list_all (λ l. uses_only kinds l.1) (numbered_lines text) ≡ true → listed_among kinds text ≡ listed text

-- a list that is accepted with these kinds alone is accepted, and says the same,
abbrev pub FurtherKindsChangeNothing : Type 0
FurtherKindsChangeNothing = (kinds : List Kind) (text : Text) (devices : Devices) →
    listed_among kinds text ≡ Ok devices → listed text ≡ Ok devices

-- and with every kind, each list is read as it is.
abbrev pub KindsAreAll : Type 0
KindsAreAll = (text : Text) → listed_among every_kind text ≡ listed text

-- each call of the list does this
abbrev pub EachCall : (Effect → Type 0) → Devices → Type 0
EachCall Does devices =
    (name : Text) (words : List Text) (effect : Effect) → effect_of devices name words ≡ Some effect → Does effect

-- the list says nothing of this kind
abbrev pub SaysNothing : Kind → Devices → Type 0
SaysNothing Final devices = EachCall (λ effect. ends_by effect.ends Final ≡ false) devices
SaysNothing Stops devices = EachCall (λ effect. ends_by effect.ends Stops ≡ false) devices
SaysNothing Steady devices = EachCall (λ effect. effect.stays ≡ false) devices × (devices.test_stays ≡ false)
SaysNothing Sub devices = devices.subs ≡ []
SaysNothing Settings devices = EachCall (λ effect. effect.sets ≡ []) devices
SaysNothing Known devices = devices.known ≡ []
SaysNothing Calls devices =
    EachCall (λ effect. (effect.always ≡ None) × (effect.needs ≡ []) × (effect.normal ≡ false) × (effect.runs ≡ [])) devices × (devices.calls ≡ [])

-- a `call` line may say something of each kind
abbrev pub may_say : List Kind → Kind → Bool
may_say kinds kind = has kinds kind || has kinds Calls

-- A list says nothing of a kind of which none of its lines may say something.
abbrev pub UnusedKindsSayNothing : Type 0
UnusedKindsSayNothing = (kind : Kind) (text : Text) (devices : Devices) → listed text ≡ Ok devices →
    list_all (λ l. not (may_say (kinds_of l.1) kind)) (numbered_lines text) ≡ true → SaysNothing kind devices
