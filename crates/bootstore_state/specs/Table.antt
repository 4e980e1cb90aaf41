-- What a table of variables holds: places by name, each with a value or empty (ours).
use Rattle.std.specs.Prelude.{◌≡◌, ℕ, Bool, List, [], ◌∷◌, Option, Some, None, is_some, true, false, cond}
use Rattle.std.specs.FinMap.{empty}
use Rattle.std.specs.Ordering.{nat_cmp, is_eq}
use Rattle.std.specs.Cmp.Lexicographic.{slice_cmp}
use Rattle.std.specs.Map.{lookup}
use Rattle.std.specs.declared.alloc.Global.{Global}
use Rattle.std.specs.declared.vec.Vec.{Vec}
use Rattle.bootstore_state.specs.declared.table.Table.{Table}
use Rattle.bootstore_state.specs.declared.table.Place.{Place}
use Rattle.bootstore_state.specs.Moment.{Bytes, Variables}
use Rattle.text.specs.TextsShown.{option_items}
use Rattle.bootstore_state.specs.Record.{assigned}
use Rattle.bootstore_state.specs.Slots.{Slot}

-- the variables that have a value
abbrev pub slot_variables : List Slot → Variables
slot_variables [] = empty
slot_variables (slot ∷ slots) = assigned (slot_variables slots) slot.0.items (option_items slot.1.value)

abbrev pub variables_of : Table → Variables
variables_of table = slot_variables table.slots.entries

-- whether a key is this name
abbrev pub is_name : Bytes → Vec ℕ Global → Bool
is_name name key = is_eq (slice_cmp nat_cmp name key.items)

-- what is at the place of a name, if it has one
abbrev pub place_at : Table → Bytes → Option Place
place_at table name = lookup (is_name name) table.slots.entries

-- whether the name has a place, with a value or empty
abbrev pub has_slot : Table → Bytes → Bool
has_slot table name = is_some (place_at table name)

-- the value of a name that has this place, or none
abbrev pub place_value : Option Place → Option Bytes
place_value None = None
place_value (Some place) = option_items place.value

-- the count of kept things right after the last inverse of this place was kept, or 0
abbrev pub kept_of : Option Place → ℕ
kept_of None = 0
kept_of (Some place) = place.kept_at

abbrev pub last_kept : Table → Bytes → ℕ
last_kept table name = kept_of (place_at table name)

-- nothing is kept of any name
abbrev pub KeepsNothing : Table → Type 0
KeepsNothing table = (name : Bytes) → last_kept table name ≡ 0

-- a set of names
abbrev pub Names : Type 0
Names = Bytes → Bool

abbrev pub AreWithin : Names → Names → Type 0
AreWithin few more = (name : Bytes) → few name ≡ true → more name ≡ true

abbrev pub AreEqual : {A : Type 0} → (Bytes → A) → (Bytes → A) → Type 0
AreEqual old new = (name : Bytes) → new name ≡ old name

-- as before, except at this name
abbrev pub IsWith : {A : Type 0} → (Bytes → A) → Bytes → A → (Bytes → A) → Type 0
IsWith old name here new = (other : Bytes) → new other ≡ cond (is_eq (slice_cmp nat_cmp other name)) here (old other)

-- each name that had a place has one
abbrev pub KeepsSlots : Table → Table → Type 0
KeepsSlots old new = AreWithin (has_slot old) (has_slot new)

abbrev pub without : Bytes → Names → Names
without name names other = cond (is_eq (slice_cmp nat_cmp other name)) false (names other)

-- the names that have a place after the name gets back what it had: its place, or none
abbrev pub names_before : Bytes → Option Place → Names → Names
names_before name None names = without name names
names_before name (Some place) names = names

-- a name that had a place has one
abbrev pub stands_among : Names → Bytes → Option Place → Bool
stands_among names name None = true
stands_among names name (Some place) = names name
