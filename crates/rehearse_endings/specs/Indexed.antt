-- Where the table notes its entries: from the number of a place, what an entry knows leads to it. Ours.
use Rattle.std.specs.Prelude.{◌≡◌, ℕ, suc, ◌+◌, ◌-◌, ◌≤◌, nat_eq, cond, false, List, [], ◌∷◌, ◌++◌, length, take, reverse, Option, Some, None, Contains}
use Rattle.std.specs.List.{slice_get}
use Rattle.std.specs.HashMap.{HashMap, get}
use Rattle.std.specs.declared.alloc.Global.{Global}
use Rattle.std.specs.declared.vec.Vec.{Vec}
use Rattle.std.specs.declared.hash.BuildHasherDefault.{BuildHasherDefault}
use Rattle.std.specs.declared.hash.FoldHasher.{FoldHasher}
use Rattle.bootstore_state.specs.Moment.{Moment}
use Rattle.rehearse_reads.specs.Keys.{Key}
use Rattle.rehearse_reports.specs.Known.{key_of, keys_of, Holds, AllHold}
use Rattle.rehearse_reports.specs.ReportsShown.{keys_shown}
use Rattle.rehearse_reports.specs.declared.known.Known.{Known}
use Rattle.rehearse_reuse.specs.SummedRuns.{FitsIf, moved_by}
use Rattle.rehearse_states.specs.PlaceNumbers.{place_number}
use Rattle.rehearse_states.specs.Endings.{Row}
use Rattle.rehearse_states.specs.RowsShown.{summary_with}
use Rattle.rehearse_endings.specs.Numbers.{mixed_known}
use Rattle.rehearse_endings.specs.OnTop.{HasOnTop}
use Rattle.rehearse_endings.specs.declared.entry.Entry.{Entry}
use Rattle.rehearse_endings.specs.declared.entry.Future.{Future}
use Rattle.rehearse_endings.specs.declared.table.Table.{Table}

-- lists of places, each under a number
abbrev pub Places : Type 0
Places = HashMap ℕ (Vec ℕ Global) (BuildHasherDefault FoldHasher)

-- the places that a vector holds, if there is one
abbrev pub places_in : Option (Vec ℕ Global) → List ℕ
places_in None = []
places_in (Some places) = places.items

abbrev pub noted : Places → (number : ℕ) → List ℕ
noted places number = places_in (get nat_eq places number)

-- one more place is under a number, and nothing else is new
abbrev pub NotesOne : (old new : Places) → (number place : ℕ) → Type 0
NotesOne old new number place = (n : ℕ) → noted new n ≡ noted old n ++ cond (nat_eq number n) (place ∷ []) []

abbrev pub one_place : Option ℕ → List ℕ
one_place None = []
one_place (Some place) = place ∷ []

-- where entries are that know more than what has this number, one for each key that is known next
abbrev pub ways : Table → (number : ℕ) → List ℕ
ways table number = one_place (get nat_eq table.onward number) ++ noted table.forks number

abbrev pub known_after : Option Entry → (at : ℕ) → Option Known
known_after None at = None
known_after (Some e) at = slice_get e.known.items at

-- what the entry at a place knows after this many other things, if it knows more
abbrev pub known_in : List Entry → (place at : ℕ) → Option Known
known_in entries place at = known_after (slice_get entries place) at

-- it is something of this key
abbrev pub KnowsNext : List Entry → (place at : ℕ) → Key → Type 0
KnowsNext entries place at key = (known : Known) × (known_in entries place at ≡ Some known) × (key_of known ≡ key)

-- so does an entry at one of these places
abbrev pub Leads : (places : List ℕ) → List Entry → (at : ℕ) → Key → Type 0
Leads places entries at key = (place : ℕ) × Contains places place × KnowsNext entries place at key

-- from the number of what is known so far, the rest of it leads to the place
abbrev pub LeadTo : Table → List Entry → (number at : ℕ) → (rest : List Known) → (place : ℕ) → Type 0
LeadTo table entries number at [] place = Contains (noted table.alike number) place
LeadTo table entries number at (known ∷ rest) place =
    Leads (ways table number) entries at (key_of known) × LeadTo table entries (mixed_known number known) (suc at) rest place

-- what an entry knows leads to it from the number of its place, and is no longer than that of any; the table has how many
-- frames it has, if others may be below them
pub record IsNoted (table : Table) (entries : List Entry) (place : ℕ) (e : Entry) : Type 0 where
  pub deep : e.whole ≡ false → Contains table.depths.items (length e.frames.items)
  pub short : length e.known.items ≤ table.longest
  pub leads : LeadTo table entries (place_number (reverse e.frames.items)) 0 e.known.items place

-- so it is of each entry
abbrev pub AreNoted : Table → Type 0
AreNoted table = (place : ℕ) (e : Entry) → slice_get table.entries.items place ≡ Some e → IsNoted table table.entries.items place e

-- ---- looking up

-- the moment is at the place of the entry, what was known there holds here, and the runs of the entry have room here
pub record Fits (step_bound device_bound : ℕ) (e : Entry) (m : Moment) : Type 0 where
  pub frames : HasOnTop e.whole (reverse e.frames.items) m.frames
  pub known : AllHold m e.known.items
  pub steps : FitsIf e.summary.cut_steps e.steps m.steps e.summary.steps step_bound
  pub devices : FitsIf e.summary.cut_devices e.devices (length m.log) e.summary.devices device_bound

-- how many frames the moment has below those of an entry that fits
abbrev pub how_many_below : Entry → Moment → ℕ
how_many_below e m = cond e.whole 0 (length m.frames - length e.frames.items)

-- what is to come after the entry, as it is at the moment
pub record IsTaken (e : Entry) (m : Moment) (f : Future) : Type 0 where
  pub sums : (rows : List Row) → summary_with rows f.summary ≡ moved_by e.steps m.steps e.devices (length m.log) (summary_with rows e.summary)
  pub node : f.summary.sum ≡ e.summary.sum
  pub place : f.summary.place ≡ e.summary.place
  pub keys : keys_shown f.keys.items ≡ keys_of e.known.items
  pub below : f.below ≡ how_many_below e m

-- each of these places has the property
abbrev pub AllOf : (places : List ℕ) → (ℕ → Type 0) → Type 0
AllOf places IsSo = (place : ℕ) → Contains places place → IsSo place

module _ (step_bound device_bound : ℕ) where
  -- of one of the entries that fit
  abbrev pub TakesOne : List Entry → Moment → Future → Type 0
  TakesOne entries m f = (place : ℕ) × (e : Entry) × (slice_get entries place ≡ Some e) × Fits step_bound device_bound e m × IsTaken e m f

  -- the entry at the place does not fit
  abbrev pub FitsNot : List Entry → Moment → (place : ℕ) → Type 0
  FitsNot entries m place = (e : Entry) → slice_get entries place ≡ Some e → Fits step_bound device_bound e m → ⊥

  -- none does
  abbrev pub NoneFits : List Entry → Moment → Type 0
  NoneFits entries m = (place : ℕ) → FitsNot entries m place

  -- none to which what is known leads from this number of the first things, if the rest holds
  abbrev pub NoneFrom : Table → Moment → (number at : ℕ) → Type 0
  NoneFrom table m number at = (place : ℕ) (e : Entry) (rest : List Known) → slice_get table.entries.items place ≡ Some e →
      at + length rest ≤ table.longest → LeadTo table table.entries.items number at rest place → AllHold m rest → Fits step_bound device_bound e m → ⊥

  -- none with so many frames, if they may have others below them
  abbrev pub NoneOnTop : Table → Moment → (many : ℕ) → Type 0
  NoneOnTop table m many = many ≤ length m.frames → NoneFrom table m (place_number (take many m.frames)) 0

  -- none by what the entry at a place knows next
  abbrev pub NoneBy : Table → Moment → (number at place : ℕ) → Type 0
  NoneBy table m number at place = (known : Known) → KnowsNext table.entries.items place at (key_of known) → Holds m known →
      NoneFrom table m (mixed_known number known) (suc at)

-- this is the number after what the entry at a place knows next, as it is at the moment
abbrev pub IsNumberBehind : List Entry → Moment → (number at place : ℕ) → Option ℕ → Type 0
IsNumberBehind entries m number at place next = (known : Known) → KnowsNext entries place at (key_of known) → Holds m known → next ≡ Some (mixed_known number known)

-- ---- what is noted

-- the entries, and further ones
abbrev pub BeginWith : (front entries : List Entry) → Type 0
BeginWith front entries = (further : List Entry) × (entries ≡ front ++ further)

-- what led on from a number still does
abbrev pub HasMoreWays : (old new : ℕ → List ℕ) → Type 0
HasMoreWays old new = (number place : ℕ) → Contains (old number) place → Contains (new number) place

-- in each later table, where the entry of this place has what is known, that leads to it if it does from its last number
abbrev pub WayIsNoted : (old : List Entry) → Table → (last number : ℕ) → List Known → (place : ℕ) → Type 0
WayIsNoted old table last number known place = (later : Table) (entries : List Entry) (e : Entry) → HasMoreWays (ways table) (ways later) → BeginWith old entries →
    slice_get entries place ≡ Some e → e.known.items ≡ known → Contains (noted later.alike last) place → LeadTo later entries number 0 known place
