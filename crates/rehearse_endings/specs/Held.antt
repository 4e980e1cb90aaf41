-- How many bytes the table counts for the states that it holds, and the result of a search that holds more than allowed. Ours.
use Rattle.std.specs.Prelude.{◌≡◌, ℕ, ◌+◌, ◌*◌, ◌<◌, ◌≤◌, List, [], length, map, sum_by, Option, Some, None, Vec}
use Rattle.std.specs.List.{AllByRecursion}
use Rattle.std.specs.declared.alloc.Global.{Global}
use Rattle.bootstore_state.specs.Moment.{Moment, RunningFrame}
use Rattle.rehearse_terms.specs.State.{Text}
use Rattle.rehearse_rules.specs.Runs.{Task}
use Rattle.rehearse_reads.specs.Keys.{Key}
use Rattle.rehearse_frames.specs.Above.{above}
use Rattle.rehearse_reports.specs.Known.{AllHold, keys_of}
use Rattle.rehearse_reports.specs.declared.known.Known.{Known}
use Rattle.rehearse_reports.specs.declared.known.Known.TheVariants.{Environment, Local, AnswerTo, Succeeded, Status}
use Rattle.rehearse_endings.specs.States.{AreApart, Asked, Searched, frames_in}
use Rattle.rehearse_endings.specs.declared.entry.Entry.{Entry}
use Rattle.rehearse_endings.specs.declared.table.Table.{Table}

-- ---- sizes

abbrev pub size_of_value : Option (Vec ℕ Global) → ℕ
size_of_value (Some value) = length value.items
size_of_value None = 0

abbrev pub size_of_words : List (Vec ℕ Global) → ℕ
size_of_words words = sum_by (λ w. length w.items) words

-- something that is known: 192, and the bytes of its name and value, or of its words
abbrev pub size_of_known : Known → ℕ
size_of_known (Environment name value) = 192 + (length name.items + size_of_value value)
size_of_known (Local name value) = 192 + (length name.items + size_of_value value)
size_of_known (AnswerTo call answer) = 192 + size_of_words call.items
size_of_known (Succeeded start has) = 192 + size_of_words start.items
size_of_known (Status status) = 192

abbrev pub size_of_all : List Known → ℕ
size_of_all known = sum_by size_of_known known

-- a state: 512, 64 for each of its frames that count, whose scripts and words are shared, and what is known there
abbrev pub size_of : List RunningFrame → List Known → ℕ
size_of frames known = 512 + (64 * length frames + size_of_all known)

-- what is left of so much room after something of this size, if it has room there
abbrev pub IsLeft : (room size : ℕ) → Option ℕ → Type 0
IsLeft room size (Some left) = left + size ≡ room
IsLeft room size None = room < size

-- ---- the table

abbrev pub size_of_entry : Entry → ℕ
size_of_entry e = size_of e.frames.items e.known.items

-- all that the table may hold: what it holds, and what is left
abbrev pub most_held : Table → ℕ
most_held table = sum_by size_of_entry table.entries.items + table.room

-- a moment without so many of its lowest frames, with what it has at these keys, has no room
abbrev pub HasNoRoom : (room below : ℕ) → Moment → List Key → Type 0
HasNoRoom room below m keys = (known : List Known) × AllHold m known × (keys_of known ≡ keys) × (room < size_of (above below m.frames) known)

-- ---- the states of a search

-- a state that was searched, and what is known at its keys
pub record Held : Type 0 where
  pub state : Searched
  pub known : List Known

pub record IsHeld (h : Held) : Type 0 where
  pub known : AllHold h.state.asked.1 h.known
  pub keys : keys_of h.known ≡ h.state.keys

abbrev pub size_of_held : Held → ℕ
size_of_held h = size_of (frames_in h.state) h.known

-- states that were searched, each with what is known at its keys, and states on one run whose search has begun: runs of the task
-- reach all of them, and no two are alike
abbrev pub AreHeld : (names : List Text) → Task → List Held → (begun : List Asked) → Type 0
AreHeld names task states begun = AreApart names task (map (λ h. h.state) states) begun × AllByRecursion IsHeld states

-- this many, of which those that were searched have sizes that sum to more than this
abbrev pub ComesToBytes : (names : List Text) → Task → (count bytes : ℕ) → Type 0
ComesToBytes names task count bytes = (states : List Held) × (begun : List Asked) × (length states + length begun ≡ count)
    × AreHeld names task states begun × (bytes < sum_by size_of_held states)

-- this many, which were all searched, and whose sizes sum to no more than this
abbrev pub HoldsStates : (names : List Text) → Task → (count bytes : ℕ) → Type 0
HoldsStates names task count bytes =
    (states : List Held) × (length states ≡ count) × AreHeld names task states [] × (sum_by size_of_held states ≤ bytes)
