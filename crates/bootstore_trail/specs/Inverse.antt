-- What takes a run back to its marks (ours).
use Rattle.std.specs.Prelude.{◌≡◌, ℕ, ◌+◌, ◌≤◌, max, List, [], ◌∷◌, length, take, reverse, Bool, true, false, cond, ◌&&◌, ◌||◌, nat_le, nat_eq, vec_capacity}
use Rattle.bootstore_trail.specs.declared.inverse.Marked.{Marked}
use Rattle.bootstore_trail.specs.declared.inverse.Inverse.{Inverse}
use Rattle.bootstore_trail.specs.declared.inverse.Inverse.TheVariants.{Variable, Touched}
use Rattle.bootstore_trail.specs.declared.inverse.Kept.{Kept}
use Rattle.bootstore_trail.specs.declared.inverse.Kept.TheVariants.{Mark, Change}
use Rattle.bootstore_state.specs.declared.present.Present.{Present}
use Rattle.bootstore_state.specs.declared.present.Scope.{Scope}
use Rattle.bootstore_state.specs.Moment.{Bytes, Moment, RunningFrame, text_front, text_length}
use Rattle.bootstore_state.specs.Record.{Record}
use Rattle.bootstore_state.specs.Present.{moment_of, chosen, table_of, with_variable}
use Rattle.bootstore_state.specs.Table.{Names, has_slot, names_before, place_value, stands_among, last_kept, kept_of, is_name}

-- this many of the frames, the outermost ones
abbrev pub outermost : ℕ → List RunningFrame → List RunningFrame
outermost count frames = reverse (take count (reverse frames))

-- the moment before the change that the inverse takes back
abbrev pub undone : Inverse → Moment → Moment
undone (Variable scope name before) m = with_variable scope name.items (place_value before) m
undone (Touched below frame) m = record m { frames = frame ∷ outermost below m.frames }

-- the moment with what a mark keeps itself
abbrev pub at_mark : Marked → Moment → Moment
at_mark mark m =
    record {
      environment = m.environment;
      locals = m.locals;
      status = mark.status;
      text = text_front mark.text m.text;
      log = take mark.log m.log;
      steps = mark.steps;
      frames = outermost mark.frames m.frames;
    }

-- the moments at the marks; the list of kept things starts with the last
abbrev pub marked_before : Moment → List Kept → List Moment
marked_before m [] = []
marked_before m (Mark mark ∷ kept) = at_mark mark m ∷ marked_before (at_mark mark m) kept
marked_before m (Change inverse ∷ kept) = marked_before (undone inverse m) kept

-- the names that have a place in the environment after the inverse was taken, and the names of shell variables that do
abbrev pub names_left : Inverse → Names → Names
names_left (Variable scope name before) names = chosen scope (names_before name.items before names) names
names_left (Touched below frame) names = names

abbrev pub local_names_left : Inverse → Names → Names
local_names_left (Variable scope name before) names = chosen scope names (names_before name.items before names)
local_names_left (Touched below frame) names = names

-- a value that comes back finds the place of its name
abbrev pub finds_its_place : Names → Names → Inverse → Bool
finds_its_place environment locals (Variable scope name before) =
    stands_among (chosen scope environment locals) name.items before
finds_its_place environment locals (Touched below frame) = true

-- each value finds its place when it comes back
abbrev pub find_places : Names → Names → List Kept → Bool
find_places environment locals [] = true
find_places environment locals (Mark mark ∷ kept) = find_places environment locals kept
find_places environment locals (Change inverse ∷ kept) =
    finds_its_place environment locals inverse
    && find_places (names_left inverse environment) (local_names_left inverse locals) kept

-- the room that the frames need to come back
abbrev pub room_for : Inverse → ℕ
room_for (Variable scope name before) = 0
room_for (Touched below frame) = below + 1

abbrev pub HasRoom : ℕ → Inverse → Type 0
HasRoom capacity inverse = room_for inverse ≤ capacity

abbrev pub most_room : List Kept → ℕ
most_room [] = 0
most_room (Mark mark ∷ kept) = most_room kept
most_room (Change inverse ∷ kept) = max (room_for inverse) (most_room kept)

-- how much of the text, of the log and of the frames the way back needs; anything after it is dropped
abbrev pub text_reach : List Kept → ℕ
text_reach [] = 0
text_reach (Mark mark ∷ kept) = mark.text
text_reach (Change inverse ∷ kept) = text_reach kept

abbrev pub log_reach : List Kept → ℕ
log_reach [] = 0
log_reach (Mark mark ∷ kept) = mark.log
log_reach (Change inverse ∷ kept) = log_reach kept

abbrev pub reach_of : Inverse → ℕ → ℕ
reach_of (Variable scope name before) rest = rest
reach_of (Touched below frame) rest = below

abbrev pub frame_reach : List Kept → ℕ
frame_reach [] = 0
frame_reach (Mark mark ∷ kept) = mark.frames
frame_reach (Change inverse ∷ kept) = reach_of inverse (frame_reach kept)

-- what comes back leaves what the rest of the way needs
abbrev pub leaves : Inverse → ℕ → Bool
leaves (Variable scope name before) rest = true
leaves (Touched below frame) rest = nat_le rest (below + 1)

abbrev pub nested : List Kept → Bool
nested [] = true
nested (Mark mark ∷ kept) =
    nat_le (text_reach kept) mark.text && nat_le (log_reach kept) mark.log
    && nat_eq (frame_reach kept) mark.before.untouched && nat_le mark.before.untouched mark.frames && nested kept
nested (Change inverse ∷ kept) = leaves inverse (frame_reach kept) && nested kept

-- the first kept thing is a mark, if anything is kept
abbrev pub begins_with_mark : List Kept → Bool
begins_with_mark [] = true
begins_with_mark (Mark mark ∷ []) = true
begins_with_mark (Change inverse ∷ []) = false
begins_with_mark (one ∷ next ∷ kept) = begins_with_mark (next ∷ kept)

-- the way back goes through this moment, whose first frames are untouched since the last mark
pub record LeadsBack (m : Moment) (untouched : ℕ) (kept : List Kept) : Type 0 where
  pub text : text_reach kept ≤ text_length m.text
  pub log : log_reach kept ≤ length m.log
  pub frames : frame_reach kept ≡ untouched
  pub untouched_frames : untouched ≤ length m.frames
  pub nested : nested kept ≡ true
  pub rooted : begins_with_mark kept ≡ true

-- the way back needs no memory: each value finds its place, and each frame finds room
pub record CanGoBack (p : Present) (untouched : ℕ) (kept : List Kept) : Type 0 where
  pub leads : LeadsBack (moment_of p) untouched kept
  pub places : find_places (has_slot p.environment) (has_slot p.locals) kept ≡ true
  pub room : most_room kept ≤ vec_capacity p.frames

abbrev pub record_with : Present → List Kept → ℕ → Record
record_with p kept begun = record { present = moment_of p; marked = marked_before (moment_of p) kept; begun = begun }

-- whether the inverse is one of this variable
abbrev pub is_of : Scope → Bytes → Inverse → Bool
is_of scope name (Variable other key before) =
    chosen scope (chosen other (is_name name key) false) (chosen other false (is_name name key))
is_of scope name (Touched below frame) = false

-- the count of each variable after the inverse was taken
abbrev pub last_left : Scope → Inverse → (Bytes → ℕ) → Bytes → ℕ
last_left scope (Variable other key before) last name =
    cond (is_of scope name (Variable other key before)) (kept_of before) (last name)
last_left scope (Touched below frame) last name = last name

-- whether the count-th kept thing, counted from the first on, is such an inverse
abbrev pub stands_as : (Inverse → Bool) → ℕ → List Kept → Bool
stands_as test count [] = false
stands_as test count (Mark mark ∷ kept) = stands_as test count kept
stands_as test count (Change inverse ∷ kept) =
    cond (nat_eq count (length kept + 1)) (test inverse) (stands_as test count kept)

-- a count of 0 says that no inverse is kept
abbrev pub is_kept : (Inverse → Bool) → ℕ → List Kept → Bool
is_kept test count kept = nat_eq count 0 || stands_as test count kept

abbrev pub EachIsKept : (Bytes → Inverse → Bool) → (Bytes → ℕ) → List Kept → Type 0
EachIsKept test last kept = (name : Bytes) → is_kept (test name) (last name) kept ≡ true

-- the place that comes back has a count that is right
abbrev pub tells_kept : Inverse → List Kept → Bool
tells_kept (Variable scope key before) kept = is_kept (is_of scope key.items) (kept_of before) kept
tells_kept (Touched below frame) kept = true

abbrev pub all_tell_kept : List Kept → Bool
all_tell_kept [] = true
all_tell_kept (Mark mark ∷ kept) = all_tell_kept kept
all_tell_kept (Change inverse ∷ kept) = tells_kept inverse kept && all_tell_kept kept

-- how many things were kept up to the last mark, the mark included
abbrev pub up_to_mark : List Kept → ℕ
up_to_mark [] = 0
up_to_mark (Mark mark ∷ kept) = length kept + 1
up_to_mark (Change inverse ∷ kept) = up_to_mark kept

abbrev pub marks_tell : List Kept → Bool
marks_tell [] = true
marks_tell (Mark mark ∷ kept) = nat_eq (up_to_mark kept) mark.before.kept && marks_tell kept
marks_tell (Change inverse ∷ kept) = marks_tell kept

-- if the count of a place is above the count at the last mark, an inverse of it is kept, and another change needs none
pub record KeepsOnce (p : Present) (up_to : ℕ) (kept : List Kept) : Type 0 where
  pub variables : (scope : Scope) → EachIsKept (is_of scope) (last_kept (table_of p scope)) kept
  pub before : all_tell_kept kept ≡ true
  pub last_mark : up_to_mark kept ≡ up_to
  pub marks : marks_tell kept ≡ true
