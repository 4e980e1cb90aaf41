-- Worked examples, computed: what is kept from one boot to the next, the numbers of boots, and their lines.
use Rattle.std.proofs.Common.{◌≡◌, ℕ, Bool, true, false, List, [], ◌∷◌, Option, Some, None, codes, map, refl}
use Rattle.std.specs.Fmt.{digits}
use Rattle.rehearse_boots.specs.Boots.{Asked, Kept, bounds_in, each_once, first_of, found_by, has_room, is_followed, has_booted, kept_after, next_of, number_of, room_kept, saved_after, saved_at, told_apart, Expected, Started}
use Rattle.rehearse_boots.specs.Expecting.{is_clean, is_expected, starts_with}
use Rattle.rehearse_boots.specs.BootLines.{changed_lines, way_lines}
use Rattle.device_list.specs.DeviceList.{Devices}
use Rattle.device_list.specs.declared.finish.BoardEnd.TheVariants.{Boots, Restarts, Halts}
use Rattle.rehearse_rules.specs.Execution.{End, Finished}
use Rattle.rehearse_states.specs.Endings.{Row}
use Rattle.rehearse_terms.specs.Outcomes.{Failure}
use Rattle.rehearse_terms.specs.State.{Text}
use Rattle.rehearse_terms.specs.declared.shell.Shell.TheVariants.{Profile}

-- ---- what is saved of a variable

-- nothing was saved; it was saved as not set; a value was saved, also one that starts with the mark
nothing_saved : kept_after (codes "3" ∷ codes "A" ∷ []) (None ∷ None ∷ []) ≡ codes "3" ∷ codes "A" ∷ []
nothing_saved = refl

saved : kept_after (codes "3" ∷ [] ∷ codes "A" ∷ []) (Some (codes "=2") ∷ Some (codes "==") ∷ Some [] ∷ []) ≡ codes "2" ∷ codes "=" ∷ [] ∷ []
saved = refl

-- a value that is empty is as one that is not set
saved_empty : kept_after (codes "3" ∷ []) (Some (codes "=") ∷ []) ≡ [] ∷ []
saved_empty = refl

-- of a variable without a copy nothing was saved
no_copy : kept_after (codes "3" ∷ codes "A" ∷ []) (Some (codes "=2") ∷ []) ≡ codes "2" ∷ codes "A" ∷ []
no_copy = refl

-- ---- boots of a board whose image has `left=2`

abbrev asked : Option ℕ → (failures : Option ℕ) → Asked
asked room failures = record {
  environment = (codes "left", codes "2") ∷ [];
  name = codes "bootcmd";
  bounds = record { devices = 3; steps = 20; failures = None; shell = Profile; room = None };
  failures = failures;
  names = codes "x" ∷ [];
  kept = codes "left" ∷ codes "note" ∷ [];
  room = room;
  changes = None;
  expected = None;
}

first : first_of (asked None None) ≡ codes "2" ∷ [] ∷ []
first = refl

-- a variable that gets an empty value is not set, and one that is new goes last
found_later : found_by (asked None None) ([] ∷ codes "ab" ∷ []) ≡ (codes "note", codes "ab") ∷ []
found_later = refl

found_first : found_by (asked None None) (codes "2" ∷ [] ∷ []) ≡ (codes "left", codes "2") ∷ []
found_first = refl

apart : told_apart (asked None None) ≡ codes "x" ∷ (0 ∷ codes "left") ∷ (0 ∷ codes "note") ∷ []
apart = refl

-- `left=2` and the byte after it take 7 bytes, and one more ends them
just_room : has_room (Some 8) (found_by (asked None None) (codes "2" ∷ [] ∷ [])) ≡ true
just_room = refl

no_room : has_room (Some 7) (found_by (asked None None) (codes "2" ∷ [] ∷ [])) ≡ false
no_room = refl

-- the variables that are kept have what the others leave: here there are none
room_of_all : map (λ room. room_kept (asked room None)) (Some 8 ∷ Some 1 ∷ Some 0 ∷ None ∷ []) ≡ Some 7 ∷ Some 0 ∷ Some 0 ∷ None ∷ []
room_of_all = refl

-- and here `left=2` is not kept
room_beside : map (λ room. room_kept (record (asked room None) { kept = codes "note" ∷ [] })) (Some 20 ∷ Some 8 ∷ Some 7 ∷ []) ≡ Some 12 ∷ Some 0 ∷ Some 0 ∷ []
room_beside = refl

in_its_room : bounds_in (asked (Some 8) None) ≡ record { devices = 3; steps = 20; failures = None; shell = Profile; room = Some 7 }
in_its_room = refl

-- an ending of one run, which leaves x and has saved this, with so many failures
abbrev ending : (copies : List (Option Text)) → (failures : ℕ) → Row
ending copies failures = record {
  run_end = record { ending = End 0; values = Some (codes "9") ∷ copies };
  count = 1;
  word = Failure ∷ [];
  fewest = (Failure ∷ [], failures);
}

abbrev noted : Row
noted = ending (Some (codes "=1") ∷ Some (codes "=abc") ∷ []) 1

-- the boot after it, by what was saved; by what was saved before, if nothing was, or if that has no room
behind : saved_after (asked None None) (codes "2" ∷ [] ∷ []) noted ≡ codes "1" ∷ codes "abc" ∷ []
behind = refl

behind_nothing : saved_after (asked None None) (codes "2" ∷ [] ∷ []) (ending (None ∷ None ∷ []) 1) ≡ codes "2" ∷ [] ∷ []
behind_nothing = refl

behind_in_room : saved_after (asked (Some 17) None) (codes "2" ∷ [] ∷ []) noted ≡ codes "1" ∷ codes "abc" ∷ []
behind_in_room = refl

behind_without_room : saved_after (asked (Some 16) None) (codes "2" ∷ [] ∷ []) noted ≡ codes "2" ∷ [] ∷ []
behind_without_room = refl

-- which endings are followed
followed_by_any : is_followed (asked None None) (ending [] 7) ≡ true
followed_by_any = refl

followed_by_as_many : is_followed (asked None (Some 1)) (ending [] 1) ≡ true
followed_by_as_many = refl

not_followed : is_followed (asked None (Some 1)) (ending [] 2) ≡ false
not_followed = refl

-- ---- numbers

abbrev a : Kept
a = codes "2" ∷ [] ∷ []

abbrev b : Kept
b = codes "1" ∷ [] ∷ []

abbrev c : Kept
c = [] ∷ codes "1" ∷ []

-- each once, where it was found first
once : each_once (a ∷ b ∷ a ∷ c ∷ b ∷ []) ≡ a ∷ b ∷ c ∷ []
once = refl

numbers : number_of (a ∷ b ∷ c ∷ []) c ≡ 3
numbers = refl

number_of_first : number_of (a ∷ b ∷ c ∷ []) a ≡ 1
number_of_first = refl

-- ---- lines

unchanged : changed_lines (codes "left" ∷ codes "note" ∷ []) a a ≡ []
unchanged = refl

changed : changed_lines (codes "left" ∷ codes "note" ∷ []) a c ≡ codes "unset left\nvar note=1\n"
changed = refl

way : way_lines (asked None None) (a ∷ (codes "1" ∷ codes "abc" ∷ []) ∷ []) a (λ w. (false, codes "load" ∷ []) ∷ []) noted
    ≡ codes "ends 1 first 1 fewest 1 1 end 0 next 2\nvar x=9\nfails load\n"
unfolding digits
way = refl

-- ---- changes after an ending that boots

abbrev booted : Row
booted = record noted { run_end = record { ending = Finished Boots (codes "bootm"); values = Some (codes "9") ∷ Some (codes "=1") ∷ None ∷ [] } }

abbrev marking : Asked
marking = record (asked None None) { changes = Some (codes "left=3\nnote\n") }

-- the last value that was saved is there before them, and a name alone deletes
after_changes : next_of marking (codes "2" ∷ codes "x" ∷ []) booted ≡ record { saved = codes "1" ∷ codes "x" ∷ []; changed = Some (codes "3" ∷ [] ∷ []) }
after_changes = refl

-- none after another ending, and none without a script
not_booted : (next_of marking (codes "2" ∷ codes "x" ∷ []) noted).changed ≡ None
not_booted = refl

no_script : (next_of (asked None None) (codes "2" ∷ codes "x" ∷ []) booted).changed ≡ None
no_script = refl

restarted : has_booted (Finished Restarts (codes "reset")) ≡ false
restarted = refl

halted : has_booted (Finished Halts (codes "poweroff")) ≡ false
halted = refl

-- changes that have no room are not made
no_room_for_changes : (next_of (record marking { room = Some 8; changes = Some (codes "left=33") }) (codes "2" ∷ [] ∷ []) (record booted { run_end = record { ending = Finished Boots (codes "bootm"); values = None ∷ None ∷ None ∷ [] } })).changed ≡ Some (codes "2" ∷ [] ∷ [])
no_room_for_changes = refl

way_with_changes : way_lines marking (a ∷ (codes "1" ∷ [] ∷ []) ∷ (codes "3" ∷ [] ∷ []) ∷ []) a (λ w. []) booted
    ≡ codes "ends 1 first 1 fewest 1 1 booted bootm next 2 then 3\nvar x=9\n"
unfolding digits
way_with_changes = refl

-- ---- what is saved at the start

module _ (devices : Devices) where
  abbrev started : (saves : Bool) → Started
  started saves = record { environment = (codes "left", codes "7") ∷ (codes "x", codes "1") ∷ []; devices = devices; text = None; saves = saves }

  saved_before_run : saved_at (asked None None) (codes "2" ∷ codes "y" ∷ []) (started true) ≡ codes "7" ∷ [] ∷ []
  saved_before_run = refl

  not_saved_before_run : saved_at (asked None None) (codes "2" ∷ codes "y" ∷ []) (started false) ≡ codes "2" ∷ codes "y" ∷ []
  not_saved_before_run = refl

  no_room_before_run : saved_at (asked (Some 7) None) (codes "2" ∷ codes "y" ∷ []) (started true) ≡ codes "2" ∷ codes "y" ∷ []
  no_room_before_run = refl

-- ---- the ending that is expected

-- by whole words from the start of its line
begins_so : starts_with (codes "booted") (codes "booted bootm") ≡ true
begins_so = refl

all_of_it : starts_with (codes "booted bootm") (codes "booted bootm") ≡ true
all_of_it = refl

half_a_word : starts_with (codes "booted boot") (codes "booted bootm") ≡ false
half_a_word = refl

other_words : starts_with (codes "booted bootz") (codes "booted bootm") ≡ false
other_words = refl

longer_words : starts_with (codes "booted bootm x") (codes "booted bootm") ≡ false
longer_words = refl

abbrev expected : (values : List (Text × Text)) → Expected
expected values = record { ending = codes "booted"; values = values; within = None }

as_expected : is_expected marking (expected ((codes "x", codes "9") ∷ [])) booted ≡ true
as_expected = refl

other_value : is_expected marking (expected ((codes "x", codes "8") ∷ [])) booted ≡ false
other_value = refl

one_of_two_values : is_expected marking (expected ((codes "x", codes "9") ∷ (codes "y", codes "1") ∷ [])) booted ≡ false
one_of_two_values = refl

-- an empty value is that of a variable that is not set, or not asked for
not_set : is_expected marking (expected ((codes "y", []) ∷ [])) booted ≡ true
not_set = refl

other_ending : is_expected marking (expected []) noted ≡ false
other_ending = refl

nothing_fails : is_clean (ending [] 0) ≡ true
nothing_fails = refl

one_fails : is_clean (ending [] 1) ≡ false
one_fails = refl
