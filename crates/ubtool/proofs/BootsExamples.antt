-- What a boot starts with, and why it does not start; the room of an image; and what boots keep; in worked cases.
use Rattle.std.proofs.Common.{◌≡◌, ℕ, ◌*◌, List, [], ◌∷◌, Bool, true, false, Option, Some, None, Ok, Err, codes, refl}
use Rattle.std.specs.Fmt.{digits}
use Rattle.std.specs.Prelude.{Result, string_bytes}
use Rattle.board_start.specs.Boards.{Fault as BoardFault, OfDevices, OfStart, board_of, text_alone}
use Rattle.board_start.specs.declared.start_error.StartError.TheVariants.{Alternatives, Name, NoAlternative}
use Rattle.device_list.specs.CallLines.{Exactly}
use Rattle.device_list.specs.DeviceLaws.{quiet}
use Rattle.device_list.specs.DeviceList.{CopyOf, Deleted, Devices, Saving, Setting, Variable, all_steady, only}
use Rattle.device_list.specs.declared.devices_error.DevicesError.TheVariants.{BadLine}
use Rattle.envimage.specs.Data.{Pair}
use Rattle.envimage.specs.declared.image.ByteOrder.TheVariants.{Big}
use Rattle.output.specs.Sink.{Sink}
use Rattle.rehearse_boots.specs.Boots.{Started}
use Rattle.rehearse_rules.specs.declared.rehearse_error.RehearseError.TheVariants.{NotARun}
use Rattle.rehearse_terms.specs.State.{Text}
use Rattle.tool_files.specs.Told.{Stored, Told}
use Rattle.tool_files.specs.declared.files.Action.TheVariants.{ReadAll}
use Rattle.tool_images.specs.declared.fault.Fault.{Fault}
use Rattle.tool_words.specs.Asked.{configured, no_images, texts, whole}
use Rattle.tool_words.specs.declared.ask.BootsAsk.{BootsAsk}
use Rattle.tool_words.specs.declared.ask.ExpectedAsk.{ExpectedAsk}
use Rattle.tool_words.specs.declared.ask.Taking.{Taking}
use Rattle.tool_words.specs.declared.ask.ValueAsk.{ValueAsk}
use Rattle.ubtool.specs.BootStarts.{boot_start}
use Rattle.ubtool.specs.BootsOfFiles.{HasReadChanges, IsChangesFault, expected_in, expected_values, limits_with, values_asked}
use Rattle.ubtool.specs.BootsOfImages.{BootLimits, RefusesBoots}
use Rattle.ubtool.specs.Given.{Given}
use Rattle.ubtool.specs.KeptNames.{changed_by, counted_in, differing, further_names}
use Rattle.ubtool.specs.Room.{room_of}
use Rattle.ubtool.specs.declared.rehearsal_error.RehearsalError.TheVariants.{Rehearsal}

abbrev taking : (steady : Bool) → Option ℕ → Taking
taking steady alternative = record { steady = steady; alternative = alternative }

-- what a boot finds saved
abbrev found : (p : Text) → List Pair
found p = (codes "bootcmd", codes "load") ∷ (codes "p", p) ∷ []

-- with this list, of which this alternative is named, keeping a variable p
abbrev starts : (list : Text) → Option ℕ → (variable : Text) → List Pair → Result Started BoardFault
starts list alternative variable environment =
    boot_start (text_alone list) (taking false alternative) variable None (codes "p" ∷ []) environment

-- ---- refusals

abbrev two : Text
two = codes "given a=1\nload\ngiven a=2\nbefore p"

-- no alternative is gone through if none is named
no_alternative_named : starts two None (codes "odd name") (found (codes "probe")) ≡ Err (OfStart (Alternatives 2))
no_alternative_named = refl

none_with_this_number : starts two (Some 3) (codes "odd name") (found (codes "probe")) ≡ Err (OfStart (NoAlternative 3 2))
none_with_this_number = refl

odd_name : starts two (Some 2) (codes "odd name") ((codes "odd name", codes "load") ∷ found (codes "probe")) ≡ Err (OfStart Name)
odd_name = refl

-- the first fault of the list comes first
bad_line : starts (codes "given a=1\ngiven a=2\nload x\nbefore p") None (codes "bootcmd") (found (codes "probe")) ≡ Err (OfDevices (BadLine 3))
bad_line = refl

-- ---- boots that start

abbrev loads : Devices
loads = only ((codes "load", quiet) ∷ [])

abbrev with_a : (p value : Text) → List Pair
with_a p value = (codes "bootcmd", codes "load") ∷ (codes "p", p) ∷ (codes "a", value) ∷ []

-- a list that saves nothing: what is found is what it starts with
none_saved : starts (codes "load") None (codes "bootcmd") (found (codes "probe")) ≡ Ok (record { environment = found (codes "probe"); devices = loads; text = None; saves = false })
none_saved = refl

-- what the list gives, the alternative that is named, and what runs first, by what is found
first_alternative : starts two (Some 1) (codes "bootcmd") (found (codes "probe")) ≡ Ok (record { environment = with_a (codes "probe") (codes "1"); devices = loads; text = Some (codes "run p\nrun bootcmd\n"); saves = false })
first_alternative = refl

second_alternative : starts two (Some 2) (codes "bootcmd") (found (codes "probe")) ≡ Ok (record { environment = with_a (codes "probe") (codes "2"); devices = loads; text = Some (codes "run p\nrun bootcmd\n"); saves = false })
second_alternative = refl

-- what was deleted before does not run first
none_first : starts two (Some 1) (codes "bootcmd") ((codes "bootcmd", codes "load") ∷ []) ≡ Ok (record { environment = (codes "bootcmd", codes "load") ∷ (codes "a", codes "1") ∷ []; devices = loads; text = None; saves = false })
none_first = refl

-- what the list gives goes before what was saved
given_anew : starts two (Some 1) (codes "bootcmd") (with_a (codes "probe") (codes "7")) ≡ Ok (record { environment = with_a (codes "probe") (codes "1"); devices = loads; text = Some (codes "run p\nrun bootcmd\n"); saves = false })
given_anew = refl

-- a text that is given follows those that run first
given_text : boot_start (text_alone (codes "load\nbefore p")) (taking false None) (codes "boot.scr") (Some (codes "load")) [] (found (codes "probe")) ≡ Ok (record { environment = found (codes "probe"); devices = loads; text = Some (codes "run p\nload"); saves = false })
given_text = refl

-- ---- calls that save

-- what `saveenv` sets after it saves
abbrev setting_copies : List Setting → Devices
setting_copies sets =
    record loads { calls = (codes "saveenv", (record { words = []; more = true }, record quiet { sets = (Saving, Deleted) ∷ sets }) ∷ []) ∷ [] }

abbrev copy_of_p : List Setting
copy_of_p = (Variable (0 ∷ codes "p"), CopyOf (codes "p")) ∷ []

-- each variable that is kept has a copy
one_copied : starts (codes "load\nsaves saveenv") None (codes "bootcmd") (found (codes "probe")) ≡ Ok (record { environment = found (codes "probe"); devices = setting_copies copy_of_p; text = None; saves = false })
one_copied = refl

one_copied_steadily : boot_start (text_alone (codes "load\nsaves saveenv")) (taking true None) (codes "bootcmd") None (codes "p" ∷ []) (found (codes "probe")) ≡ Ok (record { environment = found (codes "probe"); devices = all_steady (setting_copies copy_of_p); text = None; saves = false })
one_copied_steadily = refl

none_copied : boot_start (text_alone (codes "load\nsaves saveenv")) (taking false None) (codes "bootcmd") None [] (found (codes "probe")) ≡ Ok (record { environment = found (codes "probe"); devices = setting_copies []; text = None; saves = false })
none_copied = refl

-- a pattern has the value that a boot finds
abbrev saving_call : (word : Text) → Devices
saving_call word =
    record loads { calls = (codes "load", (record { words = Exactly word ∷ []; more = true }, record quiet { sets = (Saving, Deleted) ∷ copy_of_p }) ∷ []) ∷ [] }

pattern_filled : starts (codes "load\ncall load ${p} ** : saves") None (codes "bootcmd") (found (codes "40")) ≡ Ok (record { environment = found (codes "40"); devices = saving_call (codes "40"); text = None; saves = false })
pattern_filled = refl

pattern_filled_later : starts (codes "load\ncall load ${p} ** : saves") None (codes "bootcmd") (found (codes "41")) ≡ Ok (record { environment = found (codes "41"); devices = saving_call (codes "41"); text = None; saves = false })
pattern_filled_later = refl

-- ---- the boot counter

abbrev counts : Text
counts = codes "load\ncount bootcount limit bootlimit else altbootcmd"

-- what a boot finds saved, with an update that is tried, and up to 3 boots allowed
abbrev counted : (counter : Text) → List Pair
counted counter =
    (codes "bootcmd", codes "load") ∷ (codes "altbootcmd", codes "run old") ∷ (codes "bootlimit", codes "3") ∷ (codes "upgrade_available", codes "1") ∷ (codes "bootcount", counter) ∷ []

-- the counter is raised, and saved before the run
raised_and_saved : starts counts None (codes "bootcmd") (counted (codes "2")) ≡ Ok (record { environment = counted (codes "3"); devices = loads; text = None; saves = true })
unfolding digits
raised_and_saved = refl

-- beyond the limit the text is that of the other variable, whatever is asked for
beyond_the_limit : starts counts None (codes "bootcmd") (counted (codes "3")) ≡ Ok (record { environment = counted (codes "4"); devices = loads; text = Some (codes "run old"); saves = true })
unfolding digits
beyond_the_limit = refl

-- if no update is tried, the counter is 1, and is not saved
abbrev settled : (counter : Text) → List Pair
settled counter = (codes "bootcmd", codes "load") ∷ (codes "bootlimit", codes "3") ∷ (codes "bootcount", counter) ∷ []

not_saved : starts counts None (codes "bootcmd") (settled (codes "7")) ≡ Ok (record { environment = settled (codes "1"); devices = loads; text = None; saves = false })
unfolding digits
not_saved = refl

-- ---- which variables are kept

-- one with another value, one that is deleted, and one that is new
others_differ : differing ((codes "a", codes "1") ∷ (codes "b", codes "2") ∷ (codes "d", codes "9") ∷ []) ((codes "a", codes "1") ∷ (codes "b", codes "3") ∷ (codes "c", codes "4") ∷ []) ≡ codes "b" ∷ codes "d" ∷ codes "b" ∷ codes "c" ∷ []
others_differ = refl

-- an empty value is not that of a variable that is not set
empty_differs : differing [] ((codes "e", []) ∷ []) ≡ codes "e" ∷ []
empty_differs = refl

none_differ : differing (found (codes "probe")) (found (codes "probe")) ≡ []
none_differ = refl

-- what a script of changes sets and deletes
set_and_deleted : changed_by (found (codes "probe")) (Some (codes "p new\nbootcmd\nq 1\n")) ≡ codes "bootcmd" ∷ codes "p" ∷ codes "p" ∷ codes "q" ∷ []
set_and_deleted = refl

-- a line that leaves all as it was
set_to_the_same : changed_by (found (codes "probe")) (Some (codes "p probe\nz\n")) ≡ []
set_to_the_same = refl

-- a line that is set back
set_and_set_back : changed_by (found (codes "probe")) (Some (codes "p new\np probe\n")) ≡ []
set_and_set_back = refl

no_changes_given : changed_by (found (codes "probe")) None ≡ []
no_changes_given = refl

-- the counter of a list
counter_of_a_list : counted_in (board_of (text_alone counts)) ≡ codes "bootcount" ∷ []
counter_of_a_list = refl

no_counter : counted_in (board_of (text_alone (codes "load"))) ≡ []
no_counter = refl

none_of_a_bad_list : counted_in (board_of (text_alone (codes "load x\ncount bootcount limit bootlimit else altbootcmd"))) ≡ []
none_of_a_bad_list = refl

-- what the system changes, and then the counter
changes_and_counter : further_names (text_alone counts) (found (codes "probe")) (Some (codes "q 1\n")) ≡ codes "q" ∷ codes "bootcount" ∷ []
changes_and_counter = refl

-- ---- what is asked of boots

none_expected : expected_in None ≡ None
none_expected = refl

expected_as_said : (expected : ExpectedAsk) → expected_in (Some expected) ≡ Some (record { ending = string_bytes expected.ending; values = values_asked expected.values.items; within = expected.within })
expected_as_said expected = refl

values_of_none : expected_values None ≡ []
values_of_none = refl

values_of_an_ending : (expected : ExpectedAsk) → expected_values (Some expected) ≡ values_asked expected.values.items
values_of_an_ending expected = refl

-- each name with its value, in their order
two_values : (a b : ValueAsk) → values_asked (a ∷ b ∷ []) ≡ (string_bytes a.name, string_bytes a.value) ∷ (string_bytes b.name, string_bytes b.value) ∷ []
two_values a b = refl

limits_as_said : (what : BootsAsk) (changes : Text) → limits_with what (Some 4) (Some changes)
    ≡ record { states = what.states; work = what.work; bytes = what.memory * 1048576; boots = what.boots; failures = what.failures; room = Some 4; changes = Some changes; expected = expected_in what.expected }
limits_as_said what changes = refl

-- ---- the script of changes

none_named : (told : Told) → HasReadChanges None told told None
none_named told = refl

none_read_unasked : (old new : Told) (changes : Text) → HasReadChanges None old new (Some changes) → ⊥
none_read_unasked old new changes h = h

one_read_if_named : (path : Text) (old new : Told) → HasReadChanges (Some path) old new None → ⊥
one_read_if_named path old new h = h

-- the whole file is read, by one call
read_whole : HasReadChanges (Some (codes "c")) (record { stored = (codes "c", codes "p 1") ∷ []; calls = [] }) (record { stored = (codes "c", codes "p 1") ∷ []; calls = (codes "c", ReadAll) ∷ [] }) (Some (codes "p 1"))
read_whole = record { found = refl; calls = refl; stored = refl }

none_refused_unnamed : (stored : Stored) (fault : Fault) → IsChangesFault None stored fault → ⊥
none_refused_unnamed stored fault h = h

-- ---- the room of an image

abbrev eight : List ℕ
eight = codes "12345678"

of_one_image : room_of (whole (codes "a") None) eight None ≡ Some 4
of_one_image = refl

of_a_pair : room_of (whole (codes "a") (Some (codes "b"))) eight (Some eight) ≡ Some 3
of_a_pair = refl

of_a_configured_image : room_of (configured (codes "a")) eight None ≡ Some 4
of_a_configured_image = refl

of_a_configured_pair : room_of (configured (codes "a")) eight (Some eight) ≡ Some 3
of_a_configured_pair = refl

of_no_data : room_of (whole (codes "a") None) (codes "1234") None ≡ Some 0
of_no_data = refl

of_less_than_a_checksum : room_of (whole (codes "a") (Some (codes "b"))) (codes "123") (Some (codes "123")) ≡ Some 0
of_less_than_a_checksum = refl

of_a_text : room_of (texts (codes "a") Big) eight None ≡ None
of_a_text = refl

of_nothing : room_of (no_images Big) eight None ≡ None
of_nothing = refl

-- ---- what refuses no boots

no_word : (g : Given) (limits : BootLimits) (old new : Sink) → RefusesBoots g limits old new (Rehearsal NotARun) → ⊥
no_word g limits old new h = h
