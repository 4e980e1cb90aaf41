-- What a rehearsal starts with, and why it does not begin, in worked cases: each refusal in its order.
use Rattle.std.proofs.Common.{◌≡◌, ℕ, List, [], ◌∷◌, Bool, true, false, Option, Some, None, Ok, Err, codes, refl}
use Rattle.std.specs.Prelude.{Result}
use Rattle.envimage.specs.Data.{Pair}
use Rattle.envimage.specs.declared.image.ImageError.{ImageError}
use Rattle.envimage.specs.declared.image.ImageError.TheVariants.{BadCrc}
use Rattle.board_start.specs.Boards.{OfDevices, OfStart, board_of, text_alone}
use Rattle.board_start.specs.declared.start_error.StartError.TheVariants.{Alternatives, Name, NoAlternative, TooMany}
use Rattle.device_list.specs.DeviceList.{CopyOf, Deleted, Devices, Saving, Setting, Variable, all_steady, only}
use Rattle.device_list.specs.DeviceLaws.{quiet}
use Rattle.device_list.specs.declared.devices_error.DevicesError.TheVariants.{BadLine}
use Rattle.rehearse_terms.specs.State.{Text}
use Rattle.rehearse_terms.specs.declared.shell.Shell.{Shell}
use Rattle.rehearse_terms.specs.declared.shell.Shell.TheVariants.{Old2023, Old2025, Profile}
use Rattle.tool_words.specs.declared.ask.Taking.{Taking}
use Rattle.ubtool.specs.Beginning.{Beginning, Begins, NoBeginning, OfBoard, OfImage, with_image}
use Rattle.ubtool.specs.declared.rehearsal_error.RehearsalError.TheVariants.{Memory, Write}

abbrev taking : (steady : Bool) → Option ℕ → Taking
taking steady alternative = record { steady = steady; alternative = alternative }

abbrev stored : List Pair
stored = (codes "bootcmd", codes "load") ∷ (codes "p", codes "pro\\be") ∷ (codes "odd name", codes "load") ∷ []

-- on a board of this shell, with this list, of which this alternative is named
abbrev begins : Shell → (list : Text) → Option ℕ → (variable : Text) → Result Beginning NoBeginning
begins shell list alternative variable =
    with_image (Ok stored) shell (board_of (text_alone list)) (taking false alternative) variable None []

-- ---- refusals

abbrev bad_line : Text
bad_line = codes "given a=1\ngiven a=2\nload x\nbefore p"

abbrev two : Text
two = codes "given a=1\nload\ngiven a=2\nbefore p"

-- 64 alternatives, and one more, before and after a bad line
abbrev too_many : Text
too_many = codes "load x\ngiven a=1\ngiven a=2\ngiven a=3\ngiven a=4\ngiven a=5\ngiven a=6\ngiven a=7\ngiven a=8\ngiven b=1\ngiven b=2\ngiven b=3\ngiven b=4\ngiven b=5\ngiven b=6\ngiven b=7\ngiven b=8\ngiven b=9"

-- the image is refused before the list
image_first : with_image (Err BadCrc) Profile (board_of (text_alone bad_line)) (taking false None) (codes "bootcmd") None [] ≡ Err (OfImage BadCrc)
image_first = refl

-- a list with too many alternatives is refused before its first fault
many_before_faults : begins Profile too_many None (codes "bootcmd") ≡ Err (OfBoard (OfStart (TooMany 18)))
many_before_faults = refl

-- the first fault of the list, before an alternative is looked for
fault_before_alternatives : begins Profile bad_line None (codes "bootcmd") ≡ Err (OfBoard (OfDevices (BadLine 3)))
fault_before_alternatives = refl

fault_before_an_alternative : begins Profile bad_line (Some 3) (codes "bootcmd") ≡ Err (OfBoard (OfDevices (BadLine 3)))
fault_before_an_alternative = refl

-- the alternative, before the name of the variable
no_alternative_named : begins Profile two None (codes "odd name") ≡ Err (OfBoard (OfStart (Alternatives 2)))
no_alternative_named = refl

none_with_this_number : begins Profile two (Some 3) (codes "odd name") ≡ Err (OfBoard (OfStart (NoAlternative 3 2)))
none_with_this_number = refl

-- and then the name
odd_name : begins Profile two (Some 2) (codes "odd name") ≡ Err (OfBoard (OfStart Name))
odd_name = refl

-- ---- beginnings

abbrev with_a : (p value : Text) → List Pair
with_a p value = (codes "bootcmd", codes "load") ∷ (codes "p", p) ∷ (codes "odd name", codes "load") ∷ (codes "a", value) ∷ []

abbrev loads : Devices
loads = only ((codes "load", quiet) ∷ [])

abbrev first_text : Option Text
first_text = Some (codes "run p\nrun bootcmd\n")

-- the environment with what the list gives, its commands, and the text that runs in place of the variable's
first_alternative : begins Profile two (Some 1) (codes "bootcmd") ≡ Ok (record { environment = with_a (codes "pro\\be") (codes "1"); devices = loads; names = []; text = first_text })
first_alternative = refl

second_alternative : begins Profile two (Some 2) (codes "bootcmd") ≡ Ok (record { environment = with_a (codes "pro\\be") (codes "2"); devices = loads; names = []; text = first_text })
second_alternative = refl

-- a shell of U-Boot has the variables as U-Boot reads them
read_by_uboot : begins Old2023 two (Some 1) (codes "bootcmd") ≡ Ok (record { environment = with_a (codes "probe") (codes "1"); devices = loads; names = []; text = first_text })
read_by_uboot = refl

read_by_a_later_uboot : begins Old2025 two (Some 1) (codes "bootcmd") ≡ Ok (record { environment = with_a (codes "probe") (codes "1"); devices = loads; names = []; text = first_text })
read_by_a_later_uboot = refl

-- what the list gives is not read so
given_as_it_is : begins Old2023 (codes "given a=1\\2") None (codes "bootcmd") ≡ Ok (record { environment = with_a (codes "probe") (codes "1\\2"); devices = only []; names = []; text = None })
given_as_it_is = refl

-- all of the list is steady if that is asked
steady_if_asked : with_image (Ok stored) Profile (board_of (text_alone (codes "load"))) (taking true None) (codes "bootcmd") None [] ≡ Ok (record { environment = stored; devices = all_steady loads; names = []; text = None })
steady_if_asked = refl

-- a text that is given goes after those that run first
given_text : with_image (Ok stored) Profile (board_of (text_alone (codes "load\nbefore p"))) (taking false None) (codes "boot.scr") (Some (codes "load")) [] ≡ Ok (record { environment = stored; devices = loads; names = []; text = Some (codes "run p\nload") })
given_text = refl

-- ---- calls that save

abbrev begins_asking : (list : Text) → (steady : Bool) → (names : List Text) → Result Beginning NoBeginning
begins_asking list steady names =
    with_image (Ok stored) Profile (board_of (text_alone list)) (taking steady None) (codes "bootcmd") None names

abbrev with_saves : Text
with_saves = codes "load\nsaves saveenv"

-- what `saveenv` sets after it saves
abbrev setting_copies : List Setting → Devices
setting_copies sets =
    record loads { calls = (codes "saveenv", (record { words = []; more = true }, record quiet { sets = (Saving, Deleted) ∷ sets }) ∷ []) ∷ [] }

abbrev copy_of_p : List Setting
copy_of_p = (Variable (0 ∷ codes "p"), CopyOf (codes "p")) ∷ []

-- the variable that is asked for has a copy, and the copy is asked for too
one_copied : begins_asking with_saves false (codes "p" ∷ []) ≡ Ok (record { environment = stored; devices = setting_copies copy_of_p; names = codes "p" ∷ (0 ∷ codes "p") ∷ []; text = None })
one_copied = refl

one_copied_steadily : begins_asking with_saves true (codes "p" ∷ []) ≡ Ok (record { environment = stored; devices = all_steady (setting_copies copy_of_p); names = codes "p" ∷ (0 ∷ codes "p") ∷ []; text = None })
one_copied_steadily = refl

-- nothing is asked for, and so nothing is copied
none_copied : begins_asking with_saves false [] ≡ Ok (record { environment = stored; devices = setting_copies []; names = []; text = None })
none_copied = refl

-- nor is it if no call saves
not_saved : begins_asking (codes "load") false (codes "p" ∷ []) ≡ Ok (record { environment = stored; devices = loads; names = codes "p" ∷ []; text = None })
not_saved = refl

-- ---- answers

-- memory runs out only if the image is right, and nothing else is refused
memory_with_an_image : (environment : List Pair) (answer : Result Beginning NoBeginning) → Begins (Ok environment) answer (Err Memory)
memory_with_an_image environment answer = (environment, refl)

no_memory_with_a_faulty_image : (error : ImageError) (answer : Result Beginning NoBeginning) → Begins (Err error) answer (Err Memory) → ⊥
no_memory_with_a_faulty_image error answer h = let e = h.1 in cc

no_write : (image : Result (List Pair) ImageError) (answer : Result Beginning NoBeginning) → Begins image answer (Err Write) → ⊥
no_write image answer h = h
