-- The alternatives of a device list in turn, in worked cases.
use Rattle.std.proofs.Common.{◌≡◌, ℕ, [], ◌∷◌, ◌++◌, length, true, Option, Some, None, Ok, Err, codes, refl}
use Rattle.envimage.specs.declared.image.ByteOrder.TheVariants.{Little}
use Rattle.envimage.specs.declared.image.ImageError.{ImageError}
use Rattle.envtools.specs.declared.script.ScriptError.{ScriptError}
use Rattle.board_start.specs.Boards.{OfDevices, OfStart, text_alone}
use Rattle.board_start.specs.Start.{Start, no_start}
use Rattle.board_start.specs.declared.start_error.StartError.TheVariants.{Alternatives, Name, NoAlternative, TooMany}
use Rattle.device_list.specs.declared.devices_error.DevicesError.{DevicesError}
use Rattle.rehearse_terms.specs.Asking.{Asking}
use Rattle.rehearse_terms.specs.State.{Text}
use Rattle.tool_words.specs.declared.ask.Taking.{Taking}
use Rattle.ubtool.specs.Beginning.{Beginning, OfBoard, OfImage}
use Rattle.ubtool.specs.Given.{Given, given}
use Rattle.ubtool.specs.Turns.{AreInTurn, IsStart, headed, named, taken_by, turns_of, turns_told}
use Rattle.ubtool.specs.declared.rehearsal_error.RehearsalError.TheVariants.{Boots, Changes, Image, Memory, Start as CannotStart, Unnamed, Write}

-- ---- which lists are gone through

-- one with several alternatives, of which none is named
several : turns_of (Err (OfBoard (OfStart (Alternatives 3)))) ≡ Some 3
several = refl

too_many : turns_of (Err (OfBoard (OfStart (TooMany 2)))) ≡ None
too_many = refl

none_so_named : turns_of (Err (OfBoard (OfStart (NoAlternative 4 3)))) ≡ None
none_so_named = refl

odd_name : turns_of (Err (OfBoard (OfStart Name))) ≡ None
odd_name = refl

faulty_list : (fault : DevicesError) → turns_of (Err (OfBoard (OfDevices fault))) ≡ None
faulty_list fault = refl

faulty_image : (fault : ImageError) → turns_of (Err (OfImage fault)) ≡ None
faulty_image fault = refl

one_alone : (beginning : Beginning) → turns_of (Ok beginning) ≡ None
one_alone beginning = refl

-- and so the program prints it
several_told : turns_told (CannotStart (Alternatives 3)) ≡ Some 3
several_told = refl

too_many_told : turns_told (CannotStart (TooMany 2)) ≡ None
too_many_told = refl

none_so_named_told : turns_told (CannotStart (NoAlternative 4 3)) ≡ None
none_so_named_told = refl

odd_name_told : turns_told (CannotStart Name) ≡ None
odd_name_told = refl

image_told : (fault : ImageError) → turns_told (Image fault) ≡ None
image_told fault = refl

boots_told : turns_told Boots ≡ None
boots_told = refl

changes_told : (fault : ScriptError) → turns_told (Changes fault) ≡ None
changes_told fault = refl

unnamed_told : turns_told Unnamed ≡ None
unnamed_told = refl

memory_told : turns_told Memory ≡ None
memory_told = refl

-- ---- one alternative

abbrev steadily : Option ℕ → Taking
steadily alternative = record { steady = true; alternative = alternative }

abbrev by_list : (list : Text) → Option ℕ → Asking → Given
by_list list alternative asking = given Little [] None (text_alone list) (steadily alternative) None asking

-- its number is named, and all else is as it was given
named_second : (asking : Asking) → named (by_list (codes "load") None asking) 2 ≡ by_list (codes "load") (Some 2) asking
named_second asking = refl

taken_second : taken_by (steadily None) 2 ≡ steadily (Some 2)
taken_second = refl

abbrev two_lists : Text
two_lists = codes "given a=1\ngiven b=x\ngiven a=2"

abbrev of_two : Start
of_two = record {
  givens = (codes "a", record { first = codes "1"; others = codes "2" ∷ [] }) ∷ (codes "b", record { first = codes "x"; others = [] }) ∷ [];
  before = [];
  counter = None;
}

-- its lines are after the line that names it, if there are any; its place is counted from 0
lines_of_the_second : headed of_two 1 (codes "all 1 states 1\n") ≡ codes "given a=2\nall 1 states 1\n"
lines_of_the_second = refl

no_lines : headed of_two 1 [] ≡ []
no_lines = refl

-- ---- all in turn

-- a part has as many letters as the number that is named
abbrev IsSoLong : Given → Text → Type 0
IsSoLong g part = g.taking.alternative ≡ Some (length part)

-- the first part is of the alternative 1, and each goes after its line
both_in_turn : (asking : Asking) → AreInTurn IsSoLong (λ part. part ++ codes "\n") (by_list two_lists None asking) 2 (codes "x" ∷ codes "yz" ∷ []) (codes "given a=1\nx\ngiven a=2\nyz\n")
both_in_turn asking = record { start = of_two; start_is = refl; each = refl; so = (refl, (refl, tt)); whole = refl }

-- a part without lines leaves none
silent_part : (asking : Asking) → AreInTurn IsSoLong (λ part. []) (by_list two_lists None asking) 1 (codes "x" ∷ []) []
silent_part asking = record { start = of_two; start_is = refl; each = refl; so = (refl, tt); whole = refl }

none_yet : (asking : Asking) → AreInTurn IsSoLong (λ part. part) (by_list two_lists None asking) 0 [] []
none_yet asking = record { start = of_two; start_is = refl; each = refl; so = tt; whole = refl }

-- ---- what a list says of the start

start_read : IsStart two_lists (Ok of_two)
start_read = refl

start_of_none : IsStart (codes "load") (Ok no_start)
start_of_none = refl

start_without_memory : IsStart two_lists (Err Memory)
start_without_memory = tt

no_other_answer : (text : Text) → IsStart text (Err Write) → ⊥
no_other_answer text h = h
