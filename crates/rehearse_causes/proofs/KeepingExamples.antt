-- Worked examples, computed: the numbers of causes, their places, and those that none before them covers.
use Rattle.std.proofs.Common.{false, [], ◌∷◌, List, codes, refl, ◌≡◌}
use Rattle.rehearse_terms.specs.State.{Text}
use Rattle.rehearse_rules.specs.Execution.{End}
use Rattle.rehearse_causes.specs.Causes.{Cause, least}
use Rattle.rehearse_causes.specs.Keeping.{foremost, places_from}
use Rattle.rehearse_causes.specs.Numbers.{cause_number, command_number, fails_number, part_numbers}

abbrev a : List Text
a = codes "load" ∷ codes "a" ∷ []

abbrev b : List Text
b = codes "load" ∷ codes "b" ∷ []

abbrev on_a : Cause
on_a = record { ending = End 3; fails = (false, a) ∷ [] }

abbrev on_both : Cause
on_both = record { ending = End 3; fails = (false, b) ∷ (false, a) ∷ [] }

abbrev elsewhere : Cause
elsewhere = record { ending = End 4; fails = (false, b) ∷ (false, a) ∷ [] }

-- ---- numbers, as another program computes them

of_a_command : command_number a ≡ 15656739864540589703
of_a_command = refl

of_two : fails_number (a ∷ b ∷ []) ≡ 6995398512582465562
of_two = refl

in_any_order : fails_number (b ∷ a ∷ []) ≡ fails_number (a ∷ b ∷ [])
in_any_order = refl

-- an ending has no number
of_another_ending : cause_number elsewhere ≡ cause_number on_both
of_another_ending = refl

of_parts : part_numbers (a ∷ b ∷ []) ≡ 0 ∷ fails_number (b ∷ []) ∷ fails_number (a ∷ []) ∷ fails_number (a ∷ b ∷ []) ∷ []
of_parts = refl

of_no_part : part_numbers [] ≡ 0 ∷ []
of_no_part = refl

-- ---- places

where_both_are : places_from 0 (cause_number on_both) (on_both ∷ on_a ∷ elsewhere ∷ []) ≡ 0 ∷ 2 ∷ []
where_both_are = refl

where_none_is : places_from 0 1 (on_both ∷ on_a ∷ []) ≡ []
where_none_is = refl

-- ---- what none before it covers

covered_by_the_first : foremost (on_a ∷ on_both ∷ elsewhere ∷ on_a ∷ []) ≡ on_a ∷ elsewhere ∷ []
covered_by_the_first = refl

-- what one after it covers stays here, and goes when it is done again from the back
covered_by_the_last : foremost (on_both ∷ on_a ∷ []) ≡ on_both ∷ on_a ∷ []
covered_by_the_last = refl

from_the_back : foremost (on_a ∷ on_both ∷ []) ≡ least (on_both ∷ on_a ∷ [])
from_the_back = refl
