use Rattle.std.proofs.Common.{◌≡◌, ◌-◌, ℕ, List, [], false, length}
use Rattle.hushlang.specs.CuttersShown.{to_come, IsTaken}
use Rattle.hushlang.specs.LexerShown.{parts_in, parts_of}
use Rattle.hushlang.specs.Grammar.{up_to_equals, is_name}
use Rattle.hushlang.proofs.NameAndAssignmentLemmas.{found_behind}
use Rattle.hushlang.proofs.words.is_assignment.Given as goal

-- the bytes at the start are a name, or there is none
abbrev pub invariant-parts : goal.invariant-parts
invariant-parts l = (front : List ℕ)
    × (up_to_equals (parts_of l.fn.token) ≡ found_behind front (up_to_equals (parts_in (to_come l.parts))))
    × (l.named ≡ is_name front) × (l.named ≡ false → front ≡ [])
    × IsTaken (to_come l.parts) × (l.parts.source ≡ l.fn.token.text.now)

abbrev pub decreases-parts : goal.decreases-parts
decreases-parts l = length l.parts.source - l.parts.at
