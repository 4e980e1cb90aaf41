use Rattle.std.proofs.Common.{◌≡◌, ◌+◌, ℕ, suc, length}
use Rattle.std.specs.Option.{option_map}
use Rattle.rehearse_boots.specs.Leading.{lists_of}
use Rattle.rehearse_boots.specs.LeadingRounds.{AreFound, unmarked}
use Rattle.rehearse_boots.proofs.leading.leading_by.Given as goal

-- the places of some rounds are found, and the others are left
abbrev pub invariant-rounds : goal.invariant-rounds
invariant-rounds l =
    (count : ℕ) × AreFound l.goals (lists_of l.links) count l.marks.items l.latest.items × (option_map (λ n. suc n) l.fn.count ≡ option_map (λ n. n + count) l.left)

-- a round marks what it finds
abbrev pub decreases-rounds : goal.decreases-rounds
decreases-rounds l = unmarked l.marks.items + length l.latest.items
