-- What is left of some room.
use Rattle.std.proofs.Common.{◌≡◌, ℕ, ◌+◌, ◌-◌, ◌≤◌, Option, Some, None, SomeIff, arith}
use Rattle.rehearse_endings.specs.Held.{IsLeft}

pub left_by : (room size : ℕ) (o : Option ℕ) → SomeIff o (size ≤ room) (room - size) → IsLeft room size o
left_by room size None h = omega (arith, h)
left_by room size (Some left) h = let a = h.0 in let b = h.1 in omega (arith, a, b)

-- after two things
pub left_on : (room first second whole left : ℕ) (o : Option ℕ) → left + first ≡ room → whole ≡ first + second → IsLeft left second o → IsLeft room whole o
left_on room first second whole left None behind all h = omega (arith, behind, all, h)
left_on room first second whole left (Some more) behind all h = omega (arith, behind, all, h)
