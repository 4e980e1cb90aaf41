-- Calls one after another on files whose contents are known.
use Rattle.std.proofs.Common.{Option, Some, None}
use Rattle.tool_files.specs.Told.{IfTold, Told}

-- what one call did and what the next did, as one step
pub IfTold-then : {P Q R : Told → Told → Type 0} (a b c : Option Told) → ((x y z : Told) → P x y → Q y z → R x z) → IfTold a b P → IfTold b c Q → IfTold a c R
IfTold-then None b c join first second = tt
IfTold-then (Some x) None c join first second = absurd first
IfTold-then (Some x) (Some y) None join first second = absurd second
IfTold-then (Some x) (Some y) (Some z) join first second = join x y z first second
