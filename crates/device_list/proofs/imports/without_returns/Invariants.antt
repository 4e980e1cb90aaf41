use Rattle.std.proofs.Common.{◌≡◌, ◌+◌, ◌≤◌, ◌++◌, length}
use Rattle.device_list.specs.Imports.{without_returns}
use Rattle.device_list.proofs.imports.without_returns.Given as goal

-- the bytes so far, and then those left without their returns
abbrev pub invariant-loop-left : goal.invariant-loop-left
invariant-loop-left l =
    (without_returns l.text ≡ l.kept.items ++ without_returns l.left) × (length l.kept.items + length l.left ≤ length l.text)

abbrev pub decreases-loop-left : goal.decreases-loop-left
decreases-loop-left l = length l.left
