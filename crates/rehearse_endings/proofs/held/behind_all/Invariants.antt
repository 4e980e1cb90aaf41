use Rattle.std.proofs.Common.{◌≡◌, ◌+◌, take}
use Rattle.rehearse_endings.specs.Held.{size_of_all}
use Rattle.rehearse_endings.proofs.held.behind_all.Given as goal

-- what is known so far has taken its bytes
abbrev pub invariant-loop-one : goal.invariant-loop-one
invariant-loop-one l = l.left + size_of_all (take l.one-index l.known) ≡ l.fn.room
