use Rattle.std.proofs.Common.{◌≡◌, ◌-◌, ◌^◌, min, take}
use Rattle.text.specs.Numbers.{value_in}
use Rattle.text.proofs.numbers.value_in.Given as goal

-- the digits so far spell this number, or a greater one, if this is the greatest of 64 bits
abbrev pub invariant-loop-digit : goal.invariant-loop-digit
invariant-loop-digit l = l.number ≡ min (value_in l.base (take l.digit-index l.digits)) (2 ^ 64 - 1)
