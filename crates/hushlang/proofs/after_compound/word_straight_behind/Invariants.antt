use Rattle.std.proofs.Common.{◌≡◌, length}
use Rattle.hushlang.specs.CursorShown.{input_in}
use Rattle.hushlang.specs.AfterCompound.{straight, straight_from}
use Rattle.hushlang.proofs.after_compound.word_straight_behind.Given as goal

abbrev pub invariant-tokens : goal.invariant-tokens
invariant-tokens l = straight_from l.stand l.tokens.tokens ≡ straight (input_in l.fn.text).tokens

abbrev pub decreases-tokens : goal.decreases-tokens
decreases-tokens l = length l.tokens.tokens
