-- Lines of a device list, cut in two.
use Rattle.std.proofs.Common.{◌≡◌, ℕ, Bool, ◌<◌, length, Some}
use Rattle.std.proofs.lemmas.List.Quantifiers.{position-Some}
use Rattle.std.specs.List.{position}
use Rattle.text.specs.Lines.{Text}

pub found-within : (p : ℕ → Bool) (word : Text) (at : ℕ) → position p word ≡ Some at → at < length word
found-within p word at e = (position-Some p word at 0 e).0

pub ruleset cuts = (found-within)
