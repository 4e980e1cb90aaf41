-- Lines of a device list.
use Rattle.std.proofs.Common.{◌≡◌, ℕ, ◌<◌, length, Some}
use Rattle.std.proofs.lemmas.List.Quantifiers.{position-Some}
use Rattle.std.specs.List.{position}
use Rattle.text.specs.Lines.{Text}
use Rattle.text.specs.Words.{is_equals}

pub equals-within : (word : Text) (at : ℕ) → position is_equals word ≡ Some at → at < length word
equals-within word at e = (position-Some is_equals word at 0 e).0

pub ruleset cuts = (equals-within)
