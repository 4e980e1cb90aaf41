use Rattle.std.proofs.Common.{◌≡◌, drop}
use Rattle.hushlang_modern.specs.ModernFields.{with_value}
use Rattle.hushlang_modern.specs.ModernFieldsShown as shown
use Rattle.hushlang_modern.proofs.expanding_words.Expanding.push_value.Given as goal

abbrev pub invariant-loop-byte : goal.invariant-loop-byte
invariant-loop-byte l = with_value (drop l.byte-index l.value) (shown.expanding l.self) ≡ with_value l.value (shown.expanding l.initial.self)
