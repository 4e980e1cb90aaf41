use Rattle.std.proofs.Common.{◌≡◌, drop}
use Rattle.hushlang_modern.specs.ModernFields.{with_bytes, guarded_all}
use Rattle.hushlang_modern.specs.ModernFieldsShown as shown
use Rattle.hushlang_modern.proofs.expanding_words.Expanding.push_quoted.Given as goal

abbrev pub invariant-loop-byte : goal.invariant-loop-byte
invariant-loop-byte l =
    with_bytes (guarded_all (drop l.byte-index l.value)) (shown.expanding l.self)
    ≡ with_bytes (guarded_all l.value) (shown.expanding l.initial.self)
