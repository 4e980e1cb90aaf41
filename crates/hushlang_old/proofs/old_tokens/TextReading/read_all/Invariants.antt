use Rattle.std.proofs.Common.{◌≡◌, drop}
use Rattle.hushlang_old.specs.OldTokens.{read_all}
use Rattle.hushlang_old.specs.OldTokensShown as shown
use Rattle.hushlang_old.proofs.old_tokens.TextReading.read_all.Given as goal

abbrev pub invariant-loop-byte : goal.invariant-loop-byte
invariant-loop-byte l =
    read_all (drop l.byte-index l.text) (shown.reading l.self) ≡ read_all l.text (shown.reading l.initial.self)
