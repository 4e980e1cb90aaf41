use Rattle.std.proofs.Common.{◌≡◌, take}
use Rattle.rehearse_reports.specs.ReportsShown.{keys_shown}
use Rattle.rehearse_endings.proofs.KeyLemmas.{named_keys}
use Rattle.rehearse_endings.proofs.keys.keys_at_end.Given as goal

-- the keys so far
abbrev pub invariant-loop-name : goal.invariant-loop-name
invariant-loop-name l = keys_shown l.keys.items ≡ named_keys (take l.name-index l.names)
