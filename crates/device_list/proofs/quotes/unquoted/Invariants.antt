use Rattle.std.proofs.Common.{◌≡◌, drop}
use Rattle.device_list.specs.Quotes.{unquoted, unquoted_from}
use Rattle.device_list.proofs.QuoteLemmas.{behind_bytes}
use Rattle.device_list.proofs.quotes.unquoted.Given as goal

-- the bytes so far, and then those left
abbrev pub invariant-loop-byte : goal.invariant-loop-byte
invariant-loop-byte l = unquoted l.value ≡ behind_bytes l.bytes.items (unquoted_from l.quoted (drop l.byte-index l.value))
