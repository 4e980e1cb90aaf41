use Rattle.std.proofs.Common.{◌≡◌, drop, false}
use Rattle.board_start.specs.StartLines.{value_from}
use Rattle.device_list.proofs.QuoteLemmas.{behind_bytes}
use Rattle.board_start.proofs.said.read_value.Given as goal

-- the bytes so far, and then those left
abbrev pub invariant-loop-byte : goal.invariant-loop-byte
invariant-loop-byte l = value_from false l.value ≡ behind_bytes l.bytes.items (value_from l.is_quoted (drop l.byte-index l.value))
