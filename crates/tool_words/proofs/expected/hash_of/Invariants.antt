use Rattle.std.proofs.Common.{◌≡◌, drop, fold, map, string_bytes}
use Rattle.keyed_hash.specs.Keyed.{with_text, without_key}
use Rattle.tool_words.proofs.expected.hash_of.Given as goal

-- the names so far are after the key, and then those left
abbrev pub invariant-loop-name : goal.invariant-loop-name
invariant-loop-name l = fold with_text without_key (map string_bytes l.names) ≡ fold with_text l.hash (map string_bytes (drop l.name-index l.names))
