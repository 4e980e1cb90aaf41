use Rattle.std.proofs.Common.{◌≡◌, drop, fold, map}
use Rattle.keyed_hash.specs.Keyed.{with_text}
use Rattle.tool_words.specs.CommandAnswers.{value_shown}
use Rattle.tool_words.proofs.expected.hash_with.Given as goal

-- the names so far are after the key, and then those left
abbrev pub invariant-loop-value : goal.invariant-loop-value
invariant-loop-value l =
    fold (λ hash value. with_text hash value.0) l.fn.first (map value_shown l.values)
    ≡ fold (λ hash value. with_text hash value.0) l.hash (map value_shown (drop l.value-index l.values))
