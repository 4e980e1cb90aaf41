use Rattle.std.proofs.Common.{◌≡◌, map, take, string_bytes}
use Rattle.tool_words.proofs.read.texts_of.Given as goal

abbrev pub invariant-loop-value : goal.invariant-loop-value
invariant-loop-value l = map string_bytes l.texts.items ≡ map (λ v. v.now) (take l.value-index l.values)
