use Rattle.tool_words.proofs.ExpectedLemmas.{AreRead}
use Rattle.tool_words.proofs.expected.named_values.Given as goal

abbrev pub invariant-loop-text : goal.invariant-loop-text
invariant-loop-text l = AreRead l.texts l.text-index l.values.items
