use Rattle.tool_words.proofs.ExpectedLemmas.{AreNamed, Has}
use Rattle.tool_words.proofs.expected.with_names.Given as goal

-- the names so far, and the set has them
abbrev pub invariant-loop-value : goal.invariant-loop-value
invariant-loop-value l = record {
  named : AreNamed l.initial.names.items l.values l.value-index l.names.items;
  known : Has l.known l.names.items;
}
