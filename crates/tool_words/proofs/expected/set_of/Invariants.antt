use Rattle.std.proofs.Common.{take}
use Rattle.tool_words.proofs.ExpectedLemmas.{Has}
use Rattle.tool_words.proofs.expected.set_of.Given as goal

-- the set has the names so far
abbrev pub invariant-loop-name : goal.invariant-loop-name
invariant-loop-name l = Has l.set (take l.name-index l.names)
