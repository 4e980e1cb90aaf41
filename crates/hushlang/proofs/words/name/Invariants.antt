use Rattle.std.proofs.Common.{◌≡◌, ◌-◌, length}
use Rattle.hushlang.specs.CuttersShown.{to_come, IsTaken}
use Rattle.hushlang.specs.LexerShown.{parts_in, parts_of}
use Rattle.hushlang.specs.Words.{plain_bytes}
use Rattle.hushlang.proofs.NameAndAssignmentLemmas.{behind}
use Rattle.hushlang.proofs.words.name.Given as goal

abbrev pub invariant-parts : goal.invariant-parts
invariant-parts l = record {
  same : plain_bytes (parts_of l.fn.token) ≡ behind l.name.items (plain_bytes (parts_in (to_come l.parts)));
  taken : IsTaken (to_come l.parts);
  source : l.parts.source ≡ l.fn.token.text.now;
}

abbrev pub decreases-parts : goal.decreases-parts
decreases-parts l = length l.parts.source - l.parts.at
