use Rattle.std.proofs.Common.{◌≡◌, length}
use Rattle.commands.specs.Computed.{behind_options}
use Rattle.commands.specs.TextsShown.{texts}
use Rattle.commands.proofs.computed.behind_options.Given as goal

-- the words so far are `-f`
abbrev pub invariant-loop-first : goal.invariant-loop-first
invariant-loop-first l = behind_options (texts l.words) ≡ behind_options (texts l.rest)

abbrev pub decreases-loop-first : goal.decreases-loop-first
decreases-loop-first l = length l.rest
