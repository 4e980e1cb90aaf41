use Rattle.std.proofs.Common.{◌≡◌, ◌≤◌, length}
use Rattle.script_file.specs.ScriptFiles.{behind_sizes}
use Rattle.script_file.proofs.script.behind_sizes.Given as goal

-- what is after the sizes of the rest is what is after those of the whole
abbrev pub invariant-loop-rest : goal.invariant-loop-rest
invariant-loop-rest l = (behind_sizes l.rest ≡ behind_sizes l.body) × (length l.rest ≤ length l.body)

abbrev pub decreases-loop-rest : goal.decreases-loop-rest
decreases-loop-rest l = length l.rest
