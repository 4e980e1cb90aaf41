use Rattle.std.proofs.Common.{◌≡◌, ◌++◌, map, take}
use Rattle.rehearse_states.specs.EndingLines.{fails_lines}
use Rattle.rehearse_causes.proofs.cause.put_fails.Given as goal

-- the lines of the commands so far were added
abbrev pub invariant-loop-entry : goal.invariant-loop-entry
invariant-loop-entry l = l.text.items ≡ l.fn.text.items ++ fails_lines (map (λ e. (e.success, e.words)) (take l.entry-index l.fails))
