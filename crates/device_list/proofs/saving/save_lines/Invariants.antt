use Rattle.std.proofs.Common.{◌≡◌, map}
use Rattle.device_list.specs.Saving.{saved_line}
use Rattle.device_list.specs.CommandsShown.{line_shown}
use Rattle.device_list.proofs.FilledLemmas.{done}
use Rattle.device_list.proofs.saving.save_lines.Given as goal

-- the lines so far save
abbrev pub invariant-loop-line : goal.invariant-loop-line
invariant-loop-line l = done (saved_line (map (λ n. n.now) l.names)) (map line_shown l.lines) l.line-index ≡ map (saved_line (map (λ n. n.now) l.names)) (map line_shown l.fn.lines)
