use Rattle.std.proofs.Common.{◌≡◌, map}
use Rattle.envtools.specs.Environment.{value_of}
use Rattle.device_list.specs.CallLines.{filled_line}
use Rattle.device_list.specs.CommandsShown.{line_shown}
use Rattle.device_list.proofs.FilledLemmas.{done}
use Rattle.device_list.proofs.filled.fill_lines.Given as goal

-- the lines so far are filled
abbrev pub invariant-loop-line : goal.invariant-loop-line
invariant-loop-line l = done (filled_line (value_of l.env)) (map line_shown l.lines) l.line-index ≡ map (filled_line (value_of l.env)) (map line_shown l.fn.lines)
