use Rattle.std.proofs.Common.{◌≡◌, drop}
use Rattle.commands.specs.TextsShown.{texts}
use Rattle.device_list.specs.CallLines.{first_fitting}
use Rattle.device_list.specs.CommandsShown.{call_lines_shown}
use Rattle.device_list.proofs.call_line.first_fitting.Given as goal

-- no line so far fits
abbrev pub invariant-loop-line : goal.invariant-loop-line
invariant-loop-line l = first_fitting (call_lines_shown l.lines) (texts l.words)
    ≡ first_fitting (call_lines_shown (drop l.line-index l.lines)) (texts l.words)
