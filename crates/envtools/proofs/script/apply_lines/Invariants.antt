use Rattle.std.proofs.Common.{◌≡◌, ◌++◌, ℕ, List, None}
use Rattle.text.specs.Lines.{numbered_lines, lines_left}
use Rattle.envtools.specs.Scripting.{scripted_lines}
use Rattle.envtools.proofs.script.apply_lines.Given as goal

-- the lines so far were applied, and none of them is faulty
abbrev pub invariant-loop-number : goal.invariant-loop-number
invariant-loop-number g l = record {
  before : List (ℕ × List ℕ);
  whole : numbered_lines l.text ≡ before ++ lines_left l.number-iterator;
  reached : scripted_lines (g.C.Changing.pairs l.initial.variables) before ≡ record { env = g.C.Changing.pairs l.variables; fault = None };
}
