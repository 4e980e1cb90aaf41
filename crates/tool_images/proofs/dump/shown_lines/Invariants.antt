use Rattle.std.proofs.Common.{◌≡◌, ◌++◌, map}
use Rattle.text.specs.Lines.{lines_left}
use Rattle.text.specs.Words.{cut_behind}
use Rattle.envtools.specs.Scripting.{is_return}
use Rattle.tool_images.specs.Dump.{shown_lines}
use Rattle.tool_images.proofs.dump.shown_lines.Given as goal

-- the lines so far, and those that are left
abbrev pub invariant-loop-line : goal.invariant-loop-line
invariant-loop-line l =
    shown_lines l.text ≡ map (λ line. line.now) l.lines.items ++ map (λ line. cut_behind is_return line.1) (lines_left l.line-iterator)
