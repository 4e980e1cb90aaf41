use Rattle.std.proofs.Common.{◌<◌, length, slice_index_or, ap, ◌∙◌, arith}
use Rattle.envtools.specs.Environment.{value_of}
use Rattle.device_list.specs.Settings.{Effect}
use Rattle.device_list.specs.CallLines.{Pattern, filled_line}
use Rattle.device_list.specs.CommandsShown.{line_shown, listed_shown}
use Rattle.device_list.specs.declared.call_line.CallLine.{CallLine}
use Rattle.device_list.proofs.FilledLemmas.{one-done}
use Rattle.device_list.proofs.filled.fill_lines.Goals as goal

pub loop-line-preserved : goal.loop-line-preserved
loop-line-preserved c =
    let within : c.loop-line.line-index < length c.loop-line.lines = omega arith in
    let old : CallLine = slice_index_or c.loop-line.lines c.loop-line.line-index c.line-item.result in
    let new : CallLine = record { pattern = c.fill.new.self; listed = old.listed } in
    let filled = ap (λ (p : Pattern). let line : Pattern × Effect = (p, listed_shown old.listed) in line) c.in_ok-fill.ensures in
    one-done line_shown (filled_line (value_of c.args.env.now)) c.loop-line.lines c.loop-line.line-index c.line-item.result new within filled ∙ c.loop-line.invariant
