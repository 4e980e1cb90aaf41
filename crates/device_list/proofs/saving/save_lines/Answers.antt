use Rattle.std.proofs.Common.{◌<◌, length, slice_index_or, map, ap, ◌∙◌, arith}
use Rattle.device_list.specs.Settings.{Effect}
use Rattle.device_list.specs.CallLines.{Pattern}
use Rattle.device_list.specs.Saving.{saved_line}
use Rattle.device_list.specs.CommandsShown.{line_shown}
use Rattle.device_list.specs.DevicesShown.{pattern_shown}
use Rattle.device_list.specs.declared.call_line.CallLine.{CallLine}
use Rattle.device_list.proofs.FilledLemmas.{one-done}
use Rattle.device_list.proofs.saving.save_lines.Goals as goal

pub loop-line-preserved : goal.loop-line-preserved
loop-line-preserved c =
    let within : c.loop-line.line-index < length c.loop-line.lines = omega arith in
    let old : CallLine = slice_index_or c.loop-line.lines c.loop-line.line-index c.line-item.result in
    let new : CallLine = record { pattern = old.pattern; listed = c.save.new.listed } in
    let saves = ap (λ (e : Effect). let line : Pattern × Effect = (pattern_shown old.pattern, e) in line) c.in_ok-save.ensures in
    one-done line_shown (saved_line (map (λ n. n.now) c.args.names.now)) c.loop-line.lines c.loop-line.line-index c.line-item.result new within saves ∙ c.loop-line.invariant
