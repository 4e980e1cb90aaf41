use Rattle.std.proofs.Common.{◌++◌}
use Rattle.std.proofs.lemmas.Result.{err_from_is_err_and}
use Rattle.output.proofs.SinkLemmas.{BrokeOff-after, Wrote-append}
use Rattle.tool_images.proofs.fault_line.write_text.Goals as goal

pub returns-in_err-write_all : goal.returns-in_err-write_all
returns-in_err-write_all g c =
    let p = err_from_is_err_and c.from_residual.result c.from_residual.ensures.1 in
    (c.loop-from.invariant.0 ++ c.as_slice.result.now, rw p.1 (BrokeOff-after c.loop-from.invariant.1 c.in_err-write_all.ensures))

pub loop-from-preserved : goal.loop-from-preserved
loop-from-preserved g c =
    (c.loop-from.invariant.0 ++ c.as_slice.result.now, Wrote-append c.loop-from.invariant.1 c.in_ok-write_all.ensures)
