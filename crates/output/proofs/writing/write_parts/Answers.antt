use Rattle.std.proofs.lemmas.Result.{err_from_is_err_and}
use Rattle.output.proofs.SinkLemmas.{BrokeOff-item}
use Rattle.output.proofs.writing.write_parts.Goals as goal

pub returns-in_err-write_all : goal.returns-in_err-write_all
returns-in_err-write_all g c =
    let p = err_from_is_err_and c.from_residual.result c.from_residual.ensures.1 in
    rw p.1 (BrokeOff-item (λ part. part.now) c.args.parts.now c.loop-part.part-index _ c.loop-part-test.true c.loop-part.invariant c.in_err-write_all.ensures)
