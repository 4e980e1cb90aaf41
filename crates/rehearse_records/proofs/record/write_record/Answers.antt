use Rattle.std.proofs.lemmas.Result.{err_from_is_err_and}
use Rattle.output.proofs.PageLemmas.{Breaks-empty, Prints-flushed}
use Rattle.rehearse_records.proofs.record.write_record.Goals as goal

pub returns-in_err-put_record : goal.returns-in_err-put_record
returns-in_err-put_record g c =
    let p = err_from_is_err_and c.from_residual.result c.from_residual.ensures.1 in
    rw p.1 (Breaks-empty _ _ _ _ c.clear.ensures c.in_err-put_record.ensures)

pub returns : goal.returns
returns g c = Prints-flushed _ c.flush.result c.clear.ensures c.in_ok-put_record.ensures c.flush.ensures.written
