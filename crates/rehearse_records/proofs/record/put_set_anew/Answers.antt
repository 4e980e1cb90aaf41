use Rattle.std.proofs.lemmas.Result.{err_from_is_err_and}
use Rattle.rehearse_records.specs.Recording.{set_line}
use Rattle.output.proofs.SinkLemmas.{BrokeOff-before}
use Rattle.output.proofs.PageLemmas.{Puts-anew}
use Rattle.rehearse_records.proofs.record.put_set_anew.Goals as goal

pub returns-in_err-flush : goal.returns-in_err-flush
returns-in_err-flush g c =
    let p = err_from_is_err_and c.from_residual.result c.from_residual.ensures.1 in
    rw p.1 (BrokeOff-before (set_line (c.args.name.now, c.args.value.now)) c.in_err-flush.ensures.written)

pub returns : goal.returns
returns g c = Puts-anew _ _ _ c.put_set_in_pieces.result c.in_ok-flush.ensures.empty c.in_ok-flush.ensures.written c.put_set_in_pieces.ensures
