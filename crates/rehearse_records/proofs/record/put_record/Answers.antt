use Rattle.std.proofs.Common.{append_assoc}
use Rattle.std.proofs.lemmas.Result.{err_from_is_err_and}
use Rattle.output.proofs.PageLemmas.{Breaks-after, Puts-after}
use Rattle.output.proofs.SinkLemmas.{BrokeOff-before}
use Rattle.rehearse_records.proofs.RecordParts.{breaks_first, puts_first}
use Rattle.rehearse_records.proofs.record.put_record.Goals as goal

pub returns-in_err-put_first : goal.returns-in_err-put_first
returns-in_err-put_first g c =
    let p = err_from_is_err_and c.from_residual.result c.from_residual.ensures.1 in
    rw p.1 (breaks_first g.S.Store c.args.view.now c.args.names.now _ (rw c.word.ensures at c.in_err-put_first.ensures))

pub returns-in_err-put : goal.returns-in_err-put
returns-in_err-put g c =
    puts_first g.S.Store c.args.view.now c.args.names.now _ _ c.from_residual-in_err-put.result (rw c.word.ensures at c.in_ok-put_first.ensures)
    (let p = err_from_is_err_and c.from_residual-in_err-put.result c.from_residual-in_err-put.ensures.1 in rw p.1 (rw (← append_assoc) (BrokeOff-before _ (rw c.log_lines.ensures at c.in_err-put.ensures))))

pub returns-in_err-put_written : goal.returns-in_err-put_written
returns-in_err-put_written g c =
    puts_first g.S.Store c.args.view.now c.args.names.now _ _ c.from_residual-in_err-put_written.result (rw c.word.ensures at c.in_ok-put_first.ensures)
    (let p = err_from_is_err_and c.from_residual-in_err-put_written.result c.from_residual-in_err-put_written.ensures.1 in rw p.1 (Breaks-after _ (rw c.log_lines.ensures at c.in_ok-put.ensures) (rw (← append_assoc) (BrokeOff-before _ (rw c.text.ensures at c.in_err-put_written.ensures)))))

pub returns-in_err-put_variables : goal.returns-in_err-put_variables
returns-in_err-put_variables g c =
    puts_first g.S.Store c.args.view.now c.args.names.now _ _ c.from_residual-in_err-put_variables.result (rw c.word.ensures at c.in_ok-put_first.ensures)
    (let p = err_from_is_err_and c.from_residual-in_err-put_variables.result c.from_residual-in_err-put_variables.ensures.1 in
    rw p.1 (Breaks-after _ (rw c.log_lines.ensures at c.in_ok-put.ensures) (Breaks-after _ (rw c.text.ensures at c.in_ok-put_written.ensures) (rw (← append_assoc) (BrokeOff-before _ c.in_err-put_variables.ensures)))))

pub returns : goal.returns
returns g c =
    let r = c.put_last.result in
    puts_first g.S.Store c.args.view.now c.args.names.now _ _ r (rw c.word.ensures at c.in_ok-put_first.ensures)
    (Puts-after _ _ _ r (rw c.log_lines.ensures at c.in_ok-put.ensures) (Puts-after _ _ _ r (rw c.text.ensures at c.in_ok-put_written.ensures) (Puts-after _ _ _ r c.in_ok-put_variables.ensures (rw c.ending.ensures at c.put_last.ensures))))
