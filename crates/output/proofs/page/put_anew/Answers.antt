use Rattle.std.proofs.Common.{[], ◌≡◌, ◌∙◌}
use Rattle.std.proofs.lemmas.Result.{err_from_is_err_and}
use Rattle.output.proofs.SinkLemmas.{BrokeOff-before}
use Rattle.output.proofs.PageLemmas.{Puts-written}
use Rattle.output.proofs.page.put_anew.Goals as goal

pub returns-in_err-flush : goal.returns-in_err-flush
returns-in_err-flush g c =
    let p = err_from_is_err_and c.from_residual.result c.from_residual.ensures.1 in
    rw p.1 (BrokeOff-before c.args.bytes.now c.in_err-flush.ensures.written)

pub returns-else-extend : goal.returns-else-extend
returns-else-extend g c =
    let none : c.extend.new.self.items ≡ [] = c.if-extend.ensures.items ∙ c.in_ok-flush.ensures.empty in
    rw none (Puts-written _ c.args.bytes.now c.write_all.result c.in_ok-flush.ensures.written c.write_all.ensures)
