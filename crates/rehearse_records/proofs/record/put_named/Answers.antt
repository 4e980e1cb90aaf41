use Rattle.std.proofs.lemmas.Result.{err_from_is_err_and}
use Rattle.std.specs.FinMap.{entries}
use Rattle.rehearse_records.specs.Recording.{named_text}
use Rattle.rehearse_records.specs.RunViewShown.{shown_moment}
use Rattle.output.proofs.PageLemmas.{Put-none, Put-item, Breaks-item}
use Rattle.rehearse_records.proofs.record.put_named.Goals as goal

pub loop-name-init : goal.loop-name-init
loop-name-init g c = Put-none _ _

pub loop-name-preserved : goal.loop-name-preserved
loop-name-preserved g c = Put-item (λ n. named_text (entries (shown_moment g.S.Store c.args.view.now).environment) n.now) c.args.names.now c.loop-name.name-index _ c.loop-name-test.true c.loop-name.invariant c.in_ok-put_asked.ensures

pub returns-in_err-put_asked : goal.returns-in_err-put_asked
returns-in_err-put_asked g c =
    let p = err_from_is_err_and c.from_residual.result c.from_residual.ensures.1 in
    rw p.1 (Breaks-item (λ n. named_text (entries (shown_moment g.S.Store c.args.view.now).environment) n.now) c.args.names.now c.loop-name.name-index _ c.loop-name-test.true c.loop-name.invariant c.in_err-put_asked.ensures)
