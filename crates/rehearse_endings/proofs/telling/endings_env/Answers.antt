use Rattle.std.proofs.lemmas.Result.{err_from_is_err_and}
use Rattle.rehearse_endings.proofs.TellingLemmas.{untold}
use Rattle.rehearse_endings.proofs.telling.endings_env.Goals as goal

pub returns-in_err-text-clause-err : goal.returns-in_err-text-clause-err
returns-in_err-text-clause-err g c =
    let p = err_from_is_err_and c.from_residual.result c.from_residual.ensures.1 in
    rw (p.1, p.2) (untold _ c.args.ask.now (g.O.Out.sink c.args.out.now) _ c.in_err-text.ensures.err)
