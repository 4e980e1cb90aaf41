use Rattle.std.proofs.lemmas.Result.{err_from_is_err_and}
use Rattle.hushcheck.proofs.TellingLemmas.{front-nothing}
use Rattle.hushcheck.proofs.checking.check_text.Goals as goal

pub returns-in_err-calls-in-Ok-clause-lines : goal.returns-in_err-calls-in-Ok-clause-lines
returns-in_err-calls-in-Ok-clause-lines g c =
    let p = err_from_is_err_and c.from_residual-in_err-calls-in-Ok.result c.from_residual-in_err-calls-in-Ok.ensures.1 in
    rw (p.1, p.2) (front-nothing (g.O.Out.sink c.args.out.now) _)

pub returns-in_err-warnings-clause-lines : goal.returns-in_err-warnings-clause-lines
returns-in_err-warnings-clause-lines g c =
    let p = err_from_is_err_and c.from_residual-in_err-warnings.result c.from_residual-in_err-warnings.ensures.1 in
    rw (p.1, p.2) (front-nothing (g.O.Out.sink c.args.out.now) _)

pub returns-in_err-script-clause-lines : goal.returns-in_err-script-clause-lines
returns-in_err-script-clause-lines g c =
    let p = err_from_is_err_and c.from_residual.result c.from_residual.ensures.1 in
    rw (p.1, p.2) (front-nothing (g.O.Out.sink c.args.out.now) _)

pub returns-in_err-add_used-in-Ok-clause-lines : goal.returns-in_err-add_used-in-Ok-clause-lines
returns-in_err-add_used-in-Ok-clause-lines g c =
    let p = err_from_is_err_and c.from_residual-in_err-add_used-in-Ok.result c.from_residual-in_err-add_used-in-Ok.ensures.1 in
    rw (p.1, p.2) (front-nothing (g.O.Out.sink c.args.out.now) _)
