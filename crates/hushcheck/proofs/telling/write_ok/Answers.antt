use Rattle.std.proofs.lemmas.Result.{err_from_is_err_and}
use Rattle.hushcheck.proofs.TellingLemmas.{stops-before, then_so}
use Rattle.hushcheck.proofs.telling.write_ok.Goals as goal

pub returns-in_err-write_named : goal.returns-in_err-write_named
returns-in_err-write_named g c =
    let p = err_from_is_err_and c.from_residual.result c.from_residual.ensures.1 in
    rw (p.1, p.2) (stops-before (g.O.Out.sink c.args.out.now) (g.O.Out.sink c.write_named.new.out) _ _ c.in_err-write_named.field-0.0 c.in_err-write_named.ensures)

pub returns : goal.returns
returns g c =
    then_so c.write_found.result (g.O.Out.sink c.args.out.now) (g.O.Out.sink c.write_named.new.out) (g.O.Out.sink c.write_found.new.out) _ _ c.in_ok-write_named.ensures c.write_found.ensures
