use Rattle.std.proofs.Common.{ℕ, List, ap, subst}
use Rattle.std.proofs.lemmas.Result.{err_from_is_err_and}
use Rattle.hushcheck.specs.Calls.{found_lines}
use Rattle.hushcheck.specs.Remarks.{all_found}
use Rattle.hushcheck.specs.Telling.{Writes}
use Rattle.hushcheck.proofs.TellingLemmas.{stops-before, then_so}
use Rattle.hushcheck.proofs.telling.write_fault.Goals as goal

pub returns-in_err-write_wrong : goal.returns-in_err-write_wrong
returns-in_err-write_wrong g c =
    let p = err_from_is_err_and c.from_residual.result c.from_residual.ensures.1 in
    rw (p.1, p.2) (stops-before (g.O.Out.sink c.args.out.now) (g.O.Out.sink c.write_wrong.new.out) _ _ c.in_err-write_wrong.field-0.0 c.in_err-write_wrong.ensures)

pub returns : goal.returns
returns g c =
    let found = ap (λ f. found_lines c.args.name.now c.args.text.now (all_found f)) c.deref-2.ensures.value in
    let P : List ℕ → Type 0 = λ t. Writes c.write_found.result (g.O.Out.sink c.write_wrong.new.out) (g.O.Out.sink c.write_found.new.out) t in
    then_so c.write_found.result (g.O.Out.sink c.args.out.now) (g.O.Out.sink c.write_wrong.new.out) (g.O.Out.sink c.write_found.new.out) _ _ c.in_ok-write_wrong.ensures (subst P found c.write_found.ensures)
