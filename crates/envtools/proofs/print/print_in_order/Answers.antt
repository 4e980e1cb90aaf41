use Rattle.std.proofs.Common.{◌≡◌}
use Rattle.std.proofs.lemmas.Result.{err_from_is_err_and}
use Rattle.envimage.specs.Data.{Pair, pairs_of}
use Rattle.envimage.specs.Entries.{pairs_left}
use Rattle.envtools.proofs.PrintLemmas.{up_to-start, up_to-next, up_to-broke, up_to-end}
use Rattle.envtools.proofs.print.print_in_order.Goals as goal

pub loop-name-init : goal.loop-name-init
loop-name-init g c =
    let left : pairs_left c.into_iter-name-iterator.result ≡ pairs_of c.args.body.now = cc in
    up_to-start c.args.form (g.O.Out.sink c.args.out.now) (pairs_of c.args.body.now) (pairs_left c.into_iter-name-iterator.result) left

pub loop-name-preserved : goal.loop-name-preserved
loop-name-preserved g c =
    let p : Pair = (c.in-Some.name.now, c.in-Some.value.now) in
    up_to-next c.args.form (pairs_of c.args.body.now) (pairs_left c.loop-name.name-iterator) (pairs_left c.next.new.self) p c.loop-name.invariant c.in-Some.ensures.steps c.in_ok-print_line.ensures

pub returns-in_err-print_line : goal.returns-in_err-print_line
returns-in_err-print_line g c =
    let p : Pair = (c.in-Some.name.now, c.in-Some.value.now) in
    let e = err_from_is_err_and c.from_residual.result c.from_residual.ensures.1 in
    rw e.1 (up_to-broke c.args.form (pairs_of c.args.body.now) (pairs_left c.loop-name.name-iterator) (pairs_left c.next.new.self) p c.loop-name.invariant c.in-Some.ensures.steps c.in_err-print_line.ensures)

pub returns : goal.returns
returns g c = up_to-end c.args.form (pairs_of c.args.body.now) (pairs_left c.loop-name.name-iterator) c.loop-name.invariant c.in-None.ensures.steps.0
