use Rattle.std.proofs.Common.{List, sym, subst}
use Rattle.std.specs.List.{flat_map}
use Rattle.std.proofs.lemmas.Result.{err_from_is_err_and}
use Rattle.output.specs.Sink.{Wrote, BrokeOff}
use Rattle.envimage.specs.Data.{Pair, pairs_of}
use Rattle.envtools.specs.Printing.{line}
use Rattle.envtools.proofs.ListLemmas.{env_of-distinct}
use Rattle.envtools.proofs.print.print_all_data.Goals as goal

pub returns-in_err-print_in_order : goal.returns-in_err-print_in_order
returns-in_err-print_in_order g c =
    let p = err_from_is_err_and c.from_residual-in_err-print_in_order.result c.from_residual-in_err-print_in_order.ensures.1 in
    let P : List Pair → Type 0 = λ ps. BrokeOff (g.O.Out.sink c.args.out.now) (g.O.Out.sink c.print_in_order.new.out) (flat_map (line c.args.form) ps) in
    let distinct = env_of-distinct (pairs_of c.args.body.now) (c.in_ok-are_distinct.ensures.distinct c.if-branch.true) in
    rw (p.1, p.2) (subst P (sym distinct) c.in_err-print_in_order.ensures)

pub returns-then-branch : goal.returns-then-branch
returns-then-branch g c =
    let P : List Pair → Type 0 = λ ps. Wrote (g.O.Out.sink c.args.out.now) (g.O.Out.sink c.print_in_order.new.out) (flat_map (line c.args.form) ps) in
    let distinct = env_of-distinct (pairs_of c.args.body.now) (c.in_ok-are_distinct.ensures.distinct c.if-branch.true) in
    subst P (sym distinct) c.in_ok-print_in_order.ensures
