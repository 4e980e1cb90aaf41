use Rattle.std.proofs.Common.{◌++◌}
use Rattle.std.proofs.lemmas.Result.{err_from_is_err_and}
use Rattle.output.proofs.SinkLemmas.{BrokeOff-before, BrokeOff-after}
use Rattle.envtools.specs.Printing.{end_of, shown_value}
use Rattle.envtools.proofs.EntryLemmas.{Prints-after}
use Rattle.envtools.proofs.print_form.print_line.Goals as goal

pub returns-in_err-print_header : goal.returns-in_err-print_header
returns-in_err-print_header g c =
    let p = err_from_is_err_and c.from_residual.result c.from_residual.ensures.1 in
    rw p.1 (BrokeOff-before (shown_value c.args.form c.args.value.now ++ end_of c.args.form) c.in_err-print_header.ensures)

pub returns-in_err-print_value : goal.returns-in_err-print_value
returns-in_err-print_value g c =
    let p = err_from_is_err_and c.from_residual-in_err-print_value.result c.from_residual-in_err-print_value.ensures.1 in
    rw p.1 (BrokeOff-after c.in_ok-print_header.ensures (BrokeOff-before (end_of c.args.form) c.in_err-print_value.ensures))

pub returns : goal.returns
returns g c =
    let end = rw c.end.ensures at c.write_all.ensures in
    Prints-after _ _ c.write_all.result c.in_ok-print_header.ensures (Prints-after _ _ c.write_all.result c.in_ok-print_value.ensures end)
