use Rattle.std.proofs.Common.{codes, ◌++◌}
use Rattle.std.proofs.lemmas.Result.{err_from_is_err_and}
use Rattle.output.proofs.SinkLemmas.{BrokeOff-before}
use Rattle.envtools.specs.Printing.{shown_name}
use Rattle.envtools.proofs.EntryLemmas.{Prints-after, header_there}
use Rattle.envtools.proofs.print_form.print_header.Goals as goal

pub returns-in_err-print_name : goal.returns-in_err-print_name
returns-in_err-print_name g c =
    let p = err_from_is_err_and c.from_residual.result c.from_residual.ensures.1 in
    rw (p.1, header_there c.args.form.header (shown_name c.args.form c.args.name.now ++ codes "=") c.if-not-form.false) (BrokeOff-before (codes "=") c.in_err-print_name.ensures)

pub returns : goal.returns
returns g c =
    rw (header_there c.args.form.header (shown_name c.args.form c.args.name.now ++ codes "=") c.if-not-form.false) (Prints-after _ _ c.write_all.result c.in_ok-print_name.ensures c.write_all.ensures)
