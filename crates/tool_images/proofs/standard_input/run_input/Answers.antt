use Rattle.output.specs.Outputs.{Outputs, outputs}
use Rattle.tool_images.proofs.InputLemmas.{read-printed, read-refused, read-untold}
use Rattle.tool_images.proofs.standard_input.run_input.Goals as goal

pub returns-in-Ok-clause-printed : goal.returns-in-Ok-clause-printed
returns-in-Ok-clause-printed g c =
    let seen : Outputs = outputs (g.O.Out.sink c.args.out.now) (g.O.Out.sink c.print_read.new.out) (g.E.Out.sink c.args.err.now) (g.E.Out.sink c.print_read.new.err) in
    λ _. read-printed (g.R.Read.remaining c.args.input.now) seen c.read_up_to-read.result c.read_up_to-read.ensures.bytes c.in-Ok.ensures

pub returns-in-Err-clause-refused : goal.returns-in-Err-clause-refused
returns-in-Err-clause-refused g c =
    let seen : Outputs = outputs (g.O.Out.sink c.args.out.now) (g.O.Out.sink c.print_read.new.out) (g.E.Out.sink c.args.err.now) (g.E.Out.sink c.print_read.new.err) in
    λ _. read-refused (g.R.Read.remaining c.args.input.now) seen c.read_up_to-read.result c.in-Err.fault c.read_up_to-read.ensures.bytes c.in-Err.ensures

pub returns-in-Err-clause-told : goal.returns-in-Err-clause-told
returns-in-Err-clause-told g c =
    let seen : Outputs = outputs (g.O.Out.sink c.args.out.now) (g.O.Out.sink c.print_read.new.out) (g.E.Out.sink c.args.err.now) (g.E.Out.sink c.print_read.new.err) in
    λ _. (seen.err', read-untold seen c.read_up_to-read.result c.in-Err.fault c.in-Err.ensures, c.write_fault_of.ensures)
