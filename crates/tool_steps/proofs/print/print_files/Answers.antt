use Rattle.std.proofs.Common.{◌≡◌, ◌∙◌, Err, ap, map, refl, string_bytes, subst, sym, Bool}
use Rattle.std.specs.Prelude.{Result}
use Rattle.std.proofs.lemmas.Result.{err_from_is_err_and}
use Rattle.output.specs.Outputs.{AreUnchanged, outputs}
use Rattle.tool_images.specs.declared.fault.Fault.{Fault}
use Rattle.tool_steps.proofs.PrintLemmas.{prints-unread}
use Rattle.tool_steps.proofs.ReadingLemmas.{IfTold-weaker}
use Rattle.tool_steps.specs.PrintingFiles.{PrintsFrom}
use Rattle.tool_steps.proofs.print.print_files.Goals as goal

pub returns-in_err-images-clause-told : goal.returns-in_err-images-clause-told
returns-in_err-images-clause-told g c =
    let a = g.F.Files.told c.args.files.now in
    let b = g.F.Files.told c.read_source.new.files in
    let s = outputs (g.O.Out.sink c.args.out.now) (g.O.Out.sink c.args.out.now) (g.E.Out.sink c.args.err.now) (g.E.Out.sink c.read_source.new.err) in
    let names = map string_bytes c.args.what.now.names.items in
    let p = err_from_is_err_and c.from_residual.result c.from_residual.ensures.1 in
    let answer : c.from_residual.result ≡ Err c.in_err-images.field-0.0 = p.1 ∙ ap Err p.2 in
    let same : AreUnchanged s = record { out = refl; err = c.in_err-images.ensures.quiet } in
    IfTold-weaker a b (λ x y h. subst (λ (r : Result Bool Fault). PrintsFrom c.args.program.now c.args.source names c.args.what.now.form s x y r) (sym answer)
    (prints-unread c.args.program.now c.args.source names c.args.what.now.form s x y c.in_err-images.field-0.0 h same))
    c.in_err-images.ensures.told
