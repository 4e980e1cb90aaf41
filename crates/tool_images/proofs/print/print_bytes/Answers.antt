use Rattle.std.proofs.Common.{sym, subst, ◌≡◌, Result, Err, Bool, List, ℕ, map, ap, ◌∙◌}
use Rattle.std.proofs.lemmas.Result.{err_from_is_err_and}
use Rattle.std.specs.Option.{option_copied}
use Rattle.envimage.specs.Image.{loaded_shown}
use Rattle.tool_images.specs.Errors.{print_fault}
use Rattle.tool_images.specs.PrintingImages.{Prints, environment_in}
use Rattle.output.specs.Outputs.{Outputs}
use Rattle.tool_images.specs.declared.error.ToolError.{ToolError}
use Rattle.tool_images.proofs.PrintingLemmas.{print-refused}
use Rattle.tool_images.proofs.print.print_bytes.Goals as goal

pub returns-in_err-print_data : goal.returns-in_err-print_data
returns-in_err-print_data g c =
    let outputs : Outputs = record { out = g.O.Out.sink c.args.out.now; out' = g.O.Out.sink c.print_data.new.out; err = g.E.Out.sink c.args.err.now; err' = g.E.Out.sink c.print_data.new.err } in
    let names : List (List ℕ) = map (λ n. n.now) c.args.ask.now.names.now in
    let second = option_copied c.args.second in
    let p = err_from_is_err_and c.from_residual-in_err-print_data.result c.from_residual-in_err-print_data.ensures.1 in
    let answer : c.from_residual-in_err-print_data.result ≡ Err (print_fault c.in_err-print_data.field-0.0) = p.1 ∙ ap Err p.2 in
    let P : Result Bool ToolError → Type 0 = Prints (environment_in c.args.order c.args.first.now second) names c.args.ask.now.form outputs in
    subst P (sym answer) (print-refused c.args.order c.args.first.now second (loaded_shown c.in_ok-loaded.loaded) c.in_err-print_data.field-0.0 names c.args.ask.now.form outputs c.in_ok-loaded.ensures.answer c.in_err-print_data.ensures)
