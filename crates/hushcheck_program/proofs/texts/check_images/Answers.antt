use Rattle.std.proofs.Common.{◌≡◌, ◌∙◌, ap, sym, subst, Bool, Err, Result}
use Rattle.std.proofs.lemmas.Result.{err_from_is_err_and}
use Rattle.std.specs.Option.{option_copied}
use Rattle.std.specs.Prelude.{map, string_bytes}
use Rattle.hushcheck_program.specs.Faults.{of_image}
use Rattle.hushcheck_program.specs.declared.fault.CheckFault.{CheckFault}
use Rattle.tool_images.specs.PrintingImages.{Finds}
use Rattle.tool_steps.specs.Images.{copies}
use Rattle.tool_steps.specs.PrintingFiles.{environment}
use Rattle.hushcheck_program.specs.Checking.{ChecksText, given, list_in}
use Rattle.hushcheck_program.proofs.CheckLemmas.{found-in, no-texts, texts-in}
use Rattle.hushcheck_program.specs.Shown.{list_shown, script_shown}
use Rattle.hushcheck_program.proofs.texts.check_images.Goals as goal

pub returns-in_err-env : goal.returns-in_err-env
returns-in_err-env g c =
    let out = g.O.Out.sink c.args.out.now in
    let answer = environment c.args.order (copies c.args.images.now) in
    let devices = list_in (list_shown c.args.list) in
    let script = script_shown c.args.script in
    let names = map string_bytes c.args.what.now.names.items in
    let p = err_from_is_err_and c.from_residual.result c.from_residual.ensures.1 in
    let is : c.from_residual.result ≡ Err (of_image c.in_err-env.field-0.0) = p.1 ∙ ap Err p.2 in
    let P : Result Bool CheckFault → Type 0 = λ r. ChecksText (given answer devices script names c.args.what.now.all c.args.what.now.shell c.args.what.now.strict) out out r in
    subst P (sym is) (no-texts answer devices script names c.args.what.now.all c.args.what.now.shell c.args.what.now.strict out c.in_err-env.field-0.0
    (subst (λ e. Finds e (Err c.in_err-env.field-0.0)) (sym (found-in c.args.order c.args.images.now c.deref-2.result.now (option_copied c.second_bytes-second.result) c.deref-2.ensures.value c.second_bytes-second.ensures)) c.in_err-env.ensures))

pub returns : goal.returns
returns g c =
    texts-in (environment c.args.order (copies c.args.images.now)) c.in_ok-env.env (list_in (list_shown c.args.list)) (script_shown c.args.script) _ _ c.args.what.now.all c.args.what.now.shell c.args.what.now.strict (g.O.Out.sink c.args.out.now) (g.O.Out.sink c.check_env.new.out) c.check_env.result
    (found-in c.args.order c.args.images.now c.deref-2.result.now (option_copied c.second_bytes-second.result) c.deref-2.ensures.value c.second_bytes-second.ensures ∙ c.in_ok-env.ensures)
    (ap (map (λ n. n.now)) c.deref-3.ensures.value ∙ c.in-Ok.ensures.slices ∙ ap (map string_bytes) c.deref.ensures.value) c.check_env.ensures
