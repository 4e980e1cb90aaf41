use Rattle.std.proofs.Common.{◌≡◌, ◌∙◌, ap, sym, subst, Err, Result}
use Rattle.std.proofs.lemmas.Result.{err_from_is_err_and}
use Rattle.tool_files.proofs.ToldLemmas.{IfTold-then}
use Rattle.tool_files.specs.Told.{IfTold}
use Rattle.tool_images.specs.declared.fault.Fault.{Fault}
use Rattle.tool_steps.specs.Sources.{ReadsSources}
use Rattle.tool_steps.specs.declared.sources.Sources.{Sources}
use Rattle.tool_steps.proofs.ReadingLemmas.{then-three}
use Rattle.tool_steps.proofs.SourceLemmas.{sources-read, sources-unlisted, sources-unscripted}
use Rattle.tool_words.specs.CommandAnswers.{inputs_shown}
use Rattle.tool_steps.proofs.sources.read_sources.Goals as goal

pub returns-in_err-device_list-clause-told : goal.returns-in_err-device_list-clause-told
returns-in_err-device_list-clause-told g c =
    let a = g.F.Files.told c.args.files.now in
    let b = g.F.Files.told c.read_origin.new.files in
    let d = g.F.Files.told c.read_list.new.files in
    let inputs = inputs_shown c.args.inputs in
    let fault = c.in_err-device_list.field-0.0 in
    let p = err_from_is_err_and c.from_residual-in_err-device_list.result c.from_residual-in_err-device_list.ensures.1 in
    let answer : c.from_residual-in_err-device_list.result ≡ Err fault = p.1 ∙ ap Err p.2 in
    let P : Result Sources Fault → Type 0 = λ r. IfTold a d (λ old new. ReadsSources inputs old new r) in
    subst P (sym answer)
    (IfTold-then a b d (λ x y z h i. sources-unlisted inputs c.in_ok-images.images x y z fault h i) c.in_ok-images.ensures.told c.in_err-device_list.ensures.told)

pub returns-in_err-script-clause-told : goal.returns-in_err-script-clause-told
returns-in_err-script-clause-told g c =
    let a = g.F.Files.told c.args.files.now in
    let b = g.F.Files.told c.read_origin.new.files in
    let d = g.F.Files.told c.read_list.new.files in
    let e = g.F.Files.told c.read_named_script.new.files in
    let inputs = inputs_shown c.args.inputs in
    let fault = c.in_err-script.field-0.0 in
    let p = err_from_is_err_and c.from_residual-in_err-script.result c.from_residual-in_err-script.ensures.1 in
    let answer : c.from_residual-in_err-script.result ≡ Err fault = p.1 ∙ ap Err p.2 in
    let P : Result Sources Fault → Type 0 = λ r. IfTold a e (λ old new. ReadsSources inputs old new r) in
    subst P (sym answer)
    (then-three a b d e (λ x y z w h i k. sources-unscripted inputs c.in_ok-images.images c.in_ok-device_list.device_list x y z w fault h i k)
    c.in_ok-images.ensures.told c.in_ok-device_list.ensures.told c.in_err-script.ensures.told)

pub returns-clause-told : goal.returns-clause-told
returns-clause-told g c =
    let a = g.F.Files.told c.args.files.now in
    let b = g.F.Files.told c.read_origin.new.files in
    let d = g.F.Files.told c.read_list.new.files in
    let e = g.F.Files.told c.read_named_script.new.files in
    then-three a b d e (λ x y z w h i k. sources-read (inputs_shown c.args.inputs) c.in_ok-images.images c.in_ok-device_list.device_list c.in_ok-script.script x y z w h i k)
    c.in_ok-images.ensures.told c.in_ok-device_list.ensures.told c.in_ok-script.ensures.told
