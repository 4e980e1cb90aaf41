use Rattle.std.proofs.Common.{◌≡◌, ◌∙◌, ap, refl, sym, subst, Bool, Err, None, Result, List, ℕ, Option}
use Rattle.std.proofs.lemmas.Result.{err_from_is_err_and}
use Rattle.hushcheck_program.specs.declared.fault.CheckFault.{CheckFault}
use Rattle.hushcheck_program.specs.declared.fault.CheckFault.TheVariants.{Shared}
use Rattle.tool_files.proofs.ToldLemmas.{IfTold-then}
use Rattle.tool_files.specs.Told.{IfTold}
use Rattle.tool_steps.proofs.SourceLemmas.{IfTold-weaker}
use Rattle.tool_steps.specs.Images.{copies}
use Rattle.hushcheck_program.specs.Asked.{Asked, asked_by}
use Rattle.hushcheck_program.specs.Checking.{ChecksFrom, ChecksText, Named, given_by, under}
use Rattle.hushcheck_program.proofs.CheckLemmas.{bytes_if, checks-alone, checks-unread, checks-unscripted}
use Rattle.hushcheck_program.specs.Shown.{script_shown}
use Rattle.std.specs.Option.{option_copied}
use Rattle.hushcheck_program.proofs.texts.check_alone.Goals as goal

pub returns-in_err-images-clause-told : goal.returns-in_err-images-clause-told
returns-in_err-images-clause-told g c =
    let a = g.F.Files.told c.args.files.now in
    let b = g.F.Files.told c.read_origin.new.files in
    let out = g.O.Out.sink c.args.out.now in
    let asked : Asked = asked_by c.args.origin None c.args.what.now c.args.order in
    let fault = c.in_err-images.field-0.0 in
    let p = err_from_is_err_and c.from_residual.result c.from_residual.ensures.1 in
    let answer : c.from_residual.result ≡ Err (Shared fault) = p.1 ∙ ap Err p.2 in
    let P : Result Bool CheckFault → Type 0 = λ r. IfTold a b (λ old new. ChecksFrom asked out out old new r) in
    subst P (sym answer) (IfTold-weaker a b (λ x y h. checks-unread asked refl out x y fault h) c.in_err-images.ensures.told)

pub returns-in_err-text-clause-told : goal.returns-in_err-text-clause-told
returns-in_err-text-clause-told g c =
    let a = g.F.Files.told c.args.files.now in
    let b = g.F.Files.told c.read_origin.new.files in
    let d = g.F.Files.told c.read_script_at.new.files in
    let out = g.O.Out.sink c.args.out.now in
    let asked : Asked = asked_by c.args.origin None c.args.what.now c.args.order in
    let fault = c.in_err-text.field-0.0 in
    let p = err_from_is_err_and c.from_residual-in_err-text.result c.from_residual-in_err-text.ensures.1 in
    let answer : c.from_residual-in_err-text.result ≡ Err (Shared fault) = p.1 ∙ ap Err p.2 in
    let P : Result Bool CheckFault → Type 0 = λ r. IfTold a d (λ old new. ChecksFrom asked out out old new r) in
    subst P (sym answer)
    (IfTold-then a b d (λ x y z h i. checks-unscripted asked refl out (copies c.in_ok-images.images) x y z fault h i) c.in_ok-images.ensures.told c.in_err-text.ensures.told)

pub returns-clause-told : goal.returns-clause-told
returns-clause-told g c =
    let a = g.F.Files.told c.args.files.now in
    let b = g.F.Files.told c.read_origin.new.files in
    let d = g.F.Files.told c.read_script_at.new.files in
    let out = g.O.Out.sink c.args.out.now in
    let out' = g.O.Out.sink c.check_images.new.out in
    let asked : Asked = asked_by c.args.origin None c.args.what.now c.args.order in
    let found = copies c.in_ok-images.images in
    let script = c.in_ok-text.text in
    let shown : script_shown c.under-script.result ≡ under asked.script (bytes_if script) =
    c.under-script.ensures ∙ ap (λ (name : Option (List ℕ)). under name (option_copied c.as_deref.result)) c.bytes_of.ensures ∙ ap (under asked.script) c.as_deref.ensures.value in
    let P : Option Named → Type 0 = λ script. ChecksText (given_by asked.order found None script asked.names asked.all asked.shell asked.strict) out out' c.check_images.result in
    let checked : P (under asked.script (bytes_if script)) = subst P shown c.check_images.ensures in
    IfTold-then a b d (λ x y z h i. checks-alone asked refl out out' found script x y z h i c.check_images.result checked)
    c.in_ok-images.ensures.told c.in_ok-text.ensures.told
