use Rattle.std.proofs.Common.{◌≡◌, ◌∙◌, ap, sym, subst, string_bytes, Err, Result}
use Rattle.std.proofs.lemmas.Result.{err_from_is_err_and}
use Rattle.tool_files.proofs.ToldLemmas.{IfTold-then}
use Rattle.tool_files.specs.Told.{IfTold}
use Rattle.tool_images.specs.declared.fault.Fault.{Fault}
use Rattle.tool_steps.specs.Images.{ReadsImages}
use Rattle.tool_steps.specs.declared.images.Images.{Images}
use Rattle.tool_steps.proofs.ReadingLemmas.{IfTold-weaker, first-unread, images-read, images-unread, second-unread, then-three}
use Rattle.tool_steps.proofs.images.read_images.Goals as goal

pub returns-in_err-first-clause-told : goal.returns-in_err-first-clause-told
returns-in_err-first-clause-told g c =
    let a = g.F.Files.told c.args.files.now in
    let b = g.F.Files.told c.read_places.new.files in
    let config = string_bytes c.args.config in
    let fault = c.in_err-first.field-0.0 in
    let p = err_from_is_err_and c.from_residual.result c.from_residual.ensures.1 in
    let answer : c.from_residual.result ≡ Err fault = p.1 ∙ ap Err p.2 in
    let P : Result Images Fault → Type 0 = λ r. IfTold a b (λ old new. ReadsImages config old new r) in
    subst P (sym answer) (IfTold-weaker a b (λ x y h. images-unread config x y fault h) c.in_err-first.ensures.told)

pub returns-in_err-first-2-clause-told : goal.returns-in_err-first-2-clause-told
returns-in_err-first-2-clause-told g c =
    let a = g.F.Files.told c.args.files.now in
    let b = g.F.Files.told c.read_places.new.files in
    let d = g.F.Files.told c.read_copy.new.files in
    let config = string_bytes c.args.config in
    let fault = c.in_err-first-2.field-0.0 in
    let p = err_from_is_err_and c.from_residual-in_err-first-2.result c.from_residual-in_err-first-2.ensures.1 in
    let answer : c.from_residual-in_err-first-2.result ≡ Err fault = p.1 ∙ ap Err p.2 in
    let P : Result Images Fault → Type 0 = λ r. IfTold a d (λ old new. ReadsImages config old new r) in
    subst P (sym answer)
    (IfTold-then a b d
    (λ x y z h i. first-unread config c.in_ok-first.first c.in_ok-first.second x y z fault h i)
    c.in_ok-first.ensures.told c.in_err-first-2.ensures.told)

pub returns-in_err-second-clause-told : goal.returns-in_err-second-clause-told
returns-in_err-second-clause-told g c =
    let a = g.F.Files.told c.args.files.now in
    let b = g.F.Files.told c.read_places.new.files in
    let d = g.F.Files.told c.read_copy.new.files in
    let e = g.F.Files.told c.read_second.new.files in
    let config = string_bytes c.args.config in
    let fault = c.in_err-second.field-0.0 in
    let p = err_from_is_err_and c.from_residual-in_err-second.result c.from_residual-in_err-second.ensures.1 in
    let answer : c.from_residual-in_err-second.result ≡ Err fault = p.1 ∙ ap Err p.2 in
    let P : Result Images Fault → Type 0 = λ r. IfTold a e (λ old new. ReadsImages config old new r) in
    subst P (sym answer)
    (then-three a b d e
    (λ x y z w h i j. second-unread config c.in_ok-first.first c.in_ok-first.second c.in_ok-first-2.first x y z w fault h i j)
    c.in_ok-first.ensures.told c.in_ok-first-2.ensures.told c.in_err-second.ensures.told)

pub returns-clause-told : goal.returns-clause-told
returns-clause-told g c =
    let a = g.F.Files.told c.args.files.now in
    let b = g.F.Files.told c.read_places.new.files in
    let d = g.F.Files.told c.read_copy.new.files in
    let e = g.F.Files.told c.read_second.new.files in
    then-three a b d e
    (λ x y z w h i j. images-read (string_bytes c.args.config) c.in_ok-first.first c.in_ok-first.second c.in_ok-first-2.first c.in_ok-second.second x y z w h c.in_ok-first-2.ensures.place i j)
    c.in_ok-first.ensures.told c.in_ok-first-2.ensures.told c.in_ok-second.ensures.told
