use Rattle.std.proofs.Common.{◌≡◌, ◌∙◌, ap, sym, subst, ℕ, List, Err}
use Rattle.std.specs.Prelude.{Result}
use Rattle.std.proofs.lemmas.Result.{err_from_is_err_and}
use Rattle.tool_files.proofs.ToldLemmas.{IfTold-then}
use Rattle.tool_files.specs.Told.{IfTold}
use Rattle.tool_images.specs.declared.fault.Fault.{Fault}
use Rattle.tool_steps.proofs.ReadingLemmas.{then-three}
use Rattle.tool_steps.proofs.SetLemmas.{notes-written, sets-refused, sets-written}
use Rattle.tool_steps.specs.Images.{copies}
use Rattle.tool_steps.specs.Overlap.{are_overlapping}
use Rattle.tool_steps.specs.ChangingFiles.{Sets, WritesCopy}
use Rattle.tool_steps.proofs.set.set_files.Goals as goal

pub returns-in_err-which-clause-told : goal.returns-in_err-which-clause-told
returns-in_err-which-clause-told g c =
    let a = g.F.Files.told c.args.files.now in
    let b = g.F.Files.told c.read_source.new.files in
    let d = g.F.Files.told c.changed_copy.new.files in
    let err = g.E.Out.sink c.args.err.now in
    let noted = g.E.Out.sink c.read_source.new.err in
    let p = err_from_is_err_and c.from_residual-in_err-which.result c.from_residual-in_err-which.ensures.1 in
    let answer : c.from_residual-in_err-which.result ≡ Err c.in_err-which.field-0.0 = p.1 ∙ ap Err p.2 in
    let P : Result (Unit {0}) Fault → Type 0 = λ r. IfTold a d (λ old new. Sets c.args.program.now (g.R.Read.remaining c.args.input.now) c.args.source c.args.change err noted old new r) in
    subst P (sym answer)
    (IfTold-then a b d
    (λ x y z h i. sets-refused c.args.program.now (g.R.Read.remaining c.args.input.now) c.args.source c.args.change (copies c.in_ok-images.images) err noted x y z c.in_err-which.field-0.0 h i)
    c.in_ok-images.ensures.told c.in_err-which.ensures.told)

pub returns-clause-told : goal.returns-clause-told
returns-clause-told g c =
    let a = g.F.Files.told c.args.files.now in
    let b = g.F.Files.told c.read_source.new.files in
    let d = g.F.Files.told c.changed_copy.new.files in
    let e = g.F.Files.told c.write_copy.new.files in
    let err = g.E.Out.sink c.args.err.now in
    let noted = g.E.Out.sink c.read_source.new.err in
    let err' = g.E.Out.sink c.tell_overlap.new.err in
    let found = copies c.in_ok-images.images in
    let P : List ℕ → Type 0 = λ bytes. IfTold d e (λ old new. WritesCopy c.in_ok-which.which found bytes old new c.write_copy.result) in
    let written : P c.in_ok-which.bytes.items = subst P c.deref.ensures.value c.write_copy.ensures.told in
    then-three a b d e
    (λ x y z w h i j. sets-written c.args.program.now (g.R.Read.remaining c.args.input.now) c.args.source c.args.change found c.in_ok-which.which c.in_ok-which.bytes err noted err' x y z w c.write_copy.result
    c.tell_overlap.ensures h i j)
    c.in_ok-images.ensures.told c.in_ok-which.ensures.told written

pub returns-clause-notes : goal.returns-clause-notes
returns-clause-notes g c =
    notes-written c.args.program.now c.args.source.one_copy (are_overlapping (copies c.in_ok-images.images)) c.write_copy.result (g.E.Out.sink c.args.err.now) (g.E.Out.sink c.read_source.new.err) (g.E.Out.sink c.tell_overlap.new.err)
    c.write_copy.ensures.fault c.in_ok-images.ensures.notes c.tell_overlap.ensures
