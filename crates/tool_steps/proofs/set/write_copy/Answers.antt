use Rattle.std.proofs.Common.{refl, sym, subst, string_bytes, List, ℕ, Err}
use Rattle.envimage.specs.Place.{place_shown}
use Rattle.tool_files.specs.Told.{IfTold, WritesAt}
use Rattle.tool_images.specs.FileFaults.{path_form}
use Rattle.tool_images.specs.declared.fault.Fault.{Fault}
use Rattle.tool_steps.specs.Images.{copies}
use Rattle.tool_steps.specs.ChangingFiles.{WritesCopy}
use Rattle.tool_steps.proofs.ReadingLemmas.{IfTold-weaker}
use Rattle.tool_steps.proofs.SetLemmas.{write-refused}
use Rattle.tool_steps.proofs.set.write_copy.Goals as goal

pub returns-in-Err-clause-told : goal.returns-in-Err-clause-told
returns-in-Err-clause-told g c =
    let a = g.F.Files.told c.args.files.now in
    let b = g.F.Files.told c.write_at.new.self in
    let found = copies c.args.images in
    let place = c.place_of-place.result in
    let P : Fault → Type 0 = λ f. IfTold a b (λ old new. WritesCopy c.args.which found c.args.bytes.now old new (Err f)) in
    let Q : List ℕ → Type 0 = λ path. IfTold a b (λ old new. WritesAt path place.offset c.args.bytes.now old new (Err c.in-Err.fault)) in
    let told : Q (string_bytes place.device) = subst Q c.deref.ensures c.in-Err.ensures.told in
    subst P (sym c.of_write.ensures)
    (IfTold-weaker a b
    (λ x y h. write-refused c.args.which found c.args.bytes.now (place_shown place) (path_form place.device) x y c.in-Err.fault c.place_of-place.ensures refl h)
    told)
