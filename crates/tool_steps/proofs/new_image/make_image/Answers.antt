use Rattle.std.proofs.Common.{List, ℕ, string_bytes, subst}
use Rattle.tool_files.proofs.ToldLemmas.{IfTold-then}
use Rattle.tool_files.specs.Told.{IfTold}
use Rattle.tool_images.specs.NewImages.{IsImageOfText}
use Rattle.tool_steps.proofs.NewImageFileLemmas.{then-created}
use Rattle.tool_steps.proofs.new_image.make_image.Goals as goal
use Rattle.tool_steps.specs.NewImageFiles.{CreatesFile}

pub returns-clause-told : goal.returns-clause-told
returns-clause-told g c =
    let b = g.F.Files.told c.read_text.new.files in
    let d = g.F.Files.told c.create_file.new.files in
    let output = string_bytes c.args.output in
    let made : IsImageOfText c.args.layout c.in_ok-lines.lines.items c.in_ok-image.image.items = subst (λ (lines : List ℕ). IsImageOfText c.args.layout lines c.in_ok-image.image.items) c.deref.ensures.value c.in_ok-image.ensures.1 in
    let P : List ℕ → Type 0 = λ image. IfTold b d (λ old new. CreatesFile output image old new c.create_file.result) in
    let created : P c.in_ok-image.image.items = subst P c.deref-2.ensures.value c.create_file.ensures.told in
    IfTold-then (g.F.Files.told c.args.files.now) b d
    (λ x y z read created. then-created (string_bytes c.args.text) output c.args.layout c.in_ok-lines.lines.items c.in_ok-image.image.items x y z c.create_file.result read made created)
    c.in_ok-lines.ensures.told
    created
