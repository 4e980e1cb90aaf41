use Rattle.std.proofs.Common.{◌∙◌, sym, arith, subst, List, ℕ, Err}
use Rattle.board_files.proofs.FileLemmas.{over-room}
use Rattle.board_files.specs.NamedFiles.{ReadsWithin, path_below}
use Rattle.device_list.specs.CallLines.{FileText}
use Rattle.tool_files.specs.Told.{IfTold}
use Rattle.tool_images.specs.FileFaults.{path_form}
use Rattle.tool_images.specs.declared.fault.Fault.{Fault}
use Rattle.tool_steps.proofs.SourceLemmas.{IfTold-weaker}
use Rattle.tool_steps.specs.Scripts.{HasReadSized}
use Rattle.board_files.proofs.named_files.read_within.Goals as goal

pub returns-then-len-room-clause-told : goal.returns-then-len-room-clause-told
returns-then-len-room-clause-told g c =
    let a = g.F.Files.told c.args.files.now in
    let b = g.F.Files.told c.read_script_below.new.files in
    let path = path_below c.args.folder.now c.args.name.now in
    let file : FileText = record { text = c.in_ok-script.script.text.items; size = c.in_ok-script.script.size } in
    let P : Fault → Type 0 = λ f. IfTold a b (λ old new. ReadsWithin path c.args.room old new (Err f)) in
    subst P (sym c.of_read.ensures)
    (IfTold-weaker a b (λ x y read. over-room path c.args.room file (path_form c.in-Ok-clone.told) x y (c.in-Ok-clone.ensures.cases ∙ c.in-Ok.ensures) (subst (λ (p : List ℕ). HasReadSized p x y file.text file.size) c.in-Ok.ensures read) (let long = c.len.ensures in let more = c.if-len-room.true in omega (arith, long, more))) c.in_ok-script.ensures.told)
