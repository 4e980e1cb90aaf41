use Rattle.std.proofs.Common.{◌∙◌, ap, sym, subst, arith, List, ℕ, Ok, Err}
use Rattle.std.proofs.lemmas.Result.{err_from_is_err_and}
use Rattle.board_files.proofs.FileLemmas.{any-there, more-lost, more-read, more-refused, nothing-more, there-before, told-same}
use Rattle.board_files.specs.NamedFiles.{IsRefused, ReadsOne, names_of, path_below}
use Rattle.device_list.specs.CommandsShown.{files_shown, text_shown}
use Rattle.tool_files.specs.CallOrder.{OnlyReads}
use Rattle.tool_files.specs.Told.{IfTold}
use Rattle.tool_steps.proofs.SourceLemmas.{IfTold-weaker}
use Rattle.tool_steps.specs.Scripts.{HasReadSized}
use Rattle.board_files.proofs.named_files.read_one.Goals as goal

pub returns-then-contains_key-clause-told : goal.returns-then-contains_key-clause-told
returns-then-contains_key-clause-told g c =
    let before = files_shown c.args.texts.now.entries in
    let name = c.args.name.now in
    let here = any-there c.args.texts.now.entries name ∙ sym c.contains_key.ensures ∙ c.if-contains_key.true in
    told-same (λ old new. ReadsOne c.args.folder.now name old new before before c.args.room.now c.args.room.now (Ok tt)) (g.F.Files.told c.args.files.now)
    (λ x. nothing-more c.args.folder.now name before c.args.room.now x (there-before (names_of before) name here))

pub keep-requires : goal.keep-requires
keep-requires g c = any-there c.args.texts.now.entries c.args.name.now ∙ sym c.contains_key.ensures ∙ c.if-contains_key.false

pub returns-in-Ok-clause-told : goal.returns-in-Ok-clause-told
returns-in-Ok-clause-told g c =
    let before = files_shown c.args.texts.now.entries in
    let name = c.args.name.now in
    let file = text_shown c.in_ok-file.file in
    let new = any-there c.args.texts.now.entries name ∙ sym c.contains_key.ensures ∙ c.if-contains_key.false in
    let inside = c.in-Some.ensures in
    IfTold-weaker (g.F.Files.told c.args.files.now) (g.F.Files.told c.read_within.new.files)
    (λ x y read. more-read c.args.folder.now name file before _ c.args.room.now _ x y inside.0 new c.in-Ok.ensures (let long = c.len.ensures in let fits = c.in_ok-file.ensures.room in omega (arith, long, fits))
    (subst (λ (n : List ℕ). HasReadSized (path_below c.args.folder.now n) x y file.text file.size) inside.1 read.0)) c.in_ok-file.ensures.told

pub returns-in_err-file-clause-told : goal.returns-in_err-file-clause-told
returns-in_err-file-clause-told g c =
    let a = g.F.Files.told c.args.files.now in
    let b = g.F.Files.told c.read_within.new.files in
    let folder = c.args.folder.now in
    let before = files_shown c.args.texts.now.entries in
    let name = c.args.name.now in
    let room = c.args.room.now in
    let fault = c.in_err-file.field-0.0 in
    let p = err_from_is_err_and c.from_residual.result c.from_residual.ensures.1 in
    let new = any-there c.args.texts.now.entries name ∙ sym c.contains_key.ensures ∙ c.if-contains_key.false in
    let inside = c.in-Some.ensures in
    subst (λ r. IfTold a b (λ old new. ReadsOne folder name old new before before room room r)) (sym (p.1 ∙ ap Err p.2))
    (IfTold-weaker a b (λ x y h. more-refused folder name before before room room x y fault inside.0 new (subst (λ (n : List ℕ). OnlyReads x y × IsRefused (path_below folder n) room x.stored fault) inside.1 h)) c.in_err-file.ensures.told)

pub returns-in-Err-clause-told : goal.returns-in-Err-clause-told
returns-in-Err-clause-told g c =
    let before = files_shown c.args.texts.now.entries in
    let name = c.args.name.now in
    let file = text_shown c.in_ok-file.file in
    let new = any-there c.args.texts.now.entries name ∙ sym c.contains_key.ensures ∙ c.if-contains_key.false in
    let inside = c.in-Some.ensures in
    IfTold-weaker (g.F.Files.told c.args.files.now) (g.F.Files.told c.read_within.new.files)
    (λ x y read. more-lost c.args.folder.now name file before before c.args.room.now c.args.room.now x y inside.0 new
    (subst (λ (n : List ℕ). HasReadSized (path_below c.args.folder.now n) x y file.text file.size) inside.1 read.0)) c.in_ok-file.ensures.told
