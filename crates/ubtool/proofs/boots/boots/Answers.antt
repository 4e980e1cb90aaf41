use Rattle.std.proofs.Common.{◌≡◌, ◌∙◌, ap, sym, subst, ℕ, Bool, Option, Err, Ok, Result}
use Rattle.std.specs.Prelude.{Vec, option_map}
use Rattle.std.specs.declared.alloc.Global.{Global}
use Rattle.std.proofs.lemmas.Result.{err_from_is_err_and}
use Rattle.rehearse_terms.specs.State.{Text}
use Rattle.text.specs.TextsShown.{option_bytes}
use Rattle.tool_files.proofs.ToldLemmas.{IfTold-then}
use Rattle.tool_files.specs.CallOrder.{OnlyReads}
use Rattle.tool_files.specs.Told.{IfTold}
use Rattle.tool_steps.proofs.SourceLemmas.{IfTold-weaker}
use Rattle.tool_words.specs.CommandAnswers.{inputs_shown}
use Rattle.ubtool.specs.BootsOfFiles.{HasReadChanges, IsChangesFault, TellsBootsFrom, TellsBootsOfCopies, limits_by, limits_in}
use Rattle.ubtool.specs.RehearsingFiles.{LeavesOutput}
use Rattle.ubtool.specs.declared.fault.ProgramFault.{ProgramFault}
use Rattle.ubtool.specs.declared.fault.ProgramFault.TheVariants.{Shared}
use Rattle.ubtool.proofs.BootsLemmas.{boots-found, boots-refused, leaves-refused, read_by, told-sound, unchanged, unread}
use Rattle.ubtool.proofs.boots.boots.Goals as goal

pub returns-in_err-board-clause-told : goal.returns-in_err-board-clause-told
returns-in_err-board-clause-told g c =
    let a = g.F.Files.told c.args.files.now in
    let b = g.F.Files.told c.read_board.new.files in
    let out = g.O.Out.sink c.args.out.now in
    let inputs = inputs_shown c.args.inputs in
    let fault = c.in_err-board.field-0.0 in
    let p = err_from_is_err_and c.from_residual.result c.from_residual.ensures.1 in
    let answer : c.from_residual.result ≡ Err (Shared fault) = p.1 ∙ ap Err p.2 in
    let P : Result Bool ProgramFault → Type 0 = λ r. IfTold a b (λ old new. TellsBootsFrom c.args.order inputs c.args.what out out old new r) in
    subst P (sym answer)
    (IfTold-weaker a b (λ x y h. unread c.args.order inputs c.args.what out x y fault c.in_err-board.ensures.fault h) c.in_err-board.ensures.told)

pub returns-in_err-changes-clause-told : goal.returns-in_err-changes-clause-told
returns-in_err-changes-clause-told g c =
    let a = g.F.Files.told c.args.files.now in
    let b = g.F.Files.told c.read_board.new.files in
    let d = g.F.Files.told c.read_changes.new.files in
    let out = g.O.Out.sink c.args.out.now in
    let inputs = inputs_shown c.args.inputs in
    let what = c.args.what in
    let fault = c.in_err-changes.field-0.0 in
    let p = err_from_is_err_and c.from_residual-in_err-changes.result c.from_residual-in_err-changes.ensures.1 in
    let answer : c.from_residual-in_err-changes.result ≡ Err (Shared fault) = p.1 ∙ ap Err p.2 in
    let P : Result Bool ProgramFault → Type 0 = λ r. IfTold a d (λ old new. TellsBootsFrom c.args.order inputs what out out old new r) in
    subst P (sym answer)
    (IfTold-then a b d
    (λ x y z read h. unchanged c.args.order inputs what out c.in_ok-board.board x y z read fault c.in_err-changes.ensures.fault
    (subst (λ (path : Option Text). OnlyReads y z × IsChangesFault path y.stored fault) c.in-Ok.ensures h))
    c.in_ok-board.ensures.told c.in_err-changes.ensures.told)

pub returns-in-Err-clause-told : goal.returns-in-Err-clause-told
returns-in-Err-clause-told g c =
    let a = g.F.Files.told c.args.files.now in
    let b = g.F.Files.told c.read_board.new.files in
    let d = g.F.Files.told c.read_changes.new.files in
    let out = g.O.Out.sink c.args.out.now in
    let out' = g.O.Out.sink c.boots_of_sources.new.out in
    let inputs = inputs_shown c.args.inputs in
    let what = c.args.what in
    let board = c.in_ok-board.board in
    let given = read_by c.args.order inputs what board in
    let changes = option_map (λ (v : Vec ℕ Global). v.items) c.in_ok-changes.changes in
    let by_images = subst (λ (images : Bool). TellsBootsOfCopies given (limits_by images what (option_bytes c.as_deref.result) given) out out' (Err c.in-Err.error)) c.are_images-images.ensures c.in-Err.ensures in
    let told = subst (λ (script : Option Text). TellsBootsOfCopies given (limits_in inputs what script given) out out' (Err c.in-Err.error)) c.as_deref.ensures.value by_images in
    let P : ProgramFault → Type 0 = λ f. IfTold a d (λ old new. TellsBootsFrom c.args.order inputs what out out' old new (Err f)) in
    subst P (sym c.refusal_of.ensures)
    (IfTold-then a b d
    (λ x y z read h. boots-refused c.args.order inputs what out out' board changes x y z read
    (subst (λ (path : Option Text). HasReadChanges path y z changes) c.in-Ok.ensures h) c.in-Err.error told)
    c.in_ok-board.ensures.told c.in_ok-changes.ensures.told)

pub returns-in-Ok-boots_of_sources-clause-told : goal.returns-in-Ok-boots_of_sources-clause-told
returns-in-Ok-boots_of_sources-clause-told g c =
    let a = g.F.Files.told c.args.files.now in
    let b = g.F.Files.told c.read_board.new.files in
    let d = g.F.Files.told c.read_changes.new.files in
    let out = g.O.Out.sink c.args.out.now in
    let out' = g.O.Out.sink c.boots_of_sources.new.out in
    let inputs = inputs_shown c.args.inputs in
    let what = c.args.what in
    let board = c.in_ok-board.board in
    let given = read_by c.args.order inputs what board in
    let holds = c.in-Ok-boots_of_sources.holds in
    let changes = option_map (λ (v : Vec ℕ Global). v.items) c.in_ok-changes.changes in
    let by_images = subst (λ (images : Bool). TellsBootsOfCopies given (limits_by images what (option_bytes c.as_deref.result) given) out out' (Ok holds)) c.are_images-images.ensures c.in-Ok-boots_of_sources.ensures in
    let told = subst (λ (script : Option Text). TellsBootsOfCopies given (limits_in inputs what script given) out out' (Ok holds)) c.as_deref.ensures.value by_images in
    IfTold-then a b d
    (λ x y z read h. boots-found c.args.order inputs what out out' board changes x y z read
    (subst (λ (path : Option Text). HasReadChanges path y z changes) c.in-Ok.ensures h) holds told)
    c.in_ok-board.ensures.told c.in_ok-changes.ensures.told

pub returns-in-Ok-boots_of_sources-clause-output : goal.returns-in-Ok-boots_of_sources-clause-output
returns-in-Ok-boots_of_sources-clause-output g c =
    let given = read_by c.args.order (inputs_shown c.args.inputs) c.args.what c.in_ok-board.board in
    told-sound given (limits_by c.are_images-images.result c.args.what (option_bytes c.as_deref.result) given) (g.O.Out.sink c.args.out.now) (g.O.Out.sink c.boots_of_sources.new.out) c.in-Ok-boots_of_sources.holds c.in-Ok-boots_of_sources.ensures

pub returns-in-Err-clause-output : goal.returns-in-Err-clause-output
returns-in-Err-clause-output g c =
    let what = c.args.what in
    let out = g.O.Out.sink c.args.out.now in
    let out' = g.O.Out.sink c.boots_of_sources.new.out in
    let given = read_by c.args.order (inputs_shown c.args.inputs) what c.in_ok-board.board in
    let P : ProgramFault → Type 0 = λ f. LeavesOutput (Err f) out out' in
    subst P (sym c.refusal_of.ensures)
    (leaves-refused given (limits_by c.are_images-images.result what (option_bytes c.as_deref.result) given) what out out' c.in-Err.error c.in-Err.ensures)
