use Rattle.std.proofs.Common.{◌≡◌, ◌∙◌, ap, sym, subst, Bool, Err, Result}
use Rattle.std.proofs.lemmas.Result.{err_from_is_err_and}
use Rattle.tool_files.specs.Told.{IfTold}
use Rattle.ubtool.specs.declared.fault.ProgramFault.{ProgramFault}
use Rattle.ubtool.specs.declared.fault.ProgramFault.TheVariants.{Shared}
use Rattle.ubtool.specs.EndingsOfFiles.{TellsFrom}
use Rattle.tool_words.specs.CommandAnswers.{inputs_shown}
use Rattle.tool_steps.specs.Images.{copies}
use Rattle.ubtool.specs.EndingsOfFiles.{all_asked, bytes_allowed}
use Rattle.ubtool.specs.GivenByFiles.{given_by, script_of}
use Rattle.ubtool.specs.RehearsingFiles.{LeavesOutput}
use Rattle.ubtool.proofs.EndingsTurnLemmas.{told-sound}
use Rattle.ubtool.proofs.EndingsLemmas.{leaves-refused, tells-found, tells-refused, unread}
use Rattle.tool_steps.proofs.SourceLemmas.{IfTold-weaker}
use Rattle.board_files.specs.BoardFiles.{list_of}
use Rattle.ubtool.proofs.endings.endings.Goals as goal

pub returns-in_err-board-clause-told : goal.returns-in_err-board-clause-told
returns-in_err-board-clause-told g c =
    let a = g.F.Files.told c.args.files.now in
    let b = g.F.Files.told c.read_board.new.files in
    let out = g.O.Out.sink c.args.out.now in
    let inputs = inputs_shown c.args.inputs in
    let fault = c.in_err-board.field-0.0 in
    let p = err_from_is_err_and c.from_residual.result c.from_residual.ensures.1 in
    let answer : c.from_residual.result ≡ Err (Shared fault) = p.1 ∙ ap Err p.2 in
    let P : Result Bool ProgramFault → Type 0 = λ r. IfTold a b (λ old new. TellsFrom c.args.order inputs c.args.what out out old new r) in
    subst P (sym answer)
    (IfTold-weaker a b (λ x y h. unread c.args.order inputs c.args.what out x y fault c.in_err-board.ensures.fault h) c.in_err-board.ensures.told)

pub returns-in-Err-clause-told : goal.returns-in-Err-clause-told
returns-in-Err-clause-told g c =
    let a = g.F.Files.told c.args.files.now in
    let b = g.F.Files.told c.read_board.new.files in
    let out = g.O.Out.sink c.args.out.now in
    let out' = g.O.Out.sink c.endings_of_sources.new.out in
    let inputs = inputs_shown c.args.inputs in
    let board = c.in_ok-board.board in
    let P : ProgramFault → Type 0 = λ f. IfTold a b (λ old new. TellsFrom c.args.order inputs c.args.what out out' old new (Err f)) in
    subst P (sym c.refusal_of.ensures)
    (IfTold-weaker a b (λ x z read. tells-refused c.args.order inputs c.args.what out out' board x z read c.in-Err.error c.in-Err.ensures) c.in_ok-board.ensures.told)

pub returns-in-Ok-clause-told : goal.returns-in-Ok-clause-told
returns-in-Ok-clause-told g c =
    let a = g.F.Files.told c.args.files.now in
    let b = g.F.Files.told c.read_board.new.files in
    let out = g.O.Out.sink c.args.out.now in
    let out' = g.O.Out.sink c.endings_of_sources.new.out in
    let board = c.in_ok-board.board in
    IfTold-weaker a b (λ x z read. tells-found c.args.order (inputs_shown c.args.inputs) c.args.what out out' board x z read c.in-Ok.ensures) c.in_ok-board.ensures.told

pub returns-in-Ok-clause-output : goal.returns-in-Ok-clause-output
returns-in-Ok-clause-output g c =
    let what = c.args.what in
    told-sound (given_by c.args.order (copies c.in_ok-board.board.images) (list_of c.in_ok-board.board) c.args.inputs.taking (script_of c.in_ok-board.board) (all_asked what)) what.flow what.states (bytes_allowed what) (g.O.Out.sink c.args.out.now) (g.O.Out.sink c.endings_of_sources.new.out) c.in-Ok.ensures

pub returns-in-Err-clause-output : goal.returns-in-Err-clause-output
returns-in-Err-clause-output g c =
    let what = c.args.what in
    let out = g.O.Out.sink c.args.out.now in
    let out' = g.O.Out.sink c.endings_of_sources.new.out in
    let P : ProgramFault → Type 0 = λ f. LeavesOutput (Err f) out out' in
    subst P (sym c.refusal_of.ensures)
    (leaves-refused (given_by c.args.order (copies c.in_ok-board.board.images) (list_of c.in_ok-board.board) c.args.inputs.taking (script_of c.in_ok-board.board) (all_asked what)) what out out' c.in-Err.error c.in-Err.ensures)
