use Rattle.std.proofs.Common.{◌≡◌, ◌∙◌, ap, refl, sym, subst, string_bytes, Bool, Err, Ok, Result, Some}
use Rattle.std.proofs.lemmas.Result.{err_from_is_err_and}
use Rattle.board_files.specs.BoardFiles.{ReadsBoard}
use Rattle.hushcheck_program.specs.declared.fault.CheckFault.{CheckFault}
use Rattle.hushcheck_program.specs.declared.fault.CheckFault.TheVariants.{Shared}
use Rattle.tool_files.specs.Told.{IfTold}
use Rattle.tool_steps.proofs.SourceLemmas.{IfTold-weaker}
use Rattle.tool_words.specs.Asked.{InputsShown}
use Rattle.hushcheck_program.specs.Asked.{Asked, asked_by}
use Rattle.hushcheck_program.specs.Checking.{ChecksFrom}
use Rattle.hushcheck_program.proofs.CheckLemmas.{checks-listed, checks-listless}
use Rattle.hushcheck_program.proofs.texts.check_listed.Goals as goal

pub returns-in_err-board-clause-told : goal.returns-in_err-board-clause-told
returns-in_err-board-clause-told g c =
    let a = g.F.Files.told c.args.files.now in
    let b = g.F.Files.told c.read_board.new.files in
    let out = g.O.Out.sink c.args.out.now in
    let asked : Asked = asked_by c.args.origin (Some c.args.list) c.args.what.now c.args.order in
    let fault = c.in_err-board.field-0.0 in
    let p = err_from_is_err_and c.from_residual.result c.from_residual.ensures.1 in
    let answer : c.from_residual.result ≡ Err (Shared fault) = p.1 ∙ ap Err p.2 in
    let P : Result Bool CheckFault → Type 0 = λ r. IfTold a b (λ old new. ChecksFrom asked out out old new r) in
    subst P (sym answer)
    (IfTold-weaker a b (λ x y h. checks-listless asked (string_bytes c.args.list) refl out x y fault c.in_err-board.ensures.fault
    (subst (λ (i : InputsShown). ReadsBoard i x y (Err fault)) (c.in-Ok.ensures c.args.order) h)) c.in_err-board.ensures.told)

pub returns-clause-told : goal.returns-clause-told
returns-clause-told g c =
    let a = g.F.Files.told c.args.files.now in
    let b = g.F.Files.told c.read_board.new.files in
    let out = g.O.Out.sink c.args.out.now in
    let out' = g.O.Out.sink c.check_board.new.out in
    let asked : Asked = asked_by c.args.origin (Some c.args.list) c.args.what.now c.args.order in
    let board = c.in_ok-board.board in
    IfTold-weaker a b (λ x z h. checks-listed asked (string_bytes c.args.list) refl out out' board x z
    (subst (λ (i : InputsShown). ReadsBoard i x z (Ok board)) (c.in-Ok.ensures c.args.order) h) c.check_board.result c.check_board.ensures) c.in_ok-board.ensures.told
