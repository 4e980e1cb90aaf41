use Rattle.std.proofs.Common.{Err, Ok, Result, map, subst, sym}
use Rattle.board_start.specs.Boards.{Board, Fault, board_of}
use Rattle.text.specs.TextsShown.{option_bytes}
use Rattle.ubtool.specs.Beginning.{Begins, with_board}
use Rattle.ubtool.specs.declared.rehearsal_error.RehearsalError.{RehearsalError}
use Rattle.ubtool.specs.ListsShown.{list_shown}
use Rattle.ubtool.proofs.BeginningLemmas.{no_board}
use Rattle.ubtool.proofs.beginning.begin_in.Goals as goal

pub returns-in-Ok : goal.returns-in-Ok
returns-in-Ok c =
    subst (λ (b : Result Board Fault). Begins (Ok c.args.env) (with_board b c.args.list.taking c.args.env c.args.name.now (option_bytes c.args.text) (map (λ n. n.now) c.args.names.now)) c.begin_on.result) (sym c.in-Ok.ensures) c.begin_on.ensures

pub returns-in-Err : goal.returns-in-Err
returns-in-Err c =
    subst (λ (e : RehearsalError). Begins (Ok c.args.env) (with_board (board_of (list_shown c.args.list)) c.args.list.taking c.args.env c.args.name.now (option_bytes c.args.text) (map (λ n. n.now) c.args.names.now)) (Err e)) (sym c.into.ensures)
    (no_board (board_of (list_shown c.args.list)) c.args.env c.args.list.taking c.args.name.now (option_bytes c.args.text) (map (λ n. n.now) c.args.names.now) c.in-Err.error c.in-Err.ensures)
