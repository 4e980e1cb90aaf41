use Rattle.std.proofs.Common.{subst}
use Rattle.board_start.specs.Boards.{board_of}
use Rattle.board_start.specs.StartAnswers.{IsBoard}
use Rattle.device_list.specs.CallLines.{Files}
use Rattle.ubtool.proofs.beginning.board_of.Goals as goal

pub returns : goal.returns
returns c =
    subst (λ (files : Files). IsBoard (board_of (record { text = c.args.list.now.text.now; files = files })) c.parse.result) c.in-Ok.ensures c.parse.ensures
