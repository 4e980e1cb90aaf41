-- What a rehearsal starts with, and a board, seen as the definitions have them.
use Rattle.std.specs.Prelude.{option_map}
use Rattle.board_start.specs.Start as says
use Rattle.board_start.specs.Boards as boards
use Rattle.board_start.specs.declared.start.Begun.{Begun}
use Rattle.board_start.specs.declared.board.Board.{Board}

abbrev pub begun_shown : Begun → says.Begun
begun_shown b = record { environment = b.env; saves = b.saves; text = option_map (λ v. v.items) b.text }

abbrev pub board_shown : Board → boards.Board
board_shown b = record { start = b.start; devices = b.devices }
