-- What reading the start of a board answers.
use Rattle.std.specs.Prelude.{◌≡◌, ℕ, Option, option_map, Result, Ok, Err, Vec}
use Rattle.std.specs.declared.alloc.Global.{Global}
use Rattle.text.specs.Lines.{Text}
use Rattle.board_start.specs.StartLines.{without_start}
use Rattle.board_start.specs.Start.{Start, start_of, Begun as BegunSaid}
use Rattle.board_start.specs.Boards.{Fault, OfStart, OfDevices, Board as BoardSaid}
use Rattle.board_start.specs.BoardShown.{begun_shown, board_shown}
use Rattle.board_start.specs.declared.board_error.BoardError.{BoardError}
use Rattle.board_start.specs.declared.board_error.BoardError.TheVariants as error
use Rattle.board_start.specs.declared.start_error.StartError.{StartError}
use Rattle.board_start.specs.declared.start.Begun.{Begun}
use Rattle.board_start.specs.declared.board.Board.{Board}

-- the start after a line, or its fault
abbrev pub Adds : Result Start StartError → Start → Result (Unit {0}) BoardError → Type 0
Adds after new (Ok u) = after ≡ Ok new
Adds after new (Err (error.Start fault)) = after ≡ Err fault
Adds after new (Err (error.Devices fault)) = ⊥
Adds after new (Err error.Memory) = Unit {0}

-- the start and the other lines of a list, or its fault
abbrev pub IsRead : Text → Result (Start × Vec ℕ Global) BoardError → Type 0
IsRead text (Ok read) = (start_of text ≡ Ok read.0) × (read.1.items ≡ without_start text)
IsRead text (Err (error.Start fault)) = start_of text ≡ Err fault
IsRead text (Err (error.Devices fault)) = ⊥
IsRead text (Err error.Memory) = Unit {0}

-- the start that a list says, or its fault
abbrev pub Starts : Result Start StartError → Result Start BoardError → Type 0
Starts answer (Ok start) = answer ≡ Ok start
Starts answer (Err (error.Start fault)) = answer ≡ Err fault
Starts answer (Err (error.Devices fault)) = ⊥
Starts answer (Err error.Memory) = Unit {0}

-- a text in place of the variable's, or why there is none
abbrev pub Texts : Result (Option Text) StartError → Result (Option (Vec ℕ Global)) BoardError → Type 0
Texts answer (Ok text) = answer ≡ Ok (option_map (λ v. v.items) text)
Texts answer (Err (error.Start fault)) = answer ≡ Err fault
Texts answer (Err (error.Devices fault)) = ⊥
Texts answer (Err error.Memory) = Unit {0}

-- how a rehearsal begins, or why it cannot; memory may run out before that is known
abbrev pub Begins : Result BegunSaid StartError → Result Begun BoardError → Type 0
Begins begun (Ok b) = begun ≡ Ok (begun_shown b)
Begins begun (Err (error.Start fault)) = begun ≡ Err fault
Begins begun (Err (error.Devices fault)) = ⊥
Begins begun (Err error.Memory) = Unit {0}

-- the board of a list, or why there is none; memory may run out before that is known
abbrev pub IsBoard : Result BoardSaid Fault → Result Board BoardError → Type 0
IsBoard board (Ok b) = board ≡ Ok (board_shown b)
IsBoard board (Err (error.Start fault)) = board ≡ Err (OfStart fault)
IsBoard board (Err (error.Devices fault)) = board ≡ Err (OfDevices fault)
IsBoard board (Err error.Memory) = Unit {0}
