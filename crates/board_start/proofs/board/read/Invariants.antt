use Rattle.std.proofs.Common.{◌≡◌, ◌++◌}
use Rattle.std.specs.List.{flat_map}
use Rattle.text.specs.Lines.{lines_left}
use Rattle.board_start.specs.StartLines.{line_left, without_start}
use Rattle.board_start.specs.Start.{start_of, started_by}
use Rattle.board_start.proofs.board.read.Given as goal

-- the lines so far make this start, and none of them is faulty; what is left of them, and then of those to come
abbrev pub invariant-loop-number : goal.invariant-loop-number
invariant-loop-number l = (start_of l.text ≡ started_by l.start (lines_left l.number-iterator)) × (without_start l.text ≡ l.rest.items ++ flat_map (λ l. line_left l.0 l.1) (lines_left l.number-iterator))
