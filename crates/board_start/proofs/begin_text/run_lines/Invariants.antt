use Rattle.std.proofs.Common.{◌≡◌, ◌++◌, drop}
use Rattle.commands.specs.TextsShown.{texts}
use Rattle.board_start.specs.Start.{first_texts, run_lines}
use Rattle.board_start.proofs.begin_text.run_lines.Given as goal

-- the lines so far, and then those of the names left
abbrev pub invariant-loop-name : goal.invariant-loop-name
invariant-loop-name l = run_lines (first_texts l.env (texts l.names)) ≡ l.text.items ++ run_lines (first_texts l.env (texts (drop l.name-index l.names)))
