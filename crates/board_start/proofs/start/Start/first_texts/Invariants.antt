use Rattle.std.proofs.Common.{◌≡◌, ◌++◌, drop, map}
use Rattle.commands.specs.TextsShown.{texts}
use Rattle.board_start.specs.Start.{first_texts}
use Rattle.board_start.proofs.start.Start.first_texts.Given as goal

-- the names so far, and those of the names that are left
abbrev pub invariant-loop-name : goal.invariant-loop-name
invariant-loop-name l = first_texts l.env l.self.before ≡ map (λ n. n.now) l.names.items ++ first_texts l.env (texts (drop l.name-index l.name-items))
