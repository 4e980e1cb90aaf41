use Rattle.std.proofs.Common.{◌≡◌, drop, map}
use Rattle.device_list.specs.CallLines.{clauses_of, no_clause}
use Rattle.device_list.specs.CommandsShown.{clauses_shown, files_shown}
use Rattle.device_list.proofs.clauses.listed_of.Given as goal

-- the clauses so far, and then those of the words left
abbrev pub invariant-loop-word : goal.invariant-loop-word
invariant-loop-word l = clauses_of (files_shown l.files.entries) no_clause (map (λ w. w.now) l.words)
    ≡ clauses_of (files_shown l.files.entries) (clauses_shown l.clauses) (map (λ w. w.now) (drop l.word-index l.words))
