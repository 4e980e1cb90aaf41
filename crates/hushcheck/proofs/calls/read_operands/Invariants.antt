use Rattle.std.proofs.Common.{◌≡◌, take}
use Rattle.std.specs.List.{fold}
use Rattle.hushlang.specs.TreesShown as view
use Rattle.hushcheck.specs.Calls.{after_operand}
use Rattle.hushcheck.proofs.calls.read_operands.Given as goal

-- the names so far were read
abbrev pub invariant-loop-word : goal.invariant-loop-word
invariant-loop-word l = l.reading ≡ fold (λ q w. after_operand q (view.word w)) l.fn.reading (take l.word-index l.words)
