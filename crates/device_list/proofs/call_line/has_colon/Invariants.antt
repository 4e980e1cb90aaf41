use Rattle.std.proofs.Common.{◌≡◌, drop, map}
use Rattle.std.specs.List.{list_any}
use Rattle.device_list.specs.CallLines.{is_colon}
use Rattle.device_list.proofs.call_line.has_colon.Given as goal

-- no word so far is one
abbrev pub invariant-loop-word : goal.invariant-loop-word
invariant-loop-word l = list_any is_colon (map (λ w. w.now) l.words) ≡ list_any is_colon (map (λ w. w.now) (drop l.word-index l.words))
