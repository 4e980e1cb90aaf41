use Rattle.std.proofs.Common.{◌≡◌, ◌+◌, drop, map}
use Rattle.device_list.specs.CallLines.{colon_place}
use Rattle.device_list.proofs.call_line.colon_place.Given as goal

-- no word so far is one
abbrev pub invariant-loop-word : goal.invariant-loop-word
invariant-loop-word l = (colon_place (map (λ w. w.now) l.words) ≡ l.at + colon_place (map (λ w. w.now) (drop l.word-index l.words))) × (l.at ≡ l.word-index)
