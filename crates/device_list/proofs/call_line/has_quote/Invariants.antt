use Rattle.std.proofs.Common.{◌≡◌, drop, map}
use Rattle.std.specs.List.{list_any}
use Rattle.device_list.specs.CallLines.{has_quote}
use Rattle.device_list.specs.Quotes.{is_quote}
use Rattle.device_list.proofs.call_line.has_quote.Given as goal

-- no word so far holds one
abbrev pub invariant-loop-word : goal.invariant-loop-word
invariant-loop-word l = has_quote (map (λ w. w.now) l.words) ≡ list_any (λ word. list_any is_quote word) (map (λ w. w.now) (drop l.word-index l.words))
