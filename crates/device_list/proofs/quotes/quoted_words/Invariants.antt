use Rattle.std.proofs.Common.{◌≡◌, ◌-◌, ◌≤◌, ◌++◌, take, drop, map, filter}
use Rattle.device_list.specs.Quotes.{quoted_words, pieces, has_byte}
use Rattle.device_list.proofs.QuoteLemmas.{behind}
use Rattle.device_list.proofs.quotes.quoted_words.Given as goal

-- the words so far, the bytes after them, and then those left
abbrev pub invariant-loop-at : goal.invariant-loop-at
invariant-loop-at l = (quoted_words l.line-2 ≡ map (λ w. w.now) l.words.items ++ filter has_byte (behind (take (l.at - l.start) (drop l.start l.line)) (pieces l.quoted (drop l.at l.line)))) × (l.start ≤ l.at)
