use Rattle.std.proofs.Common.{◌≡◌, [], take}
use Rattle.std.specs.List.{fold}
use Rattle.hushcheck.specs.Remarks.{all_found}
use Rattle.hushcheck.specs.Unset.{after_read}
use Rattle.hushcheck.proofs.unset.search.Given as goal

-- what is found of the variables so far
abbrev pub invariant-loop-read : goal.invariant-loop-read
invariant-loop-read l = record { known = l.known; found = all_found l.found.items } ≡ fold (λ s r. after_read s (r.at, r.name.items)) (record { known = l.fn.known; found = [] }) (take l.read-index l.reads)
