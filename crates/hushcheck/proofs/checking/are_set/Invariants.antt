use Rattle.std.proofs.Common.{◌≡◌, map, drop}
use Rattle.envtools.specs.Printing.{all_found}
use Rattle.hushcheck.proofs.checking.are_set.Given as goal

-- the names that are left decide
abbrev pub invariant-loop-name : goal.invariant-loop-name
invariant-loop-name l = all_found l.env (map (λ name. name.now) l.names) ≡ all_found l.env (map (λ name. name.now) (drop l.name-index l.names))
