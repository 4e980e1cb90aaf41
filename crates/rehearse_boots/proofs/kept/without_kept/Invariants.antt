use Rattle.std.proofs.Common.{◌≡◌, [], map, take}
use Rattle.envimage.specs.Entries.{pair_at}
use Rattle.rehearse_boots.proofs.kept.without_kept.Given as goal

-- a change for each name so far
abbrev pub invariant-loop-name : goal.invariant-loop-name
invariant-loop-name l = map pair_at l.changes.items ≡ map (λ name. (name, [])) (map (λ n. n.now) (take l.name-index l.names))
