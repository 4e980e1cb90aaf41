use Rattle.std.proofs.Common.{◌≡◌, ◌++◌, List, map}
use Rattle.hushcheck.specs.CallSetsShown.{names_shown}
use Rattle.hushcheck.specs.Changed.{changed_after, changed_by}
use Rattle.hushcheck.specs.Names.{run_by_found}
use Rattle.hushcheck.specs.Order.{Turn}
use Rattle.hushcheck.proofs.CheckLemmas.{Stands, room}
use Rattle.hushcheck.proofs.changed.Changes.add_reached.Given as goal

-- what is in the queue, and what the turns so far changed
abbrev pub invariant-turns : goal.invariant-turns
invariant-turns l =
    (turns : List Turn) × Stands l.rules l.env (map (λ name. name.now) l.asked ++ run_by_found l.fn.script) (names_shown l.called) l.queue turns
    × (l.self ≡ changed_after l.fn.self (map (changed_by l.rules l.env) turns))

-- the names that may still come, and those that wait for their turns
abbrev pub decreases-turns : goal.decreases-turns
decreases-turns l = room l.rules l.env l.queue
