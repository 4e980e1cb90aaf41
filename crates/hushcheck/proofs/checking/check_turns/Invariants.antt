use Rattle.std.proofs.Common.{◌++◌, map}
use Rattle.hushcheck.specs.CallSetsShown.{names_shown}
use Rattle.hushcheck.specs.Names.{Text, run_by_found}
use Rattle.output.specs.Sink.{Wrote}
use Rattle.hushcheck.specs.UsedShown.{all_used}
use Rattle.hushcheck.proofs.CheckLemmas.{Standing, room}
use Rattle.hushcheck.proofs.checking.check_turns.Given as goal

-- what is in the queue, and the lines of the turns so far were written
abbrev pub invariant-turns : goal.invariant-turns
invariant-turns g l =
    (told : Text) × Standing l.rules l.env (all_used l.fn.used.items) (map (λ name. name.now) l.asked ++ run_by_found l.fn.script) (names_shown l.called) l.so_far l.queue told l.sound (all_used l.used.items)
    × Wrote (g.O.Out.sink l.fn.out) (g.O.Out.sink l.out) told

-- the names that may still come, and those that wait for their turns
abbrev pub decreases-turns : goal.decreases-turns
decreases-turns g l = room l.rules l.env l.queue
