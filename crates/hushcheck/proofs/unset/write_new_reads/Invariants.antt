use Rattle.std.proofs.Common.{drop}
use Rattle.output.specs.Sink.{Wrote}
use Rattle.hushcheck.specs.Names.{Text}
use Rattle.hushcheck.specs.UsedShown.{all_used}
use Rattle.hushcheck.proofs.UnsetLemmas.{IsSo}
use Rattle.hushcheck.proofs.unset.write_new_reads.Given as goal

-- the lines of the texts so far were written
abbrev pub invariant-loop-text : goal.invariant-loop-text
invariant-loop-text g l =
    (told : Text) × IsSo l.fn.known (all_used l.used) told l.any l.known (all_used (drop l.text-index l.used))
    × Wrote (g.O.Out.sink l.fn.out) (g.O.Out.sink l.out) told
