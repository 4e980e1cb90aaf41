use Rattle.envimage.specs.Data.{pairs_of}
use Rattle.envimage.specs.Entries.{pairs_left}
use Rattle.envtools.proofs.PrintLemmas.{WroteUpTo}
use Rattle.envtools.proofs.print.print_in_order.Given as goal

-- the variables so far were written
abbrev pub invariant-loop-name : goal.invariant-loop-name
invariant-loop-name g l = WroteUpTo l.form (g.O.Out.sink l.fn.out) (g.O.Out.sink l.out) (pairs_of l.body) (pairs_left l.name-iterator)
