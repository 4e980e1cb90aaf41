use Rattle.std.proofs.Common.{ℕ, ◌-◌, List}
use Rattle.output.specs.Sink.{Wrote}
use Rattle.tool_images.proofs.fault_line.write_text.Given as goal

-- some text was written
abbrev pub invariant-loop-from : goal.invariant-loop-from
invariant-loop-from g l = (text : List ℕ) × Wrote (g.O.Out.sink l.initial.out) (g.O.Out.sink l.out) text

abbrev pub decreases-loop-from : goal.decreases-loop-from
decreases-loop-from g l = l.length - l.from
