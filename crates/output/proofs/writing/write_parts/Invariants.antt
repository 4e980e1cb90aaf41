use Rattle.std.proofs.Common.{take}
use Rattle.std.specs.List.{flat_map}
use Rattle.output.specs.Sink.{Wrote}
use Rattle.output.proofs.writing.write_parts.Given as goal

-- the parts so far were written
abbrev pub invariant-loop-part : goal.invariant-loop-part
invariant-loop-part g l =
    Wrote (g.O.Out.sink l.initial.out) (g.O.Out.sink l.out) (flat_map (λ part. part.now) (take l.part-index l.parts))
