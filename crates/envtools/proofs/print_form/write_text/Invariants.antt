use Rattle.std.proofs.Common.{take}
use Rattle.output.specs.Sink.{Wrote}
use Rattle.text.specs.Escapes.{text_form}
use Rattle.envtools.proofs.print_form.write_text.Given as goal

-- the bytes so far were written
abbrev pub invariant-loop-byte : goal.invariant-loop-byte
invariant-loop-byte g l = Wrote (g.O.Out.sink l.fn.out) (g.O.Out.sink l.out) (text_form (take l.byte-index l.bytes))
