use Rattle.std.proofs.Common.{take}
use Rattle.std.specs.List.{flat_map}
use Rattle.output.specs.Sink.{Wrote}
use Rattle.text.specs.Escapes.{word_escaped}
use Rattle.envtools.proofs.print_form.write_word.Given as goal

-- the bytes so far were written
abbrev pub invariant-loop-byte : goal.invariant-loop-byte
invariant-loop-byte g l = Wrote (g.O.Out.sink l.fn.out) (g.O.Out.sink l.out) (flat_map word_escaped (take l.byte-index l.bytes))
