use Rattle.commands.proofs.ComputedLemmas.{read_next}
use Rattle.commands.proofs.hexadecimal.read.Goals as goal

pub loop-byte-preserved : goal.loop-byte-preserved
loop-byte-preserved c =
    read_next c.args.bytes.now c.loop-byte.byte-index c.loop-byte.number c.digit_of-digit.result c.loop-byte-test.true c.digit_of-digit.ensures c.if-digit-ge16.false c.loop-byte.invariant
