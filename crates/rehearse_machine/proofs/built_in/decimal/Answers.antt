use Rattle.std.proofs.Common.{sym, ◌∙◌, arith, ◌<◌, ◌+◌, ◌*◌, ◌-◌, get_or}
use Rattle.rehearse_machine.proofs.CommandMoves.{too_much}
use Rattle.rehearse_machine.proofs.built_in.decimal.Goals as goal

pub returns-then-number-gt255 : goal.returns-then-number-gt255
returns-then-number-gt255 c =
    let e = c.from.ensures in
    let k = c.if-number-gt255.true in
    let h : 255 < c.loop-byte.number * 10 + (get_or c.args.word.now c.loop-byte.byte-index 0 - 48) = omega arith in
    sym (sym c.loop-byte.invariant.same ∙ too_much c.loop-byte.number c.args.word.now c.loop-byte.byte-index c.loop-byte-test.true h)
