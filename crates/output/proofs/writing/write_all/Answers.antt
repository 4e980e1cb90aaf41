use Rattle.std.proofs.Common.{◌++◌, take, length, refl}
use Rattle.output.proofs.SinkLemmas.{Wrote-append, Wrote-write, rest_after}
use Rattle.output.proofs.writing.write_all.Goals as goal

pub loop-rest-preserved : goal.loop-rest-preserved
loop-rest-preserved g c =
    let before = c.loop-rest.invariant in
    let n = c.in_ok-taken.taken in
    let rest = c.loop-rest.rest.now in (
      before.0 ++ take n rest,
      rest_after c.args.bytes.now before.0 rest n (length rest) before.1 refl,
      Wrote-append before.2 (Wrote-write n rest c.if-taken-eq0.false c.in_ok-taken.ensures.taken c.in_ok-taken.ensures.failures),
    )
