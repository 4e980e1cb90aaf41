use Rattle.std.proofs.Common.{◌∙◌}
use Rattle.std.proofs.lemmas.Result.{err_from_is_err_and}
use Rattle.text.specs.Escapes.{word_escaped}
use Rattle.output.proofs.SinkLemmas.{BrokeOff-item}
use Rattle.envtools.proofs.EntryLemmas.{broke_in_word}
use Rattle.envtools.proofs.print_form.write_word.Goals as goal

pub returns-in_err-write_all : goal.returns-in_err-write_all
returns-in_err-write_all g c =
    let p = err_from_is_err_and c.from_residual.result c.from_residual.ensures.1 in
    let shown = c.as_slice.ensures ∙ c.in_word.ensures in
    let at = c.loop-byte.byte-index in
    rw p.1 (broke_in_word c.args.bytes.now at c.loop-byte-test.true (BrokeOff-item word_escaped c.args.bytes.now at 0 c.loop-byte-test.true c.loop-byte.invariant (rw shown at c.in_err-write_all.ensures)))
