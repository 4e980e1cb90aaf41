use Rattle.std.proofs.Common.{arith}
use Rattle.std.proofs.lemmas.List.{nil_from_length}
use Rattle.rehearse_records.proofs.record.put_saved.Goals as goal

pub returns-in-empty : goal.returns-in-empty
returns-in-empty g c =
    let below = c.in-empty.len_below in
    rw (nil_from_length c.args.copy.now (omega (arith, below))) c.put_word_line.ensures
