use Rattle.rehearse_states.proofs.SumLemmas.{used_still}
use Rattle.rehearse_states.proofs.sum_rows.note_use.Goals as goal

pub returns-then-place-len-clause-kept : goal.returns-then-place-len-clause-kept
returns-then-place-len-clause-kept c other before l h = used_still c.args.last.now.items c.args.place c.args.at other before l h
