use Rattle.std.proofs.Common.{sym, ◌∙◌}
use Rattle.rehearse_states.specs.RowsShown.{rows_shown}
use Rattle.rehearse_states.proofs.SumLemmas.{same_many, set_besides}
use Rattle.rehearse_states.proofs.sum_rows.taken.Goals as goal

pub returns-else-keep-clause-leaves : goal.returns-else-keep-clause-leaves
returns-else-keep-clause-leaves c =
    (same_many rows_shown c.args.made.now.items c.args.place _, λ other h. set_besides rows_shown c.args.made.now.items c.args.place _ other (λ e. let f = sym c.if-keep.false ∙ h e in cc))
