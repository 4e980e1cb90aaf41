use Rattle.std.proofs.Common.{refl}
use Rattle.rehearse_endings.proofs.IndexLemmas.{noted_same}
use Rattle.rehearse_endings.proofs.table.Table.enter.Goals as goal

pub returns-clause-noted : goal.returns-clause-noted
returns-clause-noted c = noted_same c.args.self.now _ (λ n p h. h) (λ n p h. h) refl refl (λ n h. h)
