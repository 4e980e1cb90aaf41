use Rattle.std.proofs.Common.{◌∙◌, ap, refl, cond, false}
use Rattle.bootstore_state.specs.Table.{has_slot}
use Rattle.bootstore_state.proofs.TableLemmas.{compares_equal}
use Rattle.bootstore_state.proofs.table.Table.set.Goals as goal

pub returns-else-is_some-clause-gone : goal.returns-else-is_some-clause-gone
returns-else-is_some-clause-gone c = λ none.
    let name = c.args.name.now in
    c.remove.ensures.places name ∙ ap (λ b. cond b false (has_slot c.args.self.now name)) (compares_equal name name refl)
