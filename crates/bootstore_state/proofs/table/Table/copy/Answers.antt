use Rattle.bootstore_state.proofs.TableLemmas.{clone_slots, clone_text}
use Rattle.bootstore_state.proofs.table.Table.copy.Goals as goal

pub returns : goal.returns
returns c =
    clone_slots _ _ (λ v w h. clone_text v w h.0) (λ o p h. h)
    c.args.self.now.slots.entries c.in_ok-clone.field-0.entries c.in_ok-clone.ensures.cases
