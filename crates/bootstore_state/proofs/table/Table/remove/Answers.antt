use Rattle.bootstore_state.proofs.TableLemmas.{removed, removed_slots, removed_kept}
use Rattle.bootstore_state.proofs.table.Table.remove.Goals as goal

pub returns-clause-removed : goal.returns-clause-removed
returns-clause-removed c = removed c.args.self.now.slots.entries _ c.args.name.now c.remove.ensures.entries c.remove.ensures.updates.1

pub returns-clause-places : goal.returns-clause-places
returns-clause-places c = removed_slots c.args.self.now.slots.entries _ c.args.name.now c.remove.ensures.entries c.remove.ensures.updates.1

pub returns-clause-kept : goal.returns-clause-kept
returns-clause-kept c = removed_kept c.args.self.now.slots.entries _ c.args.name.now c.remove.ensures.entries c.remove.ensures.updates.1
