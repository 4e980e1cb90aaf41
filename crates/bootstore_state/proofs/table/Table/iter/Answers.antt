use Rattle.std.proofs.Common.{◌∙◌, ap, sym}
use Rattle.bootstore_state.specs.Slots.{live}
use Rattle.bootstore_state.proofs.TableLemmas.{entries_live}
use Rattle.bootstore_state.proofs.table.Table.iter.Goals as goal

pub returns : goal.returns
returns c = ap live c.iter.ensures.rest ∙ sym (entries_live c.args.self.now.slots.entries c.iter.ensures.ordered)
