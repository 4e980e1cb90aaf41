use Rattle.std.proofs.Common.{ap, sym, ◌∙◌}
use Rattle.device_list.specs.Saving.{saves}
use Rattle.device_list.proofs.SavingLemmas.{saves_steady}
use Rattle.device_list.proofs.devices.Devices.saves.Goals as goal

pub returns : goal.returns
returns c = c.saves.ensures ∙ sym (saves_steady c.self.inside.all_steady c.self.inside.tables) ∙ ap saves c.self.view_is
