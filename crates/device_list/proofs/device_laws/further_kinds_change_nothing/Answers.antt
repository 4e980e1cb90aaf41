use Rattle.device_list.proofs.KindsOfLines.{further_kinds_change_nothing}
use Rattle.device_list.proofs.device_laws.further_kinds_change_nothing.Goals as goal

pub returns : goal.returns
returns c = further_kinds_change_nothing
