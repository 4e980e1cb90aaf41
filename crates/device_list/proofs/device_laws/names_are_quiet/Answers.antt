use Rattle.device_list.proofs.QuietNames.{names_are_quiet}
use Rattle.device_list.proofs.device_laws.names_are_quiet.Goals as goal

pub returns : goal.returns
returns c = names_are_quiet
