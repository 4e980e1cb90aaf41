use Rattle.device_list.proofs.FileLemmas.{files_change_nothing}
use Rattle.device_list.proofs.device_laws.files_change_nothing.Goals as goal

pub returns : goal.returns
returns c = files_change_nothing
