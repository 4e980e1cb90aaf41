use Rattle.rehearse_endings.proofs.SizeLemmas.{left_by}
use Rattle.rehearse_endings.proofs.held.behind.Goals as goal

pub returns : goal.returns
returns c = left_by c.args.room c.args.bytes c.checked_sub.result c.checked_sub.ensures
