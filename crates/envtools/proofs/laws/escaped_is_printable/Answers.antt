use Rattle.envtools.proofs.EntryLaws.{escaped_is_printable}
use Rattle.envtools.proofs.laws.escaped_is_printable.Goals as goal

pub returns : goal.returns
returns c = escaped_is_printable
