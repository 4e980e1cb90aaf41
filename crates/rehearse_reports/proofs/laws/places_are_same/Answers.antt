use Rattle.rehearse_reports.proofs.AskedSame.{places_are_same}
use Rattle.rehearse_reports.proofs.laws.places_are_same.Goals as goal

pub returns : goal.returns
returns c = places_are_same
