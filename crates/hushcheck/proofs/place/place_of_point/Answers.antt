use Rattle.std.proofs.Common.{refl}
use Rattle.hushcheck.proofs.PlaceLemmas.{place_is}
use Rattle.hushcheck.proofs.place.place_of_point.Goals as goal

pub returns : goal.returns
returns c = place_is c.args.text.now c.args.point c.requires _ refl
