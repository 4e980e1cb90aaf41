use Rattle.std.proofs.Common.{◌∙◌, ap}
use Rattle.envtools.specs.Drafting.{place_in}
use Rattle.envtools.proofs.DraftLemmas.{found-same}
use Rattle.envtools.proofs.draft.place_of.Goals as goal

pub returns-in-None : goal.returns-in-None
returns-in-None c = ap place_in (c.in-None.ensures.value ∙ found-same c.args.places.now.entries c.args.name.now)

pub returns-in-Some : goal.returns-in-Some
returns-in-Some c = ap place_in (c.in-Some.ensures.value ∙ found-same c.args.places.now.entries c.args.name.now)
