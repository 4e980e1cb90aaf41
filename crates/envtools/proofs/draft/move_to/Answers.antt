use Rattle.std.proofs.Common.{ap, ◌∙◌}
use Rattle.envtools.specs.Drafting.{place_of}
use Rattle.envtools.proofs.DraftLemmas.{place_of-insert}
use Rattle.envtools.proofs.draft.move_to.Goals as goal

pub returns-clause-ok : goal.returns-clause-ok
returns-clause-ok c = λ other.
    ap (λ es. place_of es other) c.in_ok-insert.ensures.entries
    ∙ place_of-insert c.args.places.now.entries c.args.name c.args.place other
