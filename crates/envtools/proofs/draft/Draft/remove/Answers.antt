use Rattle.std.proofs.Common.{ap, ◌∙◌, map}
use Rattle.envimage.specs.Entries.{pair_at}
use Rattle.envtools.specs.Environment.{dropped}
use Rattle.envtools.specs.Drafting.{place_of}
use Rattle.envtools.proofs.DraftLemmas.{held-removed, IsDraft-removed}
use Rattle.envtools.proofs.draft.Draft.remove.Goals as goal

pub returns-clause-ok : goal.returns-clause-ok
returns-clause-ok c =
    held-removed (place_of c.self.inside.places.entries) (place_of c.move_to.new.places.entries) (map pair_at c.self.inside.written.items) c.args.name.now c.in_ok-move_to.ensures.ok
    ∙ ap (λ ps. dropped ps c.args.name.now) c.self.view_is

pub invariant_of-self-2 : goal.invariant_of-self-2
invariant_of-self-2 c =
    IsDraft-removed (place_of c.self.inside.places.entries) (place_of c.move_to.new.places.entries) (map pair_at c.self.inside.written.items) c.args.name.now c.in_ok-move_to.ensures.ok c.self.invariant
