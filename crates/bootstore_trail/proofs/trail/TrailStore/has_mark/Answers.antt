use Rattle.std.proofs.Common.{not, ap, ◌∙◌}
use Rattle.bootstore_state.specs.Present.{moment_of}
use Rattle.bootstore_trail.proofs.TrailLemmas.{marked_if_kept}
use Rattle.bootstore_trail.proofs.trail.TrailStore.has_mark.Goals as goal

pub returns : goal.returns
returns c =
    let now = c.args.self.now in
    ap not c.is_empty.ensures ∙ marked_if_kept (moment_of now.present) now.kept now.can.leads.rooted
