use Rattle.std.proofs.Common.{ap, reverse}
use Rattle.bootstore_trail.proofs.OneInversePerName.{once_nothing}
use Rattle.bootstore_trail.proofs.trail.TrailStore.start.Goals as goal

pub invariant_of-self-clause-once : goal.invariant_of-self-clause-once
invariant_of-self-clause-once c = once_nothing c.in_ok-present.present _ (ap reverse c.clear.ensures.items) c.in_ok-present.ensures.kept.0 c.in_ok-present.ensures.kept.1
