use Rattle.std.proofs.Common.{ap, reverse}
use Rattle.bootstore_trail.proofs.OneInversePerName.{once_nothing}
use Rattle.bootstore_trail.proofs.trail.TrailStore.new.Goals as goal

pub invariant_of-result-clause-once : goal.invariant_of-result-clause-once
invariant_of-result-clause-once c = once_nothing c.new.result _ (ap reverse c.new-2.ensures.items) c.new.ensures.kept.0 c.new.ensures.kept.1
