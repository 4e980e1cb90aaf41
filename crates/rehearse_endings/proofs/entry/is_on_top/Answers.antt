use Rattle.std.proofs.Common.{length, refl}
use Rattle.rehearse_endings.proofs.BelowLemmas.{on_top_there, on_top_told}
use Rattle.rehearse_endings.proofs.entry.is_on_top.Goals as goal

pub returns-in-Some-clause-same : goal.returns-in-Some-clause-same
returns-in-Some-clause-same g c = λ yes. on_top_there (length c.args.frames.now) c.args.frames.now c.in-Some.top.now (g.S.Store.record_of c.args.store.now).present.frames (c.same_frames.ensures.same yes) c.in-Some.ensures.1

pub returns-in-Some-clause-told : goal.returns-in-Some-clause-told
returns-in-Some-clause-told g c = λ h. c.same_frames.ensures.told (on_top_told (length c.args.frames.now) c.args.frames.now c.in-Some.top.now (g.S.Store.record_of c.args.store.now).present.frames refl c.in-Some.ensures.1 h)
