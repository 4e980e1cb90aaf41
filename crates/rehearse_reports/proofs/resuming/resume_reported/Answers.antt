use Rattle.std.proofs.Common.{ℕ, ◌∷◌, arith, length, subst}
use Rattle.rehearse_machine.specs.declared.ask.Step.{Step}
use Rattle.rehearse_machine.specs.Tasks.{task_in}
use Rattle.rehearse_machine.specs.Machine.{asked_at, outcome_when}
use Rattle.rehearse_machine.specs.Turning.{to_come}
use Rattle.rehearse_machine.proofs.Limits.{steps_within}
use Rattle.rehearse_machine.proofs.StoppingLemmas.{all_stop_as, marks_on, begun_on, grows_on}
use Rattle.rehearse_reports.specs.Following.{FollowsOutcomeAbove}
use Rattle.rehearse_reports.specs.ReportsShown.{accesses_shown}
use Rattle.rehearse_reports.proofs.OutcomeLemmas.{all_reported, end_reported}
use Rattle.rehearse_reports.proofs.StepLemmas.{as_long}
use Rattle.rehearse_reports.proofs.resuming.resume_reported.Goals as goal

pub go_on-requires-clause-sound : goal.go_on-requires-clause-sound
go_on-requires-clause-sound g c = let taken = rw c.in-Going.is at c.in_ok-give_outcome.ensures.taken in taken.sound

pub go_on-requires-clause-begun : goal.go_on-requires-clause-begun
go_on-requires-clause-begun g c =
    let same = c.in_ok-give_outcome.ensures.taken.begun in
    let bound = steps_within c.args.rehearsal.now.bounds c.steps-bound.ensures.within in
    let room = c.requires.begun in
    omega arith

pub unreachable-requires : goal.unreachable-requires
unreachable-requires g c = let taken = rw c.in-Asks.is at c.in_ok-give_outcome.ensures.taken in taken.asks_none

pub returns-in-Going-clause-stops : goal.returns-in-Going-clause-stops
returns-in-Going-clause-stops g c =
    let limits = (task_in c.args.rehearsal.now).limits in
    let old = g.S.Store.record_of c.args.store.now in
    let new = g.S.Store.record_of c.give_outcome.new.store in
    let taken = rw c.in-Going.is at c.in_ok-give_outcome.ensures.taken in
    all_stop_as (λ stop. stop) c.go_on.result limits (to_come limits new.present) (λ w. asked_at limits old.present (outcome_when c.args.success ∷ w)) (g.S.Store.record_of c.go_on.new.store) taken.comes c.go_on.ensures.stops

pub returns-in-Going-clause-marks : goal.returns-in-Going-clause-marks
returns-in-Going-clause-marks g c =
    marks_on c.go_on.result (g.S.Store.record_of c.args.store.now) (g.S.Store.record_of c.give_outcome.new.store) (g.S.Store.record_of c.go_on.new.store) c.in_ok-give_outcome.ensures.taken.marked c.go_on.ensures.kept

pub returns-in-Going-clause-begun : goal.returns-in-Going-clause-begun
returns-in-Going-clause-begun g c =
    let taken = c.in_ok-give_outcome.ensures.taken in
    begun_on c.go_on.result (g.S.Store.record_of c.args.store.now) (g.S.Store.record_of c.give_outcome.new.store) (g.S.Store.record_of c.go_on.new.store) taken.begun taken.steps c.go_on.ensures.kept

pub returns-in-Going-clause-grows : goal.returns-in-Going-clause-grows
returns-in-Going-clause-grows g c =
    grows_on c.go_on.result (g.S.Store.record_of c.args.store.now) (g.S.Store.record_of c.give_outcome.new.store) (g.S.Store.record_of c.go_on.new.store) c.in_ok-give_outcome.ensures.taken.steps c.go_on.ensures.grows

pub returns-in-Going-clause-keys : goal.returns-in-Going-clause-keys
returns-in-Going-clause-keys g c =
    let limits = (task_in c.args.rehearsal.now).limits in
    let old = (g.S.Store.record_of c.args.store.now).present in
    let mid = (g.S.Store.record_of c.give_outcome.new.store).present in
    let many = as_long c.frames.result.now old.frames c.frames.ensures in
    all_reported c.go_on.result limits (length c.frames.result.now) c.go_on.new.fewest (outcome_when c.args.success) old mid (g.S.Store.record_of c.go_on.new.store).present (accesses_shown c.args.reported.now) (accesses_shown c.give_outcome.new.reported) (accesses_shown c.go_on.new.reported)
    c.go_on.ensures.fewer c.requires.fresh
    (subst (λ (x : Step). FollowsOutcomeAbove limits (length c.frames.result.now) (outcome_when c.args.success) old x mid (accesses_shown c.args.reported.now) (accesses_shown c.give_outcome.new.reported)) c.in-Going.is
    (subst (λ (n : ℕ). FollowsOutcomeAbove limits n (outcome_when c.args.success) old c.in_ok-give_outcome.field-0 mid (accesses_shown c.args.reported.now) (accesses_shown c.give_outcome.new.reported)) many c.in_ok-give_outcome.ensures.follows))
    c.go_on.ensures.follows

pub returns-in-Ends-clause-stops : goal.returns-in-Ends-clause-stops
returns-in-Ends-clause-stops g c = let taken = rw c.in-Ends.is at c.in_ok-give_outcome.ensures.taken in taken.comes

pub returns-in-Ends-clause-within : goal.returns-in-Ends-clause-within
returns-in-Ends-clause-within g c =
    let within = c.in_ok-give_outcome.ensures.taken.within in
    let bound = steps_within c.args.rehearsal.now.bounds c.steps-bound.ensures.within in
    omega arith

pub returns-in-Ends-clause-keys : goal.returns-in-Ends-clause-keys
returns-in-Ends-clause-keys g c =
    let limits = (task_in c.args.rehearsal.now).limits in
    let old = (g.S.Store.record_of c.args.store.now).present in
    let new = (g.S.Store.record_of c.give_outcome.new.store).present in
    let many = as_long c.frames.result.now old.frames c.frames.ensures in
    end_reported limits (length c.frames.result.now) (outcome_when c.args.success) old new c.in_ok-give_outcome.field-0 c.in-Ends.halt (accesses_shown c.args.reported.now) (accesses_shown c.give_outcome.new.reported) c.requires.fresh c.in-Ends.is
    (subst (λ (n : ℕ). FollowsOutcomeAbove limits n (outcome_when c.args.success) old c.in_ok-give_outcome.field-0 new (accesses_shown c.args.reported.now) (accesses_shown c.give_outcome.new.reported)) many c.in_ok-give_outcome.ensures.follows)
