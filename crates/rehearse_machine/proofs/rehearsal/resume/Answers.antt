use Rattle.std.proofs.Common.{◌∷◌, arith}
use Rattle.rehearse_machine.specs.Tasks.{task_in}
use Rattle.rehearse_machine.specs.Machine.{asked_at, outcome_when, stop_of}
use Rattle.rehearse_machine.specs.Turning.{to_come}
use Rattle.rehearse_machine.proofs.Limits.{steps_within}
use Rattle.rehearse_machine.proofs.StoppingLemmas.{all_stop_as, marks_on, begun_on, grows_on}
use Rattle.rehearse_machine.proofs.rehearsal.resume.Goals as goal

pub go_on-requires-clause-sound : goal.go_on-requires-clause-sound
go_on-requires-clause-sound g c = let taken = rw c.in-Going.is at c.in_ok-give_outcome.ensures in taken.sound

pub go_on-requires-clause-begun : goal.go_on-requires-clause-begun
go_on-requires-clause-begun g c =
    let same = c.in_ok-give_outcome.ensures.begun in
    let bound = steps_within c.args.rehearsal.now.bounds c.steps-bound.ensures.within in
    let room = c.requires.begun in
    omega arith

pub unreachable-requires : goal.unreachable-requires
unreachable-requires g c = let taken = rw c.in-Asks.is at c.in_ok-give_outcome.ensures in taken.asks_none

pub returns-in-Going-clause-stops : goal.returns-in-Going-clause-stops
returns-in-Going-clause-stops g c =
    let limits = (task_in c.args.rehearsal.now).limits in
    let old = g.S.Store.record_of c.args.store.now in
    let new = g.S.Store.record_of c.give_outcome.new.store in
    let taken = rw c.in-Going.is at c.in_ok-give_outcome.ensures in
    all_stop_as stop_of c.go_on.result limits (to_come limits new.present) (λ w. asked_at limits old.present (outcome_when c.args.success ∷ w)) (g.S.Store.record_of c.go_on.new.store) taken.comes c.go_on.ensures.stops

pub returns-in-Going-clause-marks : goal.returns-in-Going-clause-marks
returns-in-Going-clause-marks g c =
    marks_on c.go_on.result (g.S.Store.record_of c.args.store.now) (g.S.Store.record_of c.give_outcome.new.store) (g.S.Store.record_of c.go_on.new.store) c.in_ok-give_outcome.ensures.marked c.go_on.ensures.kept

pub returns-in-Going-clause-begun : goal.returns-in-Going-clause-begun
returns-in-Going-clause-begun g c =
    let taken = c.in_ok-give_outcome.ensures in
    begun_on c.go_on.result (g.S.Store.record_of c.args.store.now) (g.S.Store.record_of c.give_outcome.new.store) (g.S.Store.record_of c.go_on.new.store) taken.begun taken.steps c.go_on.ensures.kept

pub returns-in-Going-clause-grows : goal.returns-in-Going-clause-grows
returns-in-Going-clause-grows g c =
    grows_on c.go_on.result (g.S.Store.record_of c.args.store.now) (g.S.Store.record_of c.give_outcome.new.store) (g.S.Store.record_of c.go_on.new.store) c.in_ok-give_outcome.ensures.steps c.go_on.ensures.grows

pub returns-in-Ends-clause-stops : goal.returns-in-Ends-clause-stops
returns-in-Ends-clause-stops g c = let taken = rw c.in-Ends.is at c.in_ok-give_outcome.ensures in taken.comes

pub returns-in-Ends-clause-within : goal.returns-in-Ends-clause-within
returns-in-Ends-clause-within g c =
    let within = c.in_ok-give_outcome.ensures.within in
    let bound = steps_within c.args.rehearsal.now.bounds c.steps-bound.ensures.within in
    omega arith
