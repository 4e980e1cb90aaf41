use Rattle.std.proofs.Common.{◌≡◌, ◌∙◌, ◌&&◌, ◌++◌, ◌∷◌, [], ap, Bool, false, ℕ, arith, reverse}
use Rattle.rehearse_terms.specs.Outcomes.{Failure}
use Rattle.rehearse_rules.specs.Runs.{is_at_most, is_allowed}
use Rattle.rehearse_machine.specs.Machine.{stop_of}
use Rattle.rehearse_machine.specs.MovesShown.{request_shown}
use Rattle.rehearse_machine.specs.Tasks.{task_in}
use Rattle.rehearse_runs.specs.RunsShown.{outcomes}
use Rattle.rehearse_runs.specs.Searching.{requests}
use Rattle.rehearse_runs.proofs.SearchLemmas.{asked_marked, asked_now, kept_on, kept_same, allowed_there, goes_on, marks_go_on, outcomes_length}
use Rattle.rehearse_runs.proofs.searching.choose.Goals as goal

pub after-lost-requires : goal.after-lost-requires
after-lost-requires g c =
    let task = task_in c.args.rehearsal.now in
    let a = asked_now task c.args.digits.now.items (g.S.Store.record_of c.args.store.now).present c.requires.asks in
    let few = c.requires.count.0 in
    let long = outcomes_length c.args.digits.now.items in
    let room = a.room in
    let small = c.devices-bound.type_inv in
    let same : c.devices-bound.result ≡ task.limits.device_bound = c.devices-bound.ensures.devices in
    omega (arith, few, long, room, small, same)

pub push-requires : goal.push-requires
push-requires g c =
    let a = asked_now (task_in c.args.rehearsal.now) c.args.digits.now.items (g.S.Store.record_of c.args.store.now).present c.requires.asks in
    let room = a.room in
    let bound = c.requires.bound in
    omega arith

pub resume-requires-clause-this : goal.resume-requires-clause-this
resume-requires-clause-this g c = asked_marked c.may_turn-may.result (task_in c.args.rehearsal.now).limits (request_shown c.args.ask) (g.S.Store.record_of c.args.store.now) (g.S.Store.record_of c.mark_if.new.store) c.in_ok-mark_if.ensures.marks c.requires.this

pub returns-clause-stopped : goal.returns-clause-stopped
returns-clause-stopped g c =
    let task = task_in c.args.rehearsal.now in
    let digits = c.args.digits.now.items in
    let r = g.S.Store.record_of c.args.store.now in
    let m = g.S.Store.record_of c.mark_if.new.store in
    let n = g.S.Store.record_of c.resume.new.store in
    let pushed = c.push.ensures ∙ ap (λ (b : ℕ). digits ++ b ∷ []) c.digit_of.ensures in
    goes_on c.may_turn-may.result c.args.success task digits c.push.new.self.items (stop_of c.in_ok-next.next) r m n c.requires.asks c.in_ok-mark_if.ensures.marks pushed c.in_ok-next.ensures.stops

pub returns-clause-marks : goal.returns-clause-marks
returns-clause-marks g c =
    let task = task_in c.args.rehearsal.now in
    let digits = c.args.digits.now.items in
    let r = g.S.Store.record_of c.args.store.now in
    let m = g.S.Store.record_of c.mark_if.new.store in
    let n = g.S.Store.record_of c.resume.new.store in
    let pushed = c.push.ensures ∙ ap (λ (b : ℕ). digits ++ b ∷ []) c.digit_of.ensures in
    let lost : is_at_most c.failures.result c.after-lost.result ≡ is_allowed task (outcomes digits ++ Failure ∷ []) =
    (λ i. is_at_most c.failures.result (c.after-lost.ensures i)) ∙ allowed_there task digits r.present c.args.expected false c.args.count c.failures.result c.requires.asks c.requires.expects c.requires.count c.failures.ensures in
    marks_go_on c.may_turn-may.result c.args.success task digits c.push.new.self.items r m n c.requires.asks (c.may_turn-may.ensures ∙ ap (λ (b : Bool). c.args.success && b) lost) c.in_ok-mark_if.ensures.marks pushed c.in_ok-next.ensures.marks c.requires.marks

pub returns-clause-kept : goal.returns-clause-kept
returns-clause-kept g c =
    let limits = (task_in c.args.rehearsal.now).limits in
    let r = g.S.Store.record_of c.args.store.now in
    let m = g.S.Store.record_of c.mark_if.new.store in
    kept_same limits (reverse (requests c.mark_if.new.asks.items)) m.marked (g.S.Store.record_of c.resume.new.store).marked c.in_ok-next.ensures.marks
    (kept_on c.may_turn-may.result limits (request_shown c.args.ask) (requests c.args.asks.now.items) (requests c.mark_if.new.asks.items) r m c.requires.this c.in_ok-mark_if.ensures.keeps c.in_ok-mark_if.ensures.marks c.requires.kept)
