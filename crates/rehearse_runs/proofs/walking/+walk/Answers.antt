use Rattle.std.proofs.Common.{rules, ◌≡◌, sym, ap, subst, arith, ℕ, length}
use Rattle.rehearse_runs.specs.RunsShown.{outcomes}
use Rattle.rehearse_runs.specs.Searching.{IsCounted}
use Rattle.rehearse_machine.specs.Machine.{HasAsk, IsAsked, outcome_when, stop_of}
use Rattle.rehearse_machine.specs.MovesShown.{request_shown}
use Rattle.rehearse_machine.specs.declared.rehearsal.Stopped.{Stopped}
use Rattle.rehearse_machine.specs.Tasks.{task_in}
use Rattle.rehearse_runs.proofs.SearchLemmas.{asked_here, asked_now, counted_on, expects_for, outcomes_length}
use Rattle.rehearse_runs.proofs.WalkLemmas.{reached_here, no_digit_here, walked_on, empty_when, filled_when}
use Rattle.rehearse_runs.proofs.walking.+walk.Goals as goal

pub returns-in_default : goal.returns-in_default
returns-in_default g t c = record { ok = no_digit_here (task_in c.args.rehearsal.now) (outcomes c.args.digits.now.items) c.args.text.now (filled_when c.args.text.now c.if-is_empty-2.ensures) c.in_default.ensures; kept = tt }

pub returns-then-is_empty : goal.returns-then-is_empty
returns-then-is_empty g t c = record { ok = reached_here (task_in c.args.rehearsal.now) c.args.digits.now.items c.args.text.now (stop_of c.args.stopped) c.in-Ends.halt (g.S.Store.record_of c.args.store.now) (ap stop_of c.in-Ends.is) c.requires.stopped c.requires.marks c.requires.within (empty_when c.args.text.now c.if-is_empty.ensures); kept = c.requires.kept }

pub choose-requires : goal.choose-requires
choose-requires g t c =
    let task = task_in c.args.rehearsal.now in
    let digits = c.args.digits.now.items in
    let r = g.S.Store.record_of c.args.store.now in
    let asks = asked_here task digits (stop_of c.args.stopped) r.present (ap stop_of c.in-Asks.is) c.requires.stopped in
    let this : IsAsked task.limits (request_shown c.in-Asks.ask) r.present = subst (λ (x : Stopped). HasAsk task.limits x r.present) c.in-Asks.is c.requires.command in
    let expects = expects_for task.failures task.limits r.present (request_shown c.in-Asks.ask) c.in_ok-expected-in-Asks.expected this c.in_ok-expected-in-Asks.ensures in
    let u = c.requires.begun in
    (search rules, (asks, (this, (expects, (c.requires.count, (c.requires.marks, (c.requires.kept, (omega arith, c.requires.bound))))))))

pub returns-in_ok-next-in-Asks : goal.returns-in_ok-next-in-Asks
returns-in_ok-next-in-Asks g t c =
    let task = task_in c.args.rehearsal.now in
    let r = g.S.Store.record_of c.args.store.now in
    let b = c.in_ok-next-in-Asks.ensures.begun in
    record { ok = walked_on c.walk.result task c.args.digits.now.items c.choose.new.digits.items c.args.text.now c.in-Some.behind.now c.walk.new.digits.items (outcome_when c.in-Some.success) r (g.S.Store.record_of c.choose.new.store) (g.S.Store.record_of c.walk.new.store) c.choose.ensures.digits c.in-Some.ensures (omega arith) c.walk.ensures.ok; kept = c.walk.ensures.kept }

pub after-more-requires : goal.after-more-requires
after-more-requires g t c =
    let task = task_in c.args.rehearsal.now in
    let r = g.S.Store.record_of c.args.store.now in
    let a = asked_now task c.args.digits.now.items r.present (asked_here task c.args.digits.now.items (stop_of c.args.stopped) r.present (ap stop_of c.in-Asks.is) c.requires.stopped) in
    let few = c.requires.count.0 in
    let long = outcomes_length c.args.digits.now.items in
    let room = a.room in
    let small = c.devices-bound.type_inv in
    let same : c.devices-bound.result ≡ task.limits.device_bound = c.devices-bound.ensures.devices in
    omega (arith, few, long, room, small, same)

pub walk-requires : goal.walk-requires
walk-requires g t c =
    let task = task_in c.args.rehearsal.now in
    let digits = c.args.digits.now.items in
    let r = g.S.Store.record_of c.args.store.now in
    let this : IsAsked task.limits (request_shown c.in-Asks.ask) r.present = subst (λ (x : Stopped). HasAsk task.limits x r.present) c.in-Asks.is c.requires.command in
    let expects = expects_for task.failures task.limits r.present (request_shown c.in-Asks.ask) c.in_ok-expected-in-Asks.expected this c.in_ok-expected-in-Asks.ensures in
    let stopped = asked_here task digits (stop_of c.args.stopped) r.present (ap stop_of c.in-Asks.is) c.requires.stopped in
    let made = c.in_ok-next-in-Asks.ensures in
    let b = made.begun in
    let grows = made.grows in
    let w = made.within in
    let u = c.requires.begun in
    let count = subst (λ (n : ℕ). IsCounted task (outcomes c.choose.new.digits.items) n) (sym c.after-more.ensures) (counted_on task digits c.choose.new.digits.items r.present c.in_ok-expected-in-Asks.expected c.in-Some.success c.args.count stopped expects c.requires.count c.choose.ensures.digits) in
    let l = ap length c.in-Some.ensures in
    λ κs h. (omega (arith, c.decreases, l), (h, (search rules, (search rules, (count, (made.stopped, (made.command, (made.marks, (made.kept, (w, (omega arith, c.requires.bound)))))))))))
