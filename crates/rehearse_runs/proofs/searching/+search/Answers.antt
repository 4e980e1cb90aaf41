use Rattle.std.proofs.Common.{rules, ◌≡◌, ◌∙◌, ◌++◌, sym, ap, subst, arith, ℕ, ◌+◌, true, [], ◌∷◌, length, length-append}
use Rattle.rehearse_terms.specs.Outcomes.{Success}
use Rattle.rehearse_rules.specs.Listing.{outcome_digit}
use Rattle.rehearse_rules.specs.Runs.{is_at_most, is_allowed}
use Rattle.rehearse_machine.specs.Machine.{HasAsk, IsAsked, outcome_when, stop_of}
use Rattle.rehearse_machine.specs.Tasks.{task_in}
use Rattle.rehearse_machine.specs.MovesShown.{request_shown}
use Rattle.rehearse_machine.specs.declared.rehearsal.Stopped.{Stopped}
use Rattle.rehearse_runs.specs.RunsShown.{outcomes}
use Rattle.rehearse_runs.specs.Searching.{IsCounted}
use Rattle.rehearse_runs.proofs.SearchLemmas.{found_end, all_more, asked_here, asked_now, allowed_there, counted_on, expects_for, first_goes_on, digits_on, outcomes_length}
use Rattle.rehearse_runs.proofs.searching.+search.Goals as goal

pub returns-in-Ends-clause-ok : goal.returns-in-Ends-clause-ok
returns-in-Ends-clause-ok g t c =
    let h = rw c.in-Ends.is at c.requires.stopped in
    found_end (task_in c.args.rehearsal.now) (outcomes c.args.digits.now.items) c.in-Ends.halt (g.S.Store.record_of c.args.store.now) h c.requires.marks c.requires.within

pub after-won-requires : goal.after-won-requires
after-won-requires g t c =
    let task = task_in c.args.rehearsal.now in
    let a = asked_now task c.args.digits.now.items (g.S.Store.record_of c.args.store.now).present (asked_here task c.args.digits.now.items (stop_of c.args.stopped) (g.S.Store.record_of c.args.store.now).present (ap stop_of c.in-Asks.is) c.requires.stopped) in
    let few = (c.requires.count (ap stop_of c.in-Asks.is)).0 in
    let long = outcomes_length c.args.digits.now.items in
    let room = a.room in
    let b = c.requires.bound in
    omega arith

pub after-more-requires : goal.after-more-requires
after-more-requires g t c =
    let task = task_in c.args.rehearsal.now in
    let a = asked_now task c.args.digits.now.items (g.S.Store.record_of c.args.store.now).present (asked_here task c.args.digits.now.items (stop_of c.args.stopped) (g.S.Store.record_of c.args.store.now).present (ap stop_of c.in-Asks.is) c.requires.stopped) in
    let few = (c.requires.count (ap stop_of c.in-Asks.is)).0 in
    let long = outcomes_length c.args.digits.now.items in
    let room = a.room in
    let b = c.requires.bound in
    omega arith

pub choose-requires : goal.choose-requires
choose-requires g t c =
    let task = task_in c.args.rehearsal.now in
    let digits = c.args.digits.now.items in
    let r = g.S.Store.record_of c.args.store.now in
    let asks = asked_here task digits (stop_of c.args.stopped) r.present (ap stop_of c.in-Asks.is) c.requires.stopped in
    let this : IsAsked task.limits (request_shown c.in-Asks.ask) r.present = subst (λ (x : Stopped). HasAsk task.limits x r.present) c.in-Asks.is c.requires.command in
    let expects = expects_for task.failures task.limits r.present (request_shown c.in-Asks.ask) c.in_ok-expected-in-Asks.expected this c.in_ok-expected-in-Asks.ensures in
    let u = c.requires.begun in
    (search rules, (asks, (this, (expects, (c.requires.count (ap stop_of c.in-Asks.is), (c.requires.marks, (c.requires.kept, (omega arith, c.requires.bound))))))))

pub returns-in_ok-next-in-Asks-clause-ok : goal.returns-in_ok-next-in-Asks-clause-ok
returns-in_ok-next-in-Asks-clause-ok g t c =
    let task = task_in c.args.rehearsal.now in
    let r = g.S.Store.record_of c.args.store.now in
    let digits = c.args.digits.now.items in
    let more = c.choose.new.digits.items in
    let stopped = asked_here task digits (stop_of c.args.stopped) r.present (ap stop_of c.in-Asks.is) c.requires.stopped in
    let this : IsAsked task.limits (request_shown c.in-Asks.ask) r.present = subst (λ (x : Stopped). HasAsk task.limits x r.present) c.in-Asks.is c.requires.command in
    let expects = expects_for task.failures task.limits r.present (request_shown c.in-Asks.ask) c.in_ok-expected-in-Asks.expected this c.in_ok-expected-in-Asks.ensures in
    let allowed : c.is_at_most-success.result ≡ is_allowed task (outcomes digits ++ Success ∷ []) =
    c.is_at_most-success.ensures ∙ (λ i. is_at_most (c.failures.result) (c.after-won.ensures i)) ∙ allowed_there task digits r.present c.in_ok-expected-in-Asks.expected true c.args.count c.failures.result stopped expects (c.requires.count (ap stop_of c.in-Asks.is)) c.failures.ensures in
    let b = c.in_ok-next-in-Asks.ensures.begun in
    let l = c.in_ok-next-in-Asks.ensures.grows in
    all_more c.search.result task (outcomes digits) (outcomes more) (outcomes c.search.new.digits.items) r (g.S.Store.record_of c.choose.new.store) (g.S.Store.record_of c.search.new.store)
    (first_goes_on task digits more r.present c.is_at_most-success.result (asked_now task digits r.present stopped) allowed c.choose.ensures.digits)
    (omega arith) (omega arith) c.search.ensures.ok

pub search-requires : goal.search-requires
search-requires g t c =
    let task = task_in c.args.rehearsal.now in
    let r = g.S.Store.record_of c.args.store.now in
    let digits = c.args.digits.now.items in
    let stopped = asked_here task digits (stop_of c.args.stopped) r.present (ap stop_of c.in-Asks.is) c.requires.stopped in
    let this : IsAsked task.limits (request_shown c.in-Asks.ask) r.present = subst (λ (x : Stopped). HasAsk task.limits x r.present) c.in-Asks.is c.requires.command in
    let expects = expects_for task.failures task.limits r.present (request_shown c.in-Asks.ask) c.in_ok-expected-in-Asks.expected this c.in_ok-expected-in-Asks.ensures in
    let a = asked_now task digits r.present stopped in
    let made = c.in_ok-next-in-Asks.ensures in
    let d = c.choose.ensures.digits in
    let l : length c.choose.new.digits.items ≡ length digits + 1 = ap length d ∙ length-append digits (outcome_digit (outcome_when c.is_at_most-success.result) ∷ []) in
    let k = a.room in
    let n = c.requires.bound in
    let u = c.requires.begun in
    let v = c.requires.within in
    let w = made.within in
    let b = made.begun in
    let grows = made.grows in
    let count = subst (λ (n : ℕ). IsCounted task (outcomes c.choose.new.digits.items) n) (sym c.after-more.ensures) (counted_on task digits c.choose.new.digits.items r.present c.in_ok-expected-in-Asks.expected c.is_at_most-success.result c.args.count stopped expects (c.requires.count (ap stop_of c.in-Asks.is)) d) in
    λ κs h. (
      omega (arith, c.decreases),
      (
        h,
        (
          (λ e. count),
          (made.stopped, (made.command, (made.marks, (made.kept, (digits_on digits c.choose.new.digits.items (outcome_when c.is_at_most-success.result) d c.requires.digits, (w, (omega arith, n))))))),
        ),
      ),
    )
