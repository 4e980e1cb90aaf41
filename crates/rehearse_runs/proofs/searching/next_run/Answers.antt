use Rattle.std.proofs.Common.{◌≡◌, ◌∙◌, sym, ap, subst, List, Option, take, arith, ◌≤◌, ℕ, length, reverse}
use Rattle.rehearse_terms.specs.Outcomes.{Failure}
use Rattle.rehearse_terms.specs.State.{Text, LoggedCommand}
use Rattle.rehearse_rules.specs.Expected.{asked_in, unexpected_of}
use Rattle.rehearse_runs.specs.Phases.{AreDigits}
use Rattle.rehearse_runs.specs.RunsShown.{outcomes}
use Rattle.rehearse_runs.specs.Searching.{CountsFor, requests}
use Rattle.rehearse_machine.specs.Machine.{stop_of}
use Rattle.rehearse_machine.specs.Tasks.{task_in}
use Rattle.rehearse_runs.proofs.SearchLemmas.{none_marked, back_at, asked_back, kept_same, some_kept, count_within, cut_there, room_behind, digits_taken, digits_on, goes_behind, marks_behind, found_behind, unexpected_logged, counted_behind}
use Rattle.rehearse_runs.proofs.searching.next_run.Goals as goal

pub returns-then-not-has_mark-clause-ok : goal.returns-then-not-has_mark-clause-ok
returns-then-not-has_mark-clause-ok g c =
    none_marked (task_in c.args.rehearsal.now) (outcomes c.args.digits.now.items) (outcomes c.args.digits.now.items) (g.S.Store.record_of c.args.store.now) c.requires.run c.requires.marks c.if-not-has_mark.ensures

pub unreachable-requires : goal.unreachable-requires
unreachable-requires g c = some_kept (task_in c.args.rehearsal.now).limits c.args.asks.now (g.S.Store.record_of c.args.store.now).marked c.requires.kept c.if-not-has_mark.ensures c.in_default.ensures.cases.0

pub resume-requires-clause-this : goal.resume-requires-clause-this
resume-requires-clause-this g c =
    (asked_back (task_in c.args.rehearsal.now).limits c.args.asks.now.items c.pop.new.self.items c.in-Some.ask (g.S.Store.record_of c.args.store.now) (g.S.Store.record_of c.back.new.self) c.in-Some.ensures.items c.requires.kept c.back.ensures).asks

pub search-requires-clause-kept : goal.search-requires-clause-kept
search-requires-clause-kept g c =
    let limits = (task_in c.args.rehearsal.now).limits in
    let back = g.S.Store.record_of c.back.new.self in
    kept_same limits (reverse (requests c.pop.new.self.items)) back.marked (g.S.Store.record_of c.resume.new.store).marked c.in_ok-stopped.ensures.marks
    (asked_back limits c.args.asks.now.items c.pop.new.self.items c.in-Some.ask (g.S.Store.record_of c.args.store.now) back c.in-Some.ensures.items c.requires.kept c.back.ensures).others

pub cut-requires : goal.cut-requires
cut-requires g c =
    let task = task_in c.args.rehearsal.now in
    let digits = c.args.digits.now.items in
    let r = g.S.Store.record_of c.args.store.now in
    let back = g.S.Store.record_of c.back.new.self in
    let a = back_at task (outcomes digits) r back c.requires.marks c.if-not-has_mark.ensures c.back.ensures in
    let asked : c.asked.result ≡ length (asked_in back.present.log) = c.asked.ensures ∙ ap (λ (log : List LoggedCommand). length (asked_in log)) c.log.ensures in
    subst (λ (n : ℕ). n ≤ length digits) (sym asked) (count_within task digits r back a)

pub push-requires : goal.push-requires
push-requires g c =
    let task = task_in c.args.rehearsal.now in
    let digits = c.args.digits.now.items in
    let r = g.S.Store.record_of c.args.store.now in
    let back = g.S.Store.record_of c.back.new.self in
    let a = back_at task (outcomes digits) r back c.requires.marks c.if-not-has_mark.ensures c.back.ensures in
    let asked : c.asked.result ≡ length (asked_in back.present.log) = c.asked.ensures ∙ ap (λ (log : List LoggedCommand). length (asked_in log)) c.log.ensures in
    let kept = c.cut.ensures ∙ ap (λ (n : ℕ). take n digits) asked in
    let k = room_behind task digits c.cut.new.digits.items r back a kept in
    let b = c.requires.bound in
    omega arith

pub resume-requires-clause-asks : goal.resume-requires-clause-asks
resume-requires-clause-asks g c =
    let task = task_in c.args.rehearsal.now in
    let digits = c.args.digits.now.items in
    let r = g.S.Store.record_of c.args.store.now in
    let back = g.S.Store.record_of c.back.new.self in
    let a = back_at task (outcomes digits) r back c.requires.marks c.if-not-has_mark.ensures c.back.ensures in
    a.asks.0

pub resume-requires-clause-begun : goal.resume-requires-clause-begun
resume-requires-clause-begun g c =
    let task = task_in c.args.rehearsal.now in
    let digits = c.args.digits.now.items in
    let r = g.S.Store.record_of c.args.store.now in
    let back = g.S.Store.record_of c.back.new.self in
    let a = back_at task (outcomes digits) r back c.requires.marks c.if-not-has_mark.ensures c.back.ensures in
    let b = a.begun in
    let u = c.requires.begun in
    omega arith

pub search-requires-clause-count : goal.search-requires-clause-count
search-requires-clause-count g c e =
    let task = task_in c.args.rehearsal.now in
    let digits = c.args.digits.now.items in
    let r = g.S.Store.record_of c.args.store.now in
    let back = g.S.Store.record_of c.back.new.self in
    let a = back_at task (outcomes digits) r back c.requires.marks c.if-not-has_mark.ensures c.back.ensures in
    let asked : c.asked.result ≡ length (asked_in back.present.log) = c.asked.ensures ∙ ap (λ (log : List LoggedCommand). length (asked_in log)) c.log.ensures in
    let kept = c.cut.ensures ∙ ap (λ (n : ℕ). take n digits) asked in
    let there = cut_there task digits c.cut.new.digits.items c.push.new.self.items r back a kept c.push.ensures in
    let r₁ = g.S.Store.record_of c.resume.new.store in
    let q = outcomes c.push.new.self.items in
    let stopped = goes_behind task q (stop_of c.in_ok-stopped.stopped) back r₁ a.parted a.asks there.word c.in_ok-stopped.ensures.stops in
    let are = ap (λ (log : List LoggedCommand). length (unexpected_of task.limits.devices (asked_in log))) c.log-2.ensures ∙ unexpected_logged task q (stop_of c.in_ok-stopped.stopped) r₁.present stopped in
    counted_behind task q (stop_of c.in_ok-stopped.stopped) r₁.present (length (unexpected_of task.limits.devices (asked_in c.log-2.result.now))) c.unexpected_for-count.result stopped are
    (subst (λ (o : Option ℕ). CountsFor o (length (unexpected_of task.limits.devices (asked_in c.log-2.result.now))) c.unexpected_for-count.result) c.failures.ensures c.unexpected_for-count.ensures) e

pub search-requires-clause-stopped : goal.search-requires-clause-stopped
search-requires-clause-stopped g c =
    let task = task_in c.args.rehearsal.now in
    let digits = c.args.digits.now.items in
    let r = g.S.Store.record_of c.args.store.now in
    let back = g.S.Store.record_of c.back.new.self in
    let a = back_at task (outcomes digits) r back c.requires.marks c.if-not-has_mark.ensures c.back.ensures in
    let asked : c.asked.result ≡ length (asked_in back.present.log) = c.asked.ensures ∙ ap (λ (log : List LoggedCommand). length (asked_in log)) c.log.ensures in
    let kept = c.cut.ensures ∙ ap (λ (n : ℕ). take n digits) asked in
    let there = cut_there task digits c.cut.new.digits.items c.push.new.self.items r back a kept c.push.ensures in
    goes_behind task (outcomes c.push.new.self.items) (stop_of c.in_ok-stopped.stopped) back (g.S.Store.record_of c.resume.new.store) a.parted a.asks there.word c.in_ok-stopped.ensures.stops

pub search-requires-clause-marks : goal.search-requires-clause-marks
search-requires-clause-marks g c =
    let task = task_in c.args.rehearsal.now in
    let digits = c.args.digits.now.items in
    let r = g.S.Store.record_of c.args.store.now in
    let back = g.S.Store.record_of c.back.new.self in
    let a = back_at task (outcomes digits) r back c.requires.marks c.if-not-has_mark.ensures c.back.ensures in
    let asked : c.asked.result ≡ length (asked_in back.present.log) = c.asked.ensures ∙ ap (λ (log : List LoggedCommand). length (asked_in log)) c.log.ensures in
    let kept = c.cut.ensures ∙ ap (λ (n : ℕ). take n digits) asked in
    let there = cut_there task digits c.cut.new.digits.items c.push.new.self.items r back a kept c.push.ensures in
    marks_behind task (outcomes c.push.new.self.items) back (g.S.Store.record_of c.resume.new.store) a.parted a.marks there.word c.in_ok-stopped.ensures.marks

pub search-requires-clause-digits : goal.search-requires-clause-digits
search-requires-clause-digits g c =
    let task = task_in c.args.rehearsal.now in
    let digits = c.args.digits.now.items in
    let r = g.S.Store.record_of c.args.store.now in
    let back = g.S.Store.record_of c.back.new.self in
    let a = back_at task (outcomes digits) r back c.requires.marks c.if-not-has_mark.ensures c.back.ensures in
    let taken = subst (λ (t : Text). AreDigits t) (sym c.cut.ensures) (digits_taken c.asked.result digits c.requires.digits) in
    digits_on c.cut.new.digits.items c.push.new.self.items Failure c.push.ensures taken

pub returns-in_err-stopped-clause-digits : goal.returns-in_err-stopped-clause-digits
returns-in_err-stopped-clause-digits g c =
    let task = task_in c.args.rehearsal.now in
    let digits = c.args.digits.now.items in
    let r = g.S.Store.record_of c.args.store.now in
    let back = g.S.Store.record_of c.back.new.self in
    let a = back_at task (outcomes digits) r back c.requires.marks c.if-not-has_mark.ensures c.back.ensures in
    let taken = subst (λ (t : Text). AreDigits t) (sym c.cut.ensures) (digits_taken c.asked.result digits c.requires.digits) in
    digits_on c.cut.new.digits.items c.push.new.self.items Failure c.push.ensures taken

pub search-requires-clause-begun : goal.search-requires-clause-begun
search-requires-clause-begun g c =
    let task = task_in c.args.rehearsal.now in
    let digits = c.args.digits.now.items in
    let r = g.S.Store.record_of c.args.store.now in
    let back = g.S.Store.record_of c.back.new.self in
    let a = back_at task (outcomes digits) r back c.requires.marks c.if-not-has_mark.ensures c.back.ensures in
    let b = a.begun in
    let u = c.requires.begun in
    let n = c.in_ok-stopped.ensures.begun in
    let l = c.in_ok-stopped.ensures.grows in
    let w = c.in_ok-stopped.ensures.within in
    omega arith

pub returns-clause-ok : goal.returns-clause-ok
returns-clause-ok g c =
    let task = task_in c.args.rehearsal.now in
    let digits = c.args.digits.now.items in
    let r = g.S.Store.record_of c.args.store.now in
    let back = g.S.Store.record_of c.back.new.self in
    let a = back_at task (outcomes digits) r back c.requires.marks c.if-not-has_mark.ensures c.back.ensures in
    let asked : c.asked.result ≡ length (asked_in back.present.log) = c.asked.ensures ∙ ap (λ (log : List LoggedCommand). length (asked_in log)) c.log.ensures in
    let kept = c.cut.ensures ∙ ap (λ (n : ℕ). take n digits) asked in
    let there = cut_there task digits c.cut.new.digits.items c.push.new.self.items r back a kept c.push.ensures in
    let q = outcomes c.push.new.self.items in
    found_behind task (outcomes digits) q (outcomes c.search.new.digits.items) c.in_ok-halt.halt r back (g.S.Store.record_of c.resume.new.store) (g.S.Store.record_of c.search.new.store) c.requires.run a there.word c.in_ok-stopped.ensures.begun c.in_ok-stopped.ensures.grows c.in_ok-halt.ensures.ok
