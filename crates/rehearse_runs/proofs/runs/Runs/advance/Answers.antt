use Rattle.std.proofs.Common.{refl, subst}
use Rattle.rehearse_runs.specs.RunsShown.{outcomes}
use Rattle.rehearse_runs.specs.Phases.{KeepsAt, start_of}
use Rattle.rehearse_runs.specs.Searching.{requests}
use Rattle.rehearse_runs.specs.declared.runs.Phase.{Phase}
use Rattle.rehearse_machine.specs.Tasks.{task_in}
use Rattle.rehearse_runs.proofs.GivingLemmas.{first_gives, first_stands, next_gives, next_stands}
use Rattle.rehearse_runs.proofs.runs.Runs.advance.Goals as goal

pub invariant_of-self-in-Fresh : goal.invariant_of-self-in-Fresh
invariant_of-self-in-Fresh g c =
    let i = c.self.inside in
    let stands = first_stands (task_in i.rehearsal) (start_of i.start) i.has_given (outcomes i.word.items) i.phase (g.S.Store.record_of i.store) (g.S.Store.record_of c.first_run.new.store) c.first_run.new.digits.items c.in-Ok.halt c.in-Fresh.is c.self.invariant.2 c.self.invariant.3 c.in-Ok.ensures.ok c.first_run.ensures.digits c.self.invariant.4 in
    rw c.set_to.ensures (stands.0, stands.1, stands.2, stands.3, stands.4, c.in-Ok.ensures.kept)

pub invariant_of-self-in-At : goal.invariant_of-self-in-At
invariant_of-self-in-At g c =
    let i = c.self.inside in
    let stands = next_stands (task_in i.rehearsal) (start_of i.start) i.has_given i.word.items c.set_to-in-At.new.digits.items i.phase c.in-At.field-0 (g.S.Store.record_of i.store) (g.S.Store.record_of c.next_run.new.store) c.next_run.new.digits.items c.in-Ok-next_run.found c.in-Some.halt c.in-At.is c.self.invariant.2 c.self.invariant.3 c.set_to-in-At.ensures c.in-Some.is c.in-Ok-next_run.ensures.ok c.next_run.ensures.digits c.self.invariant.4 in
    rw c.set_to-in-At-2.ensures (stands.0, stands.1, stands.2, stands.3, stands.4, c.in-Ok-next_run.ensures.kept)

pub next_run-requires-clause-kept : goal.next_run-requires-clause-kept
next_run-requires-clause-kept g c =
    let i = c.self.inside in
    subst (λ (x : Phase). KeepsAt x (task_in i.rehearsal).limits (requests i.asks.items) (g.S.Store.record_of i.store)) c.in-At.is c.self.invariant.5

pub returns-in-Ok : goal.returns-in-Ok
returns-in-Ok g c =
    let i = c.self.inside in
    rw (← c.self.view_is, c.set_to.ensures) (first_gives (task_in i.rehearsal) (start_of i.start) i.has_given (outcomes i.word.items) i.phase (g.S.Store.record_of i.store) (g.S.Store.record_of c.first_run.new.store) c.first_run.new.digits.items c.in-Ok.halt c.in-Fresh.is c.self.invariant.2 c.self.invariant.3 c.in-Ok.ensures.ok, refl)

pub returns-in-Some : goal.returns-in-Some
returns-in-Some g c =
    let i = c.self.inside in
    rw (← c.self.view_is, c.set_to-in-At-2.ensures) (next_gives (task_in i.rehearsal) (start_of i.start) i.has_given i.word.items c.set_to-in-At.new.digits.items i.phase c.in-At.field-0 (g.S.Store.record_of i.store) (g.S.Store.record_of c.next_run.new.store) c.next_run.new.digits.items c.in-Ok-next_run.found c.in-Some.halt c.in-At.is c.self.invariant.2 c.self.invariant.3 c.set_to-in-At.ensures c.in-Some.is c.in-Ok-next_run.ensures.ok, refl)
