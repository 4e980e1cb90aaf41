use Rattle.std.proofs.Common.{sym, subst, List, ℕ}
use Rattle.std.specs.Option.{option_copied}
use Rattle.output.specs.Sink.{Sink, BrokeOff}
use Rattle.ubtool.specs.CausesOfImages.{causes_given}
use Rattle.ubtool.specs.ListsShown.{list_shown}
use Rattle.ubtool.proofs.CausesTurnLemmas.{has-turns, turns-broken}
use Rattle.ubtool.proofs.image_causes.causes_bytes.Goals as goal

pub returns-clause-err : goal.returns-clause-err
returns-clause-err g c =
    let given = causes_given c.args.order c.args.first.now (option_copied c.args.second) (list_shown c.args.list) c.args.list.taking c.args.ask.now in
    let old = g.O.Out.sink c.args.out.now in
    let between = g.O.Out.sink c.causes_of_one.new.out in
    let new = g.O.Out.sink c.write_all.new.out in
    let turns = has-turns given c.args.ask.now.check old between c.in-Err.error c.in-Some.count (sym c.in-Some.ensures) c.in-Err.ensures.err in
    let broke : BrokeOff between new c.in_ok-text.text.items = subst (λ (t : List ℕ). BrokeOff between new t) c.deref.ensures.value c.in-Err-write_all.ensures in
    turns-broken given c.args.ask.now.check c.in-Some.count old new turns.0 c.in_ok-text.text.items c.in_ok-text.fine c.in_ok-text.ensures.ok (subst (λ (s : Sink). BrokeOff s new c.in_ok-text.text.items) turns.1 broke)
