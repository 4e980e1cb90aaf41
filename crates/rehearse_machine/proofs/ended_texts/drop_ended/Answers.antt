use Rattle.std.proofs.Common.{ap, sym, ◌∙◌}
use Rattle.rehearse_machine.specs.EndedTexts.{may_drop}
use Rattle.rehearse_machine.proofs.EndedLemmas.{drops_ended}
use Rattle.rehearse_machine.proofs.EndedParts.{all_stay, none_there, text_dropped}
use Rattle.rehearse_machine.proofs.ended_texts.drop_ended.Goals as goal

pub returns-in_default : goal.returns-in_default
returns-in_default g c =
    let old = g.S.Store.record_of c.args.store.now in
    drops_ended old old (none_there old c.in_default.ensures)

pub returns-then-not-may_drop : goal.returns-then-not-may_drop
returns-then-not-may_drop g c =
    let old = g.S.Store.record_of c.args.store.now in
    drops_ended old old (all_stay old (sym (c.may_drop.ensures ∙ ap may_drop c.frames.ensures) ∙ c.if-not-may_drop.true))

pub returns : goal.returns
returns g c =
    let old = g.S.Store.record_of c.args.store.now in
    let new = g.S.Store.record_of c.push.new.self in
    drops_ended old new
    (text_dropped old (g.S.Store.record_of c.pop.new.self) (g.S.Store.record_of c.drop_blocks.new.store) (g.S.Store.record_of c.pop-2.new.self) (g.S.Store.record_of c.pop-3.new.self) new c.in-Some.top.now c.in_ok-frame.frame
    c.in-Some.ensures (sym (c.may_drop.ensures ∙ ap may_drop c.frames.ensures) ∙ c.if-not-may_drop.false) c.in_ok-frame.ensures
    c.in_ok-pop.ensures.ok c.in_ok-drop_blocks.ensures c.in_ok-pop-2.ensures.ok c.in_ok-pop-3.ensures.ok c.in_ok-push.ensures.ok)
