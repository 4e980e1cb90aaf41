use Rattle.std.proofs.Common.{sym, ◌∙◌}
use Rattle.rehearse_machine.proofs.EndedParts.{other_left, none_left}
use Rattle.rehearse_machine.proofs.ended_texts.drop_blocks.Goals as goal

pub returns-then-not-is_done : goal.returns-then-not-is_done
returns-then-not-is_done g c =
    other_left (g.S.Store.record_of c.args.store.now) (g.S.Store.record_of c.loop-frame.store) c.loop-frame.invariant c.in-Some.frame.now c.in-Some.ensures (sym c.is_done.ensures ∙ c.if-not-is_done.true)

pub returns : goal.returns
returns g c = none_left (g.S.Store.record_of c.args.store.now) (g.S.Store.record_of c.loop-frame.store) c.loop-frame.invariant c.in_default.ensures
