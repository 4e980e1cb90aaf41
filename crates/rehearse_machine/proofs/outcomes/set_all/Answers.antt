use Rattle.text.specs.TextsShown.{bytes_of_words}
use Rattle.rehearse_machine.proofs.OutcomeLemmas.{none_set, next_set, all_set}
use Rattle.rehearse_machine.proofs.outcomes.set_all.Goals as goal

pub loop-set-init : goal.loop-set-init
loop-set-init g c = none_set (bytes_of_words c.args.words.now) c.args.sets.now (g.S.Store.record_of c.args.store.now)

pub loop-set-preserved : goal.loop-set-preserved
loop-set-preserved g c =
    next_set (bytes_of_words c.args.words.now) c.args.sets.now c.loop-set.set-index (g.S.Store.record_of c.args.store.now) (g.S.Store.record_of c.loop-set.store) (g.S.Store.record_of c.set_one.new.store)
    c.set-item.result c.loop-set-test.true c.set-item.is c.in_ok-set_one.ensures c.loop-set.invariant

pub returns : goal.returns
returns g c =
    all_set (bytes_of_words c.args.words.now) c.args.sets.now c.loop-set.set-index (g.S.Store.record_of c.args.store.now) (g.S.Store.record_of c.loop-set.store) c.loop-set-test.false c.loop-set.invariant
