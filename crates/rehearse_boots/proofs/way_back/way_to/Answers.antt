use Rattle.std.proofs.Common.{refl}
use Rattle.rehearse_boots.proofs.AnswerLemmas.{walk_more}
use Rattle.rehearse_boots.proofs.way_back.way_to.Goals as goal

pub loop-at-preserved : goal.loop-at-preserved
loop-at-preserved c =
    walk_more c.args.by.now c.loop-at.way.items c.push.new.self.items c.loop-at.at c.args.place _ (record { place = 0; way = 0 }) c.loop-at.invariant.0 c.loop-at-test.true c.requires.back c.loop-at.invariant.1 refl c.in_ok-push.ensures.items
