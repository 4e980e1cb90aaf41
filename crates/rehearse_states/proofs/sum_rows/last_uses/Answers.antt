use Rattle.std.proofs.Common.{map, rules}
use Rattle.rehearse_states.specs.SumNodes.{sum_shown}
use Rattle.rehearse_states.proofs.SumLemmas.{node_got, uses_next}
use Rattle.rehearse_states.proofs.sum_rows.last_uses.Goals as goal

pub loop-at-preserved : goal.loop-at-preserved
loop-at-preserved c =
    let sums = map sum_shown c.args.nodes.now in
    let node = c.index-nodes-at.result in
    record {
      many = search rules;
      uses = uses_next sums c.loop-at.last.items c.note_uses.new.last.items c.push.new.self.items c.loop-at.at (sum_shown node) c.loop-at.invariant.uses (node_got c.args.nodes.now c.loop-at.at node c.loop-at-test.true c.index-nodes-at.is)
          c.note_uses.ensures.noted c.note_uses.ensures.kept c.in_ok-push.ensures.items;
    }
