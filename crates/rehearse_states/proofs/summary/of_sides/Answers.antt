use Rattle.std.proofs.Common.{◌≡◌, length, rules}
use Rattle.rehearse_states.specs.declared.sum_nodes.SumNode.TheVariants.{Both}
use Rattle.rehearse_states.specs.declared.summary.Summary as kept
use Rattle.rehearse_states.proofs.SumLemmas.{both_pushed, more_pushed, sides_same}
use Rattle.rehearse_states.proofs.summary.of_sides.Goals as goal

pub returns-clause-sums : goal.returns-clause-sums
returns-clause-sums c won_shown lost_shown is_won is_lost =
    let old = c.args.sums.now.items in
    let won = c.args.won in
    let lost = c.args.lost in
    let made : kept.Summary = record { sum = c.len-sum.result; steps = c.max-2.result; devices = c.max-4.result; cut_steps = c.either-cut_steps.result; cut_devices = c.either-cut_devices.result; place = c.args.place } in
    let at : c.len-sum.result ≡ length old = search rules in (
      both_pushed old c.push.new.self.items c.len-sum.result c.args.expected won.sum lost.sum won_shown.rows lost_shown.rows c.in_ok-push.ensures.items at is_won.0 is_lost.0,
      sides_same made won lost c.args.expected c.args.steps c.args.devices won_shown lost_shown (search rules) (search rules) c.either-cut_steps.ensures c.either-cut_devices.ensures is_won.1 is_lost.1,
    )

pub returns-clause-grows : goal.returns-clause-grows
returns-clause-grows c = more_pushed c.args.sums.now.items c.push.new.self.items (Both c.args.expected c.args.won.sum c.args.lost.sum) c.in_ok-push.ensures.items
