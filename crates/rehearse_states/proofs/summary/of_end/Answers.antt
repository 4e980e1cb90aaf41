use Rattle.std.proofs.Common.{◌≡◌, length, refl, rules}
use Rattle.rehearse_states.specs.RowsShown.{run_end_shown}
use Rattle.rehearse_states.specs.declared.sum_nodes.SumNode.TheVariants.{Over}
use Rattle.rehearse_states.specs.declared.summary.Summary as kept
use Rattle.rehearse_states.proofs.SumLemmas.{end_pushed, ends_same, more_pushed}
use Rattle.rehearse_states.proofs.summary.of_end.Goals as goal

pub returns-clause-sums : goal.returns-clause-sums
returns-clause-sums c =
    let old = c.args.sums.now.items in
    let made : kept.Summary = record { sum = c.len-sum.result; steps = c.from.result; devices = c.from-2.result; cut_steps = c.is_cut_steps-cut_steps.result; cut_devices = c.is_cut_devices-cut_devices.result; place = c.args.place } in
    let at : c.len-sum.result ≡ length old = search rules in (
      end_pushed old c.push.new.self.items c.len-sum.result c.in_ok-shared.shared c.args.run_end c.in_ok-push.ensures.items at c.in_ok-shared.ensures.ok,
      ends_same made _ (run_end_shown c.args.run_end) c.args.steps c.args.devices refl (search rules) (search rules) c.is_cut_steps-cut_steps.ensures c.is_cut_devices-cut_devices.ensures,
    )

pub returns-clause-grows : goal.returns-clause-grows
returns-clause-grows c = more_pushed c.args.sums.now.items c.push.new.self.items (Over c.in_ok-shared.shared) c.in_ok-push.ensures.items
