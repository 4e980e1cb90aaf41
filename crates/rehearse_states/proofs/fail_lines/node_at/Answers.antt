use Rattle.std.proofs.Common.{rules, ◌≡◌, suc}
use Rattle.rehearse_states.proofs.NumberedNodes.{line_at}
use Rattle.rehearse_states.proofs.fail_lines.node_at.Goals as goal

pub returns : goal.returns
returns c =
    let e : c.args.number ≡ suc c.in_ok-place.place = search rules in
    line_at c.args.nodes.now c.get.result c.args.number c.in_ok-place.place e c.get.ensures.lookup
