use Rattle.std.proofs.Common.{◌≡◌}
use Rattle.rehearse_states.specs.declared.flow.Node.TheVariants.{Ends}
use Rattle.rehearse_states.proofs.NodeLemmas.{end_found}
use Rattle.rehearse_states.proofs.flow.Flow.find.Goals as goal

pub returns-then-same_halt : goal.returns-then-same_halt
returns-then-same_halt c =
    let nodes = c.args.self.now.nodes.items in
    let slice = c.deref.result.now in
    let same : slice ≡ nodes = c.deref.ensures.value in
    let found = c.in-Some-Ends.field-0.now in
    let is : found ≡ Ends c.in-Some-Ends.other = c.in-Some-Ends.field-0-is in
    end_found nodes slice _ found c.in-Some-Ends.other c.args.halt.now same c.in-Some-Ends.ensures.lookup.0 c.in-Some-Ends.ensures.lookup.1 is c.if-same_halt.ensures
