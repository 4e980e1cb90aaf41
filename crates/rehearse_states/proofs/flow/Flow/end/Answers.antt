use Rattle.std.proofs.Common.{ap, ◌∙◌, ◌∷◌, [], map, ◌≡◌, ◌+◌, arith}
use Rattle.std.proofs.lemmas.List.{map-append}
use Rattle.rehearse_rules.specs.EndingsShown.{halt_shown}
use Rattle.rehearse_states.specs.Flow as shown
use Rattle.rehearse_states.specs.Drawing.{asks_in, node_shown, nodes_shown}
use Rattle.rehearse_states.specs.declared.flow.Node.TheVariants.{Ends}
use Rattle.rehearse_states.proofs.NodeLemmas.{asks_append}
use Rattle.rehearse_states.proofs.flow.Flow.end.Goals as goal

pub returns-clause-grows : goal.returns-clause-grows
returns-clause-grows c = (
  shown.Ends (halt_shown c.in_ok-copy.copy) ∷ [],
  ap (map node_shown) c.in_ok-push.ensures.items ∙ map-append node_shown c.args.self.now.nodes.items (Ends c.in_ok-copy.copy ∷ []),
)

pub returns-clause-asks : goal.returns-clause-asks
returns-clause-asks c =
    let old = nodes_shown c.args.self.now.nodes in
    let e = ap (λ ns. asks_in (map node_shown ns)) c.in_ok-push.ensures.items in
    let f = ap asks_in (map-append node_shown c.args.self.now.nodes.items (Ends c.in_ok-copy.copy ∷ [])) in
    let h = asks_append old (shown.Ends (halt_shown c.in_ok-copy.copy) ∷ []) in
    omega (arith, e, f, h)
