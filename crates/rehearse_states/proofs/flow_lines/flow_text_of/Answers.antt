use Rattle.std.proofs.Common.{ℕ, List, [], ◌∷◌, ◌++◌, ap, ◌∙◌, decimal, arith}
use Rattle.rehearse_states.specs.Drawing.{node_shown}
use Rattle.rehearse_states.specs.Flow.{node_text}
use Rattle.rehearse_states.proofs.NodeLemmas.{blank_is, four_pieces, lines_on}
use Rattle.rehearse_states.proofs.flow_lines.flow_text_of.Goals as goal

pub loop-node-preserved : goal.loop-node-preserved
loop-node-preserved c =
    let items = c.deref-node-items.result.now in
    let i = c.loop-node.node-index in
    let node = c.node-item.result in
    let number = c.loop-node.number in
    let old = c.loop-node.text.items in
    let put = c.in_ok-put-2.ensures ∙ ap (λ (t : List ℕ). t ++ 10 ∷ []) (c.in_ok-put_node.ensures ∙ ap (λ (t : List ℕ). t ++ node_text (node_shown node)) (c.in_ok-put.ensures ∙ ap (λ (t : List ℕ). t ++ 32 ∷ []) c.in_ok-put_number.ensures)) ∙ four_pieces old (decimal number) (32 ∷ []) (node_text (node_shown node)) (10 ∷ []) ∙ ap (λ (blank : List ℕ). old ++ (((decimal number ++ blank) ++ node_text (node_shown node)) ++ 10 ∷ [])) blank_is in
    (let e = c.loop-node.invariant.0 in omega arith, put ∙ lines_on items i node number old c.loop-node-test.true c.node-item.is c.loop-node.invariant.0 c.loop-node.invariant.1)
