use Rattle.std.proofs.Common.{◌≡◌, ◌∙◌, ap, map, List, Option, Vec, ℕ, ◌++◌, rules}
use Rattle.std.specs.declared.alloc.Global.{Global}
use Rattle.rehearse_terms.specs.Outcomes.{OutcomeWord}
use Rattle.rehearse_rules.specs.Execution.{outcome_when}
use Rattle.rehearse_states.specs.Flow.{numbered, walk}
use Rattle.rehearse_states.specs.Drawing.{failing_on, node_shown, nodes_shown}
use Rattle.rehearse_states.specs.EndingLines.{fails_lines, value_lines}
use Rattle.rehearse_rules.specs.Expected.{unexpected_of}
use Rattle.rehearse_states.specs.RowsShown.{row_shown, value_shown}
use Rattle.rehearse_states.specs.declared.flow.Node as rt
use Rattle.rehearse_states.proofs.EndingLineLemmas.{two_pieces}
use Rattle.rehearse_states.proofs.ending_lines.put_below.Goals as goal

pub returns : goal.returns
returns c =
    let row = row_shown c.args.row.now in
    let names = map (λ n. n.now) c.args.names.now in
    let values : c.deref-2.result.now ≡ c.args.row.now.run_end.value.values.items = search rules in
    let same : c.deref-4.result.now ≡ c.in_ok-outcomes.outcomes.items = search rules in
    let fewest = ap (map outcome_when) same ∙ c.in_ok-outcomes.ensures ∙ c.fewest_word.ensures in
    let nodes : c.deref-3.result.now ≡ c.args.nodes.now.items = search rules in
    two_pieces c.args.text.now.items (value_lines names row.run_end.values) (fails_lines (failing_on c.args.devices.now (nodes_shown c.args.nodes.now) row.fewest.0)) _ _
    (c.in_ok-put_values.ensures ∙ ap (λ (vs : List (Option (Vec ℕ Global))). c.args.text.now.items ++ value_lines names (map value_shown vs)) values)
    (c.in_ok-put_fails.ensures
    ∙ ap (λ (w : OutcomeWord). c.put_values.new.text.items ++ fails_lines (unexpected_of c.args.devices.now (walk (numbered (map node_shown c.deref-3.result.now)) w 1).log)) fewest
    ∙ ap (λ (ns : List rt.Node). c.put_values.new.text.items ++ fails_lines (unexpected_of c.args.devices.now (walk (numbered (map node_shown ns)) row.fewest.0 1).log)) nodes)
