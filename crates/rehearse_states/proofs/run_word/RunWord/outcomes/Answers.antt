use Rattle.std.proofs.Common.{◌∙◌, ◌++◌, ◌+◌, [], ap, sym, map, length, append_assoc, arith}
use Rattle.rehearse_terms.specs.Outcomes.{OutcomeWord}
use Rattle.rehearse_rules.specs.Execution.{outcome_when}
use Rattle.rehearse_states.specs.Repeats.{repeated, length-repeated}
use Rattle.rehearse_states.proofs.RepeatLemmas.{repeated_before}
use Rattle.rehearse_states.proofs.run_word.RunWord.outcomes.Goals as goal

pub loop-success-smaller : goal.loop-success-smaller
loop-success-smaller c =
    let many = length-repeated c.in-Some.again (outcome_when c.in-Some.success) c.in-Some.rest.now in
    let whole = ap length c.in-Some.ensures.some in
    omega arith

pub loop-success-preserved : goal.loop-success-preserved
loop-success-preserved c =
    let old = map outcome_when c.loop-success.outcomes.items in
    let again = c.in-Some.again in
    let outcome = outcome_when c.in-Some.success in
    let rest = c.in-Some.rest.now in
    ap (λ (w : OutcomeWord). w ++ rest) c.in_ok-add_again.ensures
    ∙ append_assoc old (repeated again outcome []) rest
    ∙ ap (λ (w : OutcomeWord). old ++ w) (repeated_before again outcome rest ∙ sym c.in-Some.ensures.some)
    ∙ c.loop-success.invariant
