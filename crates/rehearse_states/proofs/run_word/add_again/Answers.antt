use Rattle.std.proofs.Common.{◌∙◌, ◌++◌, ◌∷◌, [], ap, map, append_assoc}
use Rattle.std.proofs.lemmas.List.{map-append}
use Rattle.rehearse_terms.specs.Outcomes.{OutcomeWord}
use Rattle.rehearse_rules.specs.Execution.{outcome_when}
use Rattle.rehearse_states.specs.Repeats.{repeated}
use Rattle.rehearse_states.proofs.RepeatLemmas.{one_more}
use Rattle.rehearse_states.proofs.run_word.add_again.Goals as goal

pub loop-time-preserved : goal.loop-time-preserved
loop-time-preserved c =
    let old = map outcome_when c.args.outcomes.now.items in
    let outcome = outcome_when c.args.success in
    ap (map outcome_when) c.in_ok-push-2.ensures.items
    ∙ map-append outcome_when c.loop-time.outcomes.items (c.args.success ∷ [])
    ∙ ap (λ (w : OutcomeWord). w ++ outcome ∷ []) c.loop-time.invariant
    ∙ append_assoc old (repeated c.loop-time._time outcome []) (outcome ∷ [])
    ∙ ap (λ (w : OutcomeWord). old ++ w) (one_more c.loop-time._time outcome)
