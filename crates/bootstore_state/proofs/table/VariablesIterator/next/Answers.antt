use Rattle.std.proofs.Common.{◌∷◌, ◌∙◌, sym, ap, rules}
use Rattle.bootstore_state.specs.Slots.{live, live_before}
use Rattle.bootstore_state.proofs.table.VariablesIterator.next.Goals as goal

pub loop-name-preserved : goal.loop-name-preserved
loop-name-preserved c =
    let rest = live c.next.new.self in
    sym (ap live c.in-Some.ensures.steps ∙ ap (λ o. live_before c.in-Some.name.now o rest) c.in_default-value.is) ∙ c.loop-name.invariant

pub returns-in-Some-value-clause-steps : goal.returns-in-Some-value-clause-steps
returns-in-Some-value-clause-steps c =
    let rest = live c.next.new.self in
    sym c.loop-name.invariant ∙ ap live c.in-Some.ensures.steps
    ∙ ap (λ o. live_before c.in-Some.name.now o rest) c.in-Some-value.is
    ∙ (λ i. (sym c.as_slice.ensures.value i, sym c.as_slice-in-Some-value.ensures.value i) ∷ rest)

pub returns-in-Some-value-clause-goes : goal.returns-in-Some-value-clause-goes
returns-in-Some-value-clause-goes c =
    let steps = returns-in-Some-value-clause-steps c in search (rules, steps)

pub returns-clause-steps : goal.returns-clause-steps
returns-clause-steps c = (sym c.loop-name.invariant ∙ ap live c.in_default.ensures.steps.0, ap live c.in_default.ensures.steps.1)
