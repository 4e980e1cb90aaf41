use Rattle.std.proofs.Common.{◌≡◌, ◌∙◌, sym, [], ◌∷◌, ◌++◌}
use Rattle.rehearse_terms.specs.State.{Text, Variables}
use Rattle.rehearse_reports.proofs.SameLemmas.{same_text, one_more}
use Rattle.rehearse_reports.proofs.looping.same_variables.Goals as goal

pub loop-name-preserved : goal.loop-name-preserved
loop-name-preserved c =
    let done : Variables = c.loop-name.invariant.0 in
    let name : Text = c.in-Some.name.now in
    let value : Text = c.in-Some.value.now in
    let others : Variables = c.next-in-Some.new.self in
    let same_name : name ≡ c.in-Some-next.other_name.now = same_text c.ne.result name c.in-Some-next.other_name.now c.ne.ensures c.if-ne.false in
    let same_value : value ≡ c.in-Some-next.other_value.now = same_text c.ne-else-ne.result value c.in-Some-next.other_value.now c.ne-else-ne.ensures c.if-ne-2.false in
    let first : c.loop-name.others ≡ (name, value) ∷ others = c.in-Some-next.ensures.steps ∙ (λ i. (sym same_name i, sym same_value i) ∷ others) in (
      done ++ (name, value) ∷ [],
      one_more c.args.a done c.loop-name.some c.next.new.self name value c.loop-name.invariant.1 c.in-Some.ensures.steps,
      one_more c.args.b done c.loop-name.others others name value c.loop-name.invariant.2 first,
    )
