use Rattle.std.proofs.Common.{◌∙◌, ap}
use Rattle.std.specs.List.{list_any}
use Rattle.rehearse_causes.specs.Keeping.{is_covered_by}
use Rattle.rehearse_causes.proofs.NumberLemmas.{covered_by_numbers}
use Rattle.rehearse_causes.proofs.kept.Kept.is_covered.Goals as goal

pub returns : goal.returns
returns c =
    let kept = c.args.self.now.causes.items in
    let cause = c.args.cause.now in
    c.has_one.ensures
    ∙ ap (list_any (λ n. is_covered_by n kept cause)) (c.deref-2.ensures.value ∙ c.in_ok-numbers.ensures)
    ∙ covered_by_numbers kept cause
