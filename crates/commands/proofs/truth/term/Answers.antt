use Rattle.std.proofs.Common.{sym, ap, ◌∙◌, [], ◌∷◌}
use Rattle.std.specs.Str.{bytes_eq}
use Rattle.commands.specs.Verdict.{term}
use Rattle.commands.specs.TextsShown.{texts, term_shown}
use Rattle.std.proofs.lemmas.Bool.{not-false}
use Rattle.commands.proofs.VerdictLemmas.{term-turned}
use Rattle.commands.proofs.truth.term.Goals as goal

pub loop-first-preserved : goal.loop-first-preserved
loop-first-preserved c =
    let no_comparison = sym c.compared.ensures ∙ ap term_shown c.in_default-compared.is in
    let same = not-false _ (sym c.ne.ensures ∙ c.if-ne.false) in
    let is_not = ap (λ t. bytes_eq t (33 ∷ [])) (sym c.as_slice.ensures.value) ∙ (ap (bytes_eq c.as_slice.result.now) (sym c.as_slice-in-Some.ensures) ∙ same) in
    term-turned (term (texts c.args.words.now)) c.loop-first.is_opposite (texts c.loop-first.rest.now) c.in-Some.first.now.items (texts c.in-Some.more.now)
    c.loop-first.invariant (ap texts c.in-Some.ensures.cases.0) no_comparison is_not
