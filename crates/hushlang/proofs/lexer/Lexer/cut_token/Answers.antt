use Rattle.std.proofs.Common.{◌∙◌, ℕ, List, take, drop, sym, ap, arith, ◌-◌, length}
use Rattle.hushlang.specs.LexerShown.{parts_of}
use Rattle.hushlang.proofs.TextFrontLemmas.{gap_next, token_next}
use Rattle.hushlang.proofs.lexer.Lexer.cut_token.Goals as goal

pub fronts-preserved : goal.fronts-preserved
fronts-preserved c =
    let i = c.fronts.self-inside in
    let found = rw c.in-Ok-Gap.field-0-is at c.in-Ok-Gap.ensures in
    let next = gap_next i.text.now i.at c.fronts-test.true c.in-Ok-Gap.stop found.value found.within.1 in
    record { same = sym next ∙ c.fronts.invariant.same; source = c.fronts.invariant.source; starts = omega (arith, found.within.0); within = found.within.1; unknown = c.fronts.invariant.unknown }

pub returns-in-Ok-Token-clause-gives : goal.returns-in-Ok-Token-clause-gives
unfolding parts_of
returns-in-Ok-Token-clause-gives c =
    let i = c.fronts.self-inside in
    let found = rw c.in-Ok-Token.field-0-is at c.in-Ok-Token.ensures in
    let next = token_next i.text.now i.at c.fronts-test.true c.in-Ok-Token.kind c.in-Ok-Token.stop found.value in
    (sym c.fronts.invariant.same ∙ next.0, (ap (λ (x : List ℕ). take (c.in-Ok-Token.stop - i.at) (drop i.at x)) c.fronts.invariant.source, next.1), omega (arith, found.within.0), omega (arith, found.within.1, ap length c.fronts.invariant.source))
