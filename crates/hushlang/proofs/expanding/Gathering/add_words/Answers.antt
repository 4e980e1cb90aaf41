use Rattle.std.proofs.Common.{◌∙◌, ap, map, arith, sym}
use Rattle.std.proofs.Math.ListN.{drop_of_length-le}
use Rattle.std.proofs.lemmas.Result.{err_from_is_err_and}
use Rattle.hushlang.specs.Splitting.{fields_so_far, gathered_size, with_words}
use Rattle.hushlang.specs.TreesShown as view
use Rattle.hushlang.proofs.ExpandLemmas.{over_by_word, drop_next, with_words-fields, size-fields}
use Rattle.hushlang.proofs.expanding.Gathering.add_words.Goals as goal

pub returns-in_err-add_word-clause-too_long : goal.returns-in_err-add_word-clause-too_long
returns-in_err-add_word-clause-too_long g c =
    let parameters = g.V.Vars.parameters c.args.vars.now in
    let first = ap (map view.word) (drop_next c.args.words.now c.loop-word.word-index c.word-item.result (omega arith) c.word-item.is) in
    let p = err_from_is_err_and c.from_residual.result c.from_residual.ensures.1 in
    rw (p.1, p.2) (λ is.
    omega (arith, size-fields parameters (map view.word c.args.words.now), over_by_word parameters _ _ (view.word c.word-item.result) _ _ first c.loop-word.invariant.same (c.in_err-add_word.ensures.too_long is)))

pub returns-clause-fields : goal.returns-clause-fields
returns-clause-fields g c =
    let parameters = g.V.Vars.parameters c.args.vars.now in
    let done = drop_of_length-le c.args.words.now {i = c.loop-word.word-index} (omega arith) in
    let all = ap (λ words. with_words parameters (fields_so_far c.loop-word.self) (map view.word words)) (sym done) ∙ c.loop-word.invariant.same ∙ with_words-fields parameters (map view.word c.args.words.now) in
    ap (λ g. g.whole) all

pub returns-clause-within_limit : goal.returns-clause-within_limit
returns-clause-within_limit g c =
    let parameters = g.V.Vars.parameters c.args.vars.now in
    let done = drop_of_length-le c.args.words.now {i = c.loop-word.word-index} (omega arith) in
    let all = ap (λ words. with_words parameters (fields_so_far c.loop-word.self) (map view.word words)) (sym done) ∙ c.loop-word.invariant.same in
    omega (arith, ap gathered_size all, size-fields parameters (map view.word c.args.words.now), c.loop-word.invariant.counted)
