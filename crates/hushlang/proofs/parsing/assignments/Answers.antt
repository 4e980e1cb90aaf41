use Rattle.std.proofs.Common.{◌∙◌, ◌≢◌, Err, ap, sym, map}
use Rattle.std.proofs.lemmas.List.{map-append}
use Rattle.std.proofs.lemmas.Result.{err_from_is_err_and}
use Rattle.hushlang.specs.LexerShown.{token_of}
use Rattle.hushlang.specs.TreesShown as view
use Rattle.hushlang.specs.declared.token.SyntaxError.TheVariants.{Memory}
use Rattle.hushlang.proofs.WordLists.{values_begin, values_step, values_none, values_end}
use Rattle.hushlang.proofs.parsing.assignments.Goals as goal

pub words-init : goal.words-init
words-init c = rw c.new-all.ensures.items (values_begin c.args.tokens.now)

pub returns-in_err-assigned : goal.returns-in_err-assigned
returns-in_err-assigned c =
    let whole = λ (e : c.in_err-assigned.field-0.0 ≢ Memory).
    let p = c.in_err-assigned.ensures.err e in
    values_none c.args.tokens.now c.words.tokens (map view.value c.words.all.items) (token_of c.in-Some.token) (sym c.in-Some.ensures.value) p.0 c.words.invariant ∙ ap Err (sym p.1) in
    let p = err_from_is_err_and c.from_residual.result c.from_residual.ensures.1 in
    record { reads = rw (p.1, p.2) whole }

pub words-preserved : goal.words-preserved
words-preserved c = rw (c.take.ensures.after, c.in_ok-push.ensures.items, map-append) (values_step c.args.tokens.now c.words.tokens (map view.value c.words.all.items) (token_of c.in-Some.token) (view.value c.in_ok-assigned.field-0) (sym c.in-Some.ensures.value) c.in_ok-assigned.ensures.value c.words.invariant)

pub returns : goal.returns
returns c = record { reads = values_end c.args.tokens.now c.words.tokens (map view.value c.words.all.items) (sym c.in_default.ensures.value) c.words.invariant }
