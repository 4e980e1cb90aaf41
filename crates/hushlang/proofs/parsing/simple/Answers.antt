use Rattle.std.proofs.Common.{◌∙◌, ◌≢◌, Ok, ap, sym, map}
use Rattle.std.proofs.lemmas.Result.{err_from_is_err_and}
use Rattle.hushlang.specs.TreesShown as view
use Rattle.hushlang.specs.Tree.{Command, Simple}
use Rattle.hushlang.specs.declared.token.SyntaxError.TheVariants.{Memory}
use Rattle.hushlang.proofs.WordLists.{simple_words, simple_values, simple_refused, words_shorter, values_shorter, words_are_read}
use Rattle.hushlang.proofs.ViewLemmas.{command_simple, command_assign}
use Rattle.hushlang.proofs.parsing.simple.Goals as goal

pub returns-in_err-assignments-clause-reads : goal.returns-in_err-assignments-clause-reads
returns-in_err-assignments-clause-reads c =
    let word = sym c.at_word.ensures ∙ c.if-not-at_word.false in
    let assigns = sym c.at_assignment.ensures ∙ c.if-at_assignment.true in
    let whole = λ (e : c.in_err-assignments.field-0.0 ≢ Memory). simple_refused c.args.tokens.now c.in_err-assignments.field-0.0 word assigns (c.in_err-assignments.ensures.reads e) in
    let p = err_from_is_err_and c.from_residual.result c.from_residual.ensures.1 in
    rw (p.1, p.2) whole

pub returns-in_ok-assignments-clause-reads : goal.returns-in_ok-assignments-clause-reads
returns-in_ok-assignments-clause-reads c =
    let word = sym c.at_word.ensures ∙ c.if-not-at_word.false in
    let assigns = sym c.at_assignment.ensures ∙ c.if-at_assignment.true in
    simple_values c.args.tokens.now c.assignments.new.tokens (map view.value c.in_ok-assignments.field-0.items) word assigns c.in_ok-assignments.ensures.reads
    ∙ ap (λ (x : Command). Ok (x, c.assignments.new.tokens)) (sym (command_assign c.in_ok-assignments.field-0))

pub returns-in_err-word_list-clause-reads : goal.returns-in_err-word_list-clause-reads
returns-in_err-word_list-clause-reads c =
    let whole = λ (e : c.in_err-word_list.field-0.0 ≢ Memory). absurd (words_are_read c.args.tokens.now c.in_err-word_list.field-0.0 (c.in_err-word_list.ensures.reads e)) in
    let p = err_from_is_err_and c.from_residual-in_err-word_list.result c.from_residual-in_err-word_list.ensures.1 in
    rw (p.1, p.2) whole

pub returns-in_ok-assignments-clause-shrinks : goal.returns-in_ok-assignments-clause-shrinks
returns-in_ok-assignments-clause-shrinks c =
    let word = sym c.at_word.ensures ∙ c.if-not-at_word.false in
    values_shorter c.args.tokens.now c.assignments.new.tokens (map view.value c.in_ok-assignments.field-0.items) word c.in_ok-assignments.ensures.reads

pub returns-in_err-new-clause-reads : goal.returns-in_err-new-clause-reads
returns-in_err-new-clause-reads c =
    let whole = λ (e : c.in_err-new.field-0.0 ≢ Memory). absurd (e c.in_err-new.ensures.err) in
    let p = err_from_is_err_and c.from_residual-in_err-new.result c.from_residual-in_err-new.ensures.1 in
    rw (p.1, p.2) whole

pub returns-in_ok-new-clause-reads : goal.returns-in_ok-new-clause-reads
returns-in_ok-new-clause-reads c =
    let word = sym c.at_word.ensures ∙ c.if-not-at_word.false in
    let assigns = sym c.at_assignment.ensures ∙ c.if-at_assignment.false in
    simple_words c.args.tokens.now c.word_list.new.tokens (map view.word c.in_ok-word_list.field-0.items) word assigns c.in_ok-word_list.ensures.reads
    ∙ ap (λ (x : Command). Ok (x, c.word_list.new.tokens)) (sym (command_simple c.in_ok-new.field-0 ∙ ap Simple c.in_ok-new.ensures.words))

pub returns-in_ok-new-clause-shrinks : goal.returns-in_ok-new-clause-shrinks
returns-in_ok-new-clause-shrinks c =
    let word = sym c.at_word.ensures ∙ c.if-not-at_word.false in
    words_shorter c.args.tokens.now c.word_list.new.tokens (map view.word c.in_ok-word_list.field-0.items) word c.in_ok-word_list.ensures.reads
