use Rattle.std.proofs.Common.{rules, ◌+◌, ◌≤◌, length}
use Rattle.commands.specs.UBootTestShown.{term_shown}
use Rattle.commands.proofs.UBootTestLemmas.{next_inside, next_read}
use Rattle.commands.proofs.uboot_test.next_term.Goals as goal

pub slice_bounds-result-count : goal.slice_bounds-result-count
slice_bounds-result-count c =
    next_inside c.args.words.now (term_shown c.in_ok-term.term) c.in_ok-term.taken c.in_ok-term.ensures

pub slice_bounds-result-start : goal.slice_bounds-result-start
slice_bounds-result-start c =
    let inside : 1 + c.in_ok-term.taken ≤ length c.args.words.now =
    next_inside c.args.words.now (term_shown c.in_ok-term.term) c.in_ok-term.taken c.in_ok-term.ensures in
    search rules

pub returns-clause-terms : goal.returns-clause-terms
returns-clause-terms c =
    next_read c.args.words.now (term_shown c.in_ok-term.term) c.in_ok-term.taken c.in_ok-term.ensures
