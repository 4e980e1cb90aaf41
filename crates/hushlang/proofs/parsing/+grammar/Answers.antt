use Rattle.std.proofs.Common.{◌≡◌, suc, ◌-◌, ◌<◌, ◌≤◌, map, length, ap, sym, ◌∙◌, refl, Some, None, arith}
use Rattle.std.proofs.Common.{List, [], ◌∷◌, ◌++◌}
use Rattle.std.proofs.lemmas.List.{map-append}
use Rattle.std.proofs.lemmas.Result.{err_from_is_err_and}
use Rattle.std.proofs.Common.{◌≢◌}
use Rattle.hushlang.specs.declared.token.SyntaxError.TheVariants.{Memory}
use Rattle.hushlang.specs.TreesShown as view
use Rattle.hushlang.specs.Tree as tree
use Rattle.hushlang.specs.declared.tree.Op.{Op}
use Rattle.hushlang.specs.Parsing as spec
use Rattle.hushlang.specs.declared.words.Reserved.TheVariants as r
use Rattle.hushlang.proofs.CommandRuleLemmas.{joined_more, joined_end, command_by, command_simple}
use Rattle.hushlang.specs.Grammar.{is_separator}
use Rattle.hushlang.specs.Parsing.{and_then, pure}
use Rattle.hushlang.proofs.ListRuleLemmas.{arms_by, arms_fail, more_refuses, lists_by_turn, lists_fail, behind_unmoved, next_shorter, keyword_seen, not_seen}
use Rattle.hushlang.proofs.WordLists.{words_within}
use Rattle.hushlang.proofs.parsing.+grammar.Goals as goal
use Rattle.std.proofs.Common.{true, false, Ok, Err}

pub command-returns-in_ok-enter-in-Some-If-clause-reads : goal.command-returns-in_ok-enter-in-Some-If-clause-reads
command-returns-in_ok-enter-in-Some-If-clause-reads t c =
    let word : spec.keyword c.args.tokens.now ≡ Some r.If = cc in
    let ok = c.in_ok-enter-in-Some-If.ensures.ok in
    rw (command_by c.args.depth c.args.tokens.now r.If ok.0 word) (rw ok.1 at c.if_command.ensures.reads)

pub command-returns-in_ok-enter-in-Some-While-clause-reads : goal.command-returns-in_ok-enter-in-Some-While-clause-reads
command-returns-in_ok-enter-in-Some-While-clause-reads t c =
    let word : spec.keyword c.args.tokens.now ≡ Some r.While = cc in
    let ok = c.in_ok-enter-in-Some-While.ensures.ok in
    rw (command_by c.args.depth c.args.tokens.now r.While ok.0 word) (rw ok.1 at c.loop_command.ensures.reads)

pub command-returns-in_ok-enter-in-Some-Until-clause-reads : goal.command-returns-in_ok-enter-in-Some-Until-clause-reads
command-returns-in_ok-enter-in-Some-Until-clause-reads t c =
    let word : spec.keyword c.args.tokens.now ≡ Some r.Until = cc in
    let ok = c.in_ok-enter-in-Some-Until.ensures.ok in
    rw (command_by c.args.depth c.args.tokens.now r.Until ok.0 word) (rw ok.1 at c.loop_command-in-Some-Until.ensures.reads)

pub command-returns-in-None-clause-reads : goal.command-returns-in-None-clause-reads
command-returns-in-None-clause-reads t c =
    let none : spec.keyword c.args.tokens.now ≡ None = cc in
    rw (command_simple c.args.depth c.args.tokens.now none) c.simple.ensures.reads

pub joined-joined-init : goal.joined-joined-init
unfolding spec.joined_all
joined-joined-init t c = (omega arith, (length c.args.tokens.now.tokens, omega arith, rw c.new-rest.ensures.items))

pub joined-returns-clause-reads : goal.joined-returns-clause-reads
joined-returns-clause-reads t c =
    let none : spec.op_next c.joined.tokens ≡ None = cc in
    c.joined.invariant.1.2 ∙ joined_end (spec.command c.args.depth) _ _ _ none

pub joined-joined-preserved : goal.joined-joined-preserved
joined-joined-preserved t c =
    let op : spec.op_next c.joined.tokens ≡ Some c.in-Some.op = cc in
    let turns = c.joined.invariant.1.0 in
    let left : 0 < length c.joined.tokens.tokens = c.in-Some.ensures.some refl in
    let some : 0 < c.joined.invariant.1.0 = omega arith in
    let more = joined_more (spec.command c.args.depth) turns _ c.joined.tokens c.in-Some.op some op in
    let rule = spec.command c.args.depth in
    let read = rw (c.skip_newlines.ensures.after, c.take.ensures.after) at c.in_ok-command.ensures.reads in
    let onto = λ (o : spec.Parsed tree.Command). spec.and_then o (λ one. spec.joined rule (turns - 1) (map view.joined c.joined.rest.items ++ (c.in-Some.op, one) ∷ [])) in
    let pushed = λ (found : List (Op × tree.Command)). spec.joined rule (turns - 1) found c.command.new.tokens in
    (omega (arith, c.in_ok-command.ensures.shrinks), (turns - 1, omega (arith, c.in_ok-command.ensures.shrinks), c.joined.invariant.1.2 ∙ more ∙ ap onto read ∙ ap pushed (sym (rw (c.in_ok-push.ensures.items, map-append)))))

pub joined-returns-in_err-command-clause-reads : goal.joined-returns-in_err-command-clause-reads
joined-returns-in_err-command-clause-reads t c =
    let op : spec.op_next c.joined.tokens ≡ Some c.in-Some.op = cc in
    let turns = c.joined.invariant.1.0 in
    let left : 0 < length c.joined.tokens.tokens = c.in-Some.ensures.some refl in
    let some : 0 < c.joined.invariant.1.0 = omega arith in
    let more = joined_more (spec.command c.args.depth) turns (map view.joined c.joined.rest.items) c.joined.tokens c.in-Some.op some op in
    let read = rw (c.skip_newlines.ensures.after, c.take.ensures.after) at c.in_err-command.ensures.reads in
    let onto = λ (o : spec.Parsed tree.Command). spec.and_then o (λ one. spec.joined (spec.command c.args.depth) (turns - 1) (map view.joined c.joined.rest.items ++ (c.in-Some.op, one) ∷ [])) in
    let whole = λ (e : c.in_err-command.field-0.0 ≢ Memory). c.joined.invariant.1.2 ∙ more ∙ ap onto (read e) in
    let p = err_from_is_err_and c.from_residual.result c.from_residual.ensures.1 in
    rw (p.1, p.2) whole

pub command-returns-in_ok-enter-in-Some-For-clause-reads : goal.command-returns-in_ok-enter-in-Some-For-clause-reads
command-returns-in_ok-enter-in-Some-For-clause-reads t c =
    let word : spec.keyword c.args.tokens.now ≡ Some r.For = cc in
    let ok = c.in_ok-enter-in-Some-For.ensures.ok in
    rw (command_by c.args.depth c.args.tokens.now r.For ok.0 word) (rw ok.1 at c.for_command.ensures.reads)

pub arms-arms-init : goal.arms-arms-init
unfolding spec.arms_all
arms-arms-init t c = (omega arith, (suc (length c.args.tokens.now.tokens), omega arith, rw c.new-arms.ensures.items))

pub arms-returns-in_err-arm-clause-reads : goal.arms-returns-in_err-arm-clause-reads
arms-returns-in_err-arm-clause-reads t c =
    let some : 0 < c.arms.invariant.1.0 = omega (arith, c.arms.invariant.1.1) in
    let whole = λ (e : c.in_err-arm.field-0.0 ≢ Memory). c.arms.invariant.1.2 ∙ arms_fail (spec.command c.args.depth) c.arms.invariant.1.0 (map view.arm c.arms.arms.items) c.arms.tokens c.in_err-arm.field-0.0 some (c.in_err-arm.ensures.reads e) in
    let p = err_from_is_err_and c.from_residual.result c.from_residual.ensures.1 in
    rw (p.1, p.2) whole

pub lists-lists-init : goal.lists-lists-init
unfolding spec.lists_all
lists-lists-init t c = (omega arith, (suc (length c.args.tokens.now.tokens), omega arith, rw c.new-lists.ensures.items))

pub lists-returns-in_err-and_or-clause-reads : goal.lists-returns-in_err-and_or-clause-reads
lists-returns-in_err-and_or-clause-reads t c =
    let some : 0 < c.lists.invariant.1.0 = omega (arith, c.lists.invariant.1.1) in
    let whole = λ (e : c.in_err-and_or.field-0.0 ≢ Memory). c.lists.invariant.1.2 ∙ lists_fail (spec.command c.args.depth) c.lists.invariant.1.0 (map view.list c.lists.lists.items) c.lists.tokens c.in_err-and_or.field-0.0 some (c.in_err-and_or.ensures.reads e) in
    let p = err_from_is_err_and c.from_residual.result c.from_residual.ensures.1 in
    rw (p.1, p.2) whole

pub lists-returns-then-closes_block-clause-reads : goal.lists-returns-then-closes_block-clause-reads
lists-returns-then-closes_block-clause-reads t c =
    let rule = spec.command c.args.depth in
    let turns = c.lists.invariant.1.0 in
    let some : 0 < turns = omega (arith, c.lists.invariant.1.1) in
    let found = map view.list c.lists.lists.items ++ view.list c.in_ok-and_or.field-0 ∷ [] in
    let pushed : map view.list c.push.new.self.items ≡ found = rw (c.in_ok-push.ensures.items, map-append) in
    let ends = ap spec.closes_next (sym c.skip_separators-separated.ensures.after) ∙ sym c.closes_block.ensures ∙ c.if-closes_block.true in
    c.lists.invariant.1.2 ∙ lists_by_turn rule turns (map view.list c.lists.lists.items) c.lists.tokens (view.list c.in_ok-and_or.field-0) c.and_or.new.tokens (spec.separator_next c.and_or.new.tokens) true some c.in_ok-and_or.ensures.reads refl ends
    ∙ ap (λ f. Ok (view.runs f, spec.behind is_separator c.and_or.new.tokens)) (sym pushed)
    ∙ ap (λ i. Ok (view.runs (map view.list c.push.new.self.items), i)) (sym c.skip_separators-separated.ensures.after)

pub lists-returns-then-not-separated-clause-reads : goal.lists-returns-then-not-separated-clause-reads
lists-returns-then-not-separated-clause-reads t c e =
    let rule = spec.command c.args.depth in
    let turns = c.lists.invariant.1.0 in
    let some : 0 < turns = omega (arith, c.lists.invariant.1.1) in
    let ends = ap spec.closes_next (sym c.skip_separators-separated.ensures.after) ∙ sym c.closes_block.ensures ∙ c.if-closes_block.false in
    let separated : spec.separator_next c.and_or.new.tokens ≡ false = sym c.skip_separators-separated.ensures.found ∙ c.if-not-separated.true in
    let unmoved = c.skip_separators-separated.ensures.after ∙ behind_unmoved c.and_or.new.tokens separated in
    c.lists.invariant.1.2 ∙ lists_by_turn rule turns (map view.list c.lists.lists.items) c.lists.tokens (view.list c.in_ok-and_or.field-0) c.and_or.new.tokens false false some c.in_ok-and_or.ensures.reads separated ends
    ∙ ap (λ i. Err (spec.refusal i)) (sym unmoved) ∙ ap Err (sym c.refuse.ensures)

pub lists-lists-preserved : goal.lists-lists-preserved
lists-lists-preserved t c =
    let rule = spec.command c.args.depth in
    let turns = c.lists.invariant.1.0 in
    let some : 0 < turns = omega (arith, c.lists.invariant.1.1) in
    let found = map view.list c.lists.lists.items ++ view.list c.in_ok-and_or.field-0 ∷ [] in
    let pushed : map view.list c.push.new.self.items ≡ found = rw (c.in_ok-push.ensures.items, map-append) in
    let ends = ap spec.closes_next (sym c.skip_separators-separated.ensures.after) ∙ sym c.closes_block.ensures ∙ c.if-closes_block.false in
    let separated : spec.separator_next c.and_or.new.tokens ≡ true = sym c.skip_separators-separated.ensures.found ∙ c.if-not-separated.false in (
      omega (arith, c.in_ok-and_or.ensures.shrinks, c.skip_separators-separated.ensures.shrinks, c.lists.invariant.0),
      (
        turns - 1,
        omega (arith, c.in_ok-and_or.ensures.shrinks, c.skip_separators-separated.ensures.shrinks, c.lists.invariant.1.1),
        c.lists.invariant.1.2 ∙ lists_by_turn rule turns (map view.list c.lists.lists.items) c.lists.tokens (view.list c.in_ok-and_or.field-0) c.and_or.new.tokens true false some c.in_ok-and_or.ensures.reads separated ends
            ∙ ap (λ i. spec.lists rule (turns - 1) found i) (sym c.skip_separators-separated.ensures.after) ∙ ap (λ f. spec.lists rule (turns - 1) f c.skip_separators-separated.new.self) (sym pushed),
      ),
    )

pub arms-arms-preserved : goal.arms-arms-preserved
arms-arms-preserved t c =
    let rule = spec.command c.args.depth in
    let turns = c.arms.invariant.1.0 in
    let some : 0 < turns = omega (arith, c.arms.invariant.1.1) in
    let word : spec.keyword c.arm.new.tokens ≡ Some r.Elif = keyword_seen r.Elif c.arm.new.tokens (sym c.sees-goes_on.ensures.value ∙ c.if-not-goes_on.false) in
    let more = arms_by rule turns (map view.arm c.arms.arms.items) c.arms.tokens (view.arm c.in_ok-arm.field-0) c.arm.new.tokens (Some r.Elif) some c.in_ok-arm.ensures.reads word in
    let pushed : map view.arm c.push.new.self.items ≡ map view.arm c.arms.arms.items ++ view.arm c.in_ok-arm.field-0 ∷ [] = rw (c.in_ok-push.ensures.items, map-append) in
    let taken = next_shorter c.arm.new.tokens in
    let left : length c.take-in-arms.new.self.tokens ≤ length c.arm.new.tokens.tokens = rw c.take-in-arms.ensures.after taken in (
      omega (arith, c.in_ok-arm.ensures.shrinks, left, c.arms.invariant.0),
      (
        turns - 1,
        omega (arith, c.in_ok-arm.ensures.shrinks, left, c.arms.invariant.1.1),
        c.arms.invariant.1.2 ∙ more ∙ ap (λ i. spec.arms rule (turns - 1) (map view.arm c.arms.arms.items ++ view.arm c.in_ok-arm.field-0 ∷ []) i) (sym c.take-in-arms.ensures.after) ∙ ap (λ f. spec.arms rule (turns - 1) f c.take-in-arms.new.self) (sym pushed),
      ),
    )

pub arms-returns-in_err-other-clause-reads : goal.arms-returns-in_err-other-clause-reads
arms-returns-in_err-other-clause-reads t c =
    let rule = spec.command c.args.depth in
    let turns = c.arms.invariant.1.0 in
    let some : 0 < turns = omega (arith, c.arms.invariant.1.1) in
    let word : spec.keyword c.arm.new.tokens ≡ Some r.Else = keyword_seen r.Else c.arm.new.tokens (sym c.sees-last.ensures.value ∙ c.if-last.true) in
    let more = arms_by rule turns (map view.arm c.arms.arms.items) c.arms.tokens (view.arm c.in_ok-arm.field-0) c.arm.new.tokens (Some r.Else) some c.in_ok-arm.ensures.reads word in
    let read = rw c.take.ensures.after at c.in_err-other.ensures.reads in
    let onto = λ (x : spec.Parsed tree.Script). and_then x (λ b. pure (view.arms (map view.arm c.arms.arms.items ++ view.arm c.in_ok-arm.field-0 ∷ []) (Some b))) in
    let whole = λ (e : c.in_err-other.field-0.0 ≢ Memory). c.arms.invariant.1.2 ∙ more ∙ ap onto (read e) in
    let p = err_from_is_err_and c.from_residual-in_err-other.result c.from_residual-in_err-other.ensures.1 in
    rw (p.1, p.2) whole

pub arms-returns-then-last-clause-reads : goal.arms-returns-then-last-clause-reads
arms-returns-then-last-clause-reads t c =
    let rule = spec.command c.args.depth in
    let turns = c.arms.invariant.1.0 in
    let some : 0 < turns = omega (arith, c.arms.invariant.1.1) in
    let word : spec.keyword c.arm.new.tokens ≡ Some r.Else = keyword_seen r.Else c.arm.new.tokens (sym c.sees-last.ensures.value ∙ c.if-last.true) in
    let found = map view.arm c.arms.arms.items ++ view.arm c.in_ok-arm.field-0 ∷ [] in
    let more = arms_by rule turns (map view.arm c.arms.arms.items) c.arms.tokens (view.arm c.in_ok-arm.field-0) c.arm.new.tokens (Some r.Else) some c.in_ok-arm.ensures.reads word in
    let read = rw c.take.ensures.after at c.in_ok-other.ensures.reads in
    let onto = λ (x : spec.Parsed tree.Script). and_then x (λ b. pure (view.arms found (Some b))) in
    let pushed : map view.arm c.push.new.self.items ≡ found = rw (c.in_ok-push.ensures.items, map-append) in
    c.arms.invariant.1.2 ∙ more ∙ ap onto read
    ∙ ap (λ f. Ok (view.arms f (Some (view.script c.in_ok-other.other)), c.block.new.tokens)) (sym pushed)
    ∙ ap (λ s. Ok (view.arms (map view.arm c.push.new.self.items) (Some (view.script s)), c.block.new.tokens)) (sym c.in_ok-new.ensures.ok)

pub arms-returns-then-ends-clause-reads : goal.arms-returns-then-ends-clause-reads
arms-returns-then-ends-clause-reads t c =
    let rule = spec.command c.args.depth in
    let turns = c.arms.invariant.1.0 in
    let some : 0 < turns = omega (arith, c.arms.invariant.1.1) in
    let word : spec.keyword c.arm.new.tokens ≡ Some r.Fi = keyword_seen r.Fi c.arm.new.tokens (sym c.sees-ends.ensures.value ∙ c.if-ends.true) in
    let found = map view.arm c.arms.arms.items ++ view.arm c.in_ok-arm.field-0 ∷ [] in
    let pushed : map view.arm c.push.new.self.items ≡ found = rw (c.in_ok-push.ensures.items, map-append) in
    c.arms.invariant.1.2 ∙ arms_by rule turns (map view.arm c.arms.arms.items) c.arms.tokens (view.arm c.in_ok-arm.field-0) c.arm.new.tokens (Some r.Fi) some c.in_ok-arm.ensures.reads word
    ∙ ap (λ f. Ok (view.arms f None, c.arm.new.tokens)) (sym pushed)

pub arms-returns-then-not-goes_on-clause-reads : goal.arms-returns-then-not-goes_on-clause-reads
arms-returns-then-not-goes_on-clause-reads t c e =
    let rule = spec.command c.args.depth in
    let turns = c.arms.invariant.1.0 in
    let some : 0 < turns = omega (arith, c.arms.invariant.1.1) in
    let found = map view.arm c.arms.arms.items ++ view.arm c.in_ok-arm.field-0 ∷ [] in
    let more = arms_by rule turns (map view.arm c.arms.arms.items) c.arms.tokens (view.arm c.in_ok-arm.field-0) c.arm.new.tokens (spec.keyword c.arm.new.tokens) some c.in_ok-arm.ensures.reads refl in
    let elif = not_seen r.Elif c.arm.new.tokens (sym c.sees-goes_on.ensures.value ∙ c.if-not-goes_on.true) in
    let other = not_seen r.Else c.arm.new.tokens (sym c.sees-last.ensures.value ∙ c.if-last.false) in
    let fi = not_seen r.Fi c.arm.new.tokens (sym c.sees-ends.ensures.value ∙ c.if-ends.false) in
    c.arms.invariant.1.2 ∙ more ∙ more_refuses rule (spec.arms rule (turns - 1)) found (spec.keyword c.arm.new.tokens) c.arm.new.tokens elif other fi ∙ ap Err (sym c.refuse.ensures)

pub for_command-returns-clause-shrinks : goal.for_command-returns-clause-shrinks
for_command-returns-clause-shrinks t c =
    let words = words_within c.expect_in.new.self c.word_list.new.tokens (map view.word c.in_ok-words.words.items) c.in_ok-words.ensures.reads in
    omega (arith, words, c.in_ok-name.ensures.shrinks, c.in_ok-expect_in.ensures.shrinks, c.in_ok-separators.ensures.shrinks, c.in_ok-body.ensures.shrinks)
