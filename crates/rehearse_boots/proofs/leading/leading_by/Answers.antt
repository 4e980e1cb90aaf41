use Rattle.std.proofs.Common.{rules, zero-add, ◌≡◌, ◌≤◌, ◌+◌, ◌∙◌, [], Some, suc, ap, length, subst, sym, arith, ℕ, List, Bool}
use Rattle.std.proofs.lemmas.List.{nil_from_length}
use Rattle.std.specs.Option.{option_map}
use Rattle.rehearse_boots.specs.Leading.{lists_of}
use Rattle.rehearse_boots.specs.LeadingRounds.{AreFound, AreTurned, Marks, places_before}
use Rattle.rehearse_boots.proofs.LeadingLemmas.{first_left, found_first, found_inside, found_more, lists_long, marked_all, marked_closed, one_less_left, turned_inside, written_back}
use Rattle.rehearse_boots.proofs.leading.leading_by.Goals as goal
use Rattle.rehearse_boots.proofs.leading.leading_by.Goals.{then-rounds-test+else-ne, else-rounds-test}

pub rounds-init : goal.rounds-init
rounds-init c =
    let goals = c.args.goals.now in
    let links = lists_of c.args.links.now in
    let latest = c.in_ok-latest.latest.items in
    (1, rw c.in_ok-marks.ensures.items (found_first goals links latest c.in_ok-latest.ensures), first_left c.args.count)

pub mark_before-requires-clause-places : goal.mark_before-requires-clause-places
mark_before-requires-clause-places c =
    let goals = c.args.goals.now in
    let links = lists_of c.args.links.now in
    let back = c.in_ok-back.back.items in
    let long : length goals ≡ length c.deref.result.now = sym c.requires.each ∙ (sym c.in_ok-back.ensures.each ∙ (lists_long back ∙ ap length (sym c.deref.ensures.value))) in
    rw c.deref-in-rounds.ensures.value (found_inside goals links c.rounds.invariant.0 (length c.deref.result.now) c.rounds.marks.items c.rounds.latest.items c.rounds.invariant.1 long)

pub mark_before-requires-clause-back : goal.mark_before-requires-clause-back
mark_before-requires-clause-back c =
    let links = lists_of c.args.links.now in
    let back = c.in_ok-back.back.items in
    let marks = c.deref_mut.result.now in
    let long : length links ≡ length marks = lists_long c.args.links.now ∙ (c.requires.each ∙ (sym c.rounds.invariant.1.each ∙ ap length (sym c.deref_mut.ensures.value))) in
    rw c.deref.ensures.value (turned_inside (length c.args.links.now) (length marks) links (lists_of back) c.in_ok-back.ensures long)

pub rounds-preserved : goal.rounds-preserved
rounds-preserved c =
    let goals = c.args.goals.now in
    let links = lists_of c.args.links.now in
    let back = lists_of c.in_ok-back.back.items in
    let count = c.rounds.invariant.0 in
    let old = c.rounds.marks.items in
    let new = c.mark_before.new.marks in
    let latest = c.rounds.latest.items in
    let found = c.in_ok-latest-2.latest.items in
    let turned : AreTurned (length links) links back = subst (λ (n : ℕ). AreTurned n links back) (sym (lists_long c.args.links.now)) c.in_ok-back.ensures in
    let same : length new ≡ length old = c.mark_before.auto.marks ∙ ap length c.deref_mut.ensures.value in
    let few : length old ≤ c.rounds.marks.len = omega (arith, c.deref_mut.ensures.len, ap length c.deref_mut.ensures.value) in
    let over = subst (λ (places : List ℕ). Marks (places_before (lists_of c.deref.result.now) places) c.deref_mut.result.now new [] found) c.deref-in-rounds.ensures.value c.in_ok-latest-2.ensures in
    let from = subst (λ (marks : List Bool). Marks (places_before (lists_of c.deref.result.now) latest) marks new [] found) c.deref_mut.ensures.value over in
    let round = subst (λ lists. Marks (places_before (lists_of lists) latest) old new [] found) c.deref.ensures.value from in
    let all = written_back c.rounds.marks.len new old same few in
    (suc count, rw all (found_more goals links back turned count latest found old new c.rounds.invariant.1 round), c.rounds.invariant.2 ∙ one_less_left count c.rounds.left c.one_less-left.result c.one_less-left.ensures)

pub returns : goal.returns
returns c =
    let goals = c.args.goals.now in
    let links = lists_of c.args.links.now in
    let count = c.rounds.invariant.0 in
    let marks = c.rounds.marks.items in
    let latest = c.rounds.latest.items in
    let found = c.rounds.invariant.1 in
    elim c.rounds-test.branch [
      | then-rounds-test+else-ne w ↦
          let left : c.rounds.left ≡ Some 0 = search rules in
          let within : option_map (λ n. n + count) (Some 0) ≡ Some count = ap Some (zero-add count) in
          rw c.rounds.invariant.2 (rw left (rw within (marked_all goals links count marks latest found)))
      | else-rounds-test w ↦
          let none : latest ≡ [] = nil_from_length latest (search rules) in
          rw c.rounds.invariant.2 (marked_closed goals links count c.rounds.left marks (subst (λ (those : List ℕ). AreFound goals links count marks those) none found))
    ]
