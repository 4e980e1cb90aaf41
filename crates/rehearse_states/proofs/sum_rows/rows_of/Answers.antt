use Rattle.std.proofs.Common.{map, List, length, ◌<◌, ℕ, ◌≡◌, ◌∙◌, ◌+◌, ◌∷◌, [], ap, sym, subst, arith}
use Rattle.std.proofs.lemmas.List.{map-append, length-map}
use Rattle.rehearse_states.specs.RowsShown.{rows_shown}
use Rattle.rehearse_states.specs.SumNodes.{sum_shown}
use Rattle.rehearse_states.specs.SumRows.{AreMade, IsUsedAt, LeavesUsed, UsesAt, made_shown}
use Rattle.rehearse_states.proofs.SumLemmas.{draws_within, made_next, node_got}
use Rattle.rehearse_states.proofs.sum_rows.rows_of.Goals as goal

pub loop-at-preserved : goal.loop-at-preserved
loop-at-preserved c =
    let sums = map sum_shown c.args.nodes.now in
    let at = c.loop-at.at in
    let node = c.index-nodes-at.result in
    let last = c.in_ok-last.last.items in
    let old = made_shown c.loop-at.made in
    let mid = made_shown c.rows_at.new.made in
    let rows = rows_shown c.in_ok-rows.rows in
    let got = node_got c.args.nodes.now at node c.loop-at-test.true c.index-nodes-at.is in
    let same = c.deref.ensures.value in
    let leaves = subst (λ (x : List ℕ). LeavesUsed x (at + 1) old mid) same c.in_ok-rows.ensures.leaves in
    let are = subst (λ (x : List ℕ). AreMade sums x at old) (sym same) c.loop-at.invariant in
    let uses = subst (λ (x : List ℕ). UsesAt (sum_shown node) x at) (sym same) (c.in_ok-last.ensures.uses at c.loop-at-test.true (sum_shown node) got) in
    subst (AreMade sums last (at + 1)) (sym (ap (map rows_shown) c.in_ok-push.ensures.items ∙ map-append rows_shown c.rows_at.new.made.items (c.in_ok-rows.rows ∷ [])))
    (made_next sums last at old mid rows c.loop-at.invariant leaves (λ drawn d. c.in_ok-rows.ensures.rows sums drawn are got uses d))

pub returns : goal.returns
returns c drawn d =
    let sums = map sum_shown c.args.nodes.now in
    let within = draws_within sums c.args.root drawn d in
    let many = length-map c.args.nodes.now sum_shown in
    let below : c.args.root < length c.args.nodes.now = omega arith in
    let past = c.loop-at-test.false in
    let all : length c.args.nodes.now ≡ c.loop-at.at = omega arith in
    c.in_ok-rows-2.ensures.rows drawn
    (c.loop-at.invariant.kept c.args.root (omega arith) drawn (subst (IsUsedAt c.in_ok-last.last.items c.args.root) all (c.in_ok-last.ensures.root below)) d)
