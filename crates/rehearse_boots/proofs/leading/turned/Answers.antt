use Rattle.std.proofs.Common.{◌≡◌, ◌<◌, ◌≤◌, ◌∙◌, [], ap, get_or, length, subst, sym, arith, ℕ, List}
use Rattle.rehearse_boots.specs.Leading.{lists_of}
use Rattle.rehearse_boots.specs.LeadingRounds.{AddsBack, AreTurned}
use Rattle.rehearse_boots.proofs.LeadingLemmas.{list_at, lists_inside, lists_long, turned_none, turned_step, written_back}
use Rattle.rehearse_boots.proofs.leading.turned.Goals as goal

pub loop-from-init : goal.loop-from-init
loop-from-init c =
    let count = length c.args.links.now in
    subst (λ (back : List (List ℕ)). AreTurned count [] back) (sym c.in_ok-back.ensures) (turned_none count)

pub add_back-requires : goal.add_back-requires
add_back-requires c =
    let links = c.args.links.now in
    let inside = lists_inside links c.loop-from.from (length links) c.index-links-from.result c.loop-from-test.true c.index-links-from.is c.requires in
    let long : length c.deref_mut.result.now ≡ length links = ap length c.deref_mut.ensures.value ∙ (sym (lists_long c.loop-from.back.items) ∙ c.loop-from.invariant.each) in
    rw (c.deref.ensures.value, long) inside

pub loop-from-preserved : goal.loop-from-preserved
loop-from-preserved c =
    let links = c.args.links.now in
    let from = c.loop-from.from in
    let old = c.loop-from.back.items in
    let new = c.add_back.new.back in
    let few : from < length (lists_of links) = omega (arith, lists_long links, c.loop-from-test.true) in
    let list = c.deref.ensures.value ∙ sym (list_at links from c.index-links-from.result c.loop-from-test.true c.index-links-from.is) in
    let same : length new ≡ length old = c.add_back.auto.back ∙ ap length c.deref_mut.ensures.value in
    let count : length old ≤ c.loop-from.back.len = omega (arith, c.deref_mut.ensures.len, ap length c.deref_mut.ensures.value) in
    let added = subst (λ (l : List ℕ). AddsBack from l (lists_of c.deref_mut.result.now) (lists_of new)) list c.in_ok-add_back.ensures in
    let all = written_back c.loop-from.back.len new old same count in
    rw all
    (turned_step (length links) (lists_of links) from (lists_of old) (lists_of new) few c.loop-from.invariant
    (subst (λ (l : List (List ℕ)). AddsBack from (get_or (lists_of links) from []) l (lists_of new)) (ap lists_of c.deref_mut.ensures.value) added))
