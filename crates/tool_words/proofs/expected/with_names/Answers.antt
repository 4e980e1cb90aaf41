use Rattle.std.proofs.Common.{◌≡◌, ◌∙◌, ◌+◌, Bool, true, false, ap, not, subst, string_bytes, sym}
use Rattle.std.specs.HashSet.{contains_text}
use Rattle.tool_words.proofs.ExpectedLemmas.{AreNamed, Has, has_more, has_still, is_absent, is_present, looked_for, name_added, name_kept}
use Rattle.tool_words.proofs.expected.with_names.Goals as goal
use Rattle.tool_words.proofs.expected.with_names.Goals.{then-branch+in_ok-clone-2+in_ok-push, else-branch}

pub loop-value-preserved : goal.loop-value-preserved
loop-value-preserved c =
    let first = c.args.names.items in
    let values = c.args.values.now in
    let i = c.loop-value.value-index in
    let value = c.value-item.result in
    let names = c.loop-value.names.items in
    let key = c.in_ok-clone.field-0 in
    let within = c.loop-value-test.true in
    let added : c.in_ok-insert.field-0 ≡ not (contains_text c.loop-value.known (string_bytes key)) = c.in_ok-insert.ensures.added in
    let there = λ (b : Bool) (is : b ≡ contains_text c.loop-value.known (string_bytes key)). looked_for values i value names c.loop-value.known key b c.in_ok-clone.ensures.cases c.value-item.is is c.loop-value.invariant.known in
    elim c.if-branch.branch [
      | then-branch+in_ok-clone-2+in_ok-push w ↦
          let absent = is_absent c.in_ok-insert.field-0 (contains_text c.loop-value.known (string_bytes key)) added w.if-branch.true in
          let name = w.in_ok-clone-2.ensures.cases ∙ ap (λ v. string_bytes v.name) c.value-item.is in
          let items = ap (λ ns. ns.items) w.names-is ∙ w.in_ok-push.ensures.items in
          record {
            named = subst (AreNamed first values (i + 1)) (sym items) (name_added first names values i value w.in_ok-clone-2.field-0 within (there false absent) name c.loop-value.invariant.named);
            known = subst (Has c.insert.new.self) (sym items) (has_more c.loop-value.known c.insert.new.self names key w.in_ok-clone-2.field-0 c.in_ok-insert.ensures.updates (w.in_ok-clone-2.ensures.cases ∙ sym c.in_ok-clone.ensures.cases) c.loop-value.invariant.known);
          }
      | else-branch w ↦
          let present = is_present c.in_ok-insert.field-0 (contains_text c.loop-value.known (string_bytes key)) added w.if-branch.false in
          record {
            named = subst (λ ns. AreNamed first values (i + 1) ns.items) (sym w.names-is) (name_kept first names values i value within (there true present) c.loop-value.invariant.named);
            known = subst (λ ns. Has c.insert.new.self ns.items) (sym w.names-is) (has_still c.loop-value.known c.insert.new.self names key c.in_ok-insert.ensures.keys (sym present) c.loop-value.invariant.known);
          }
    ]
