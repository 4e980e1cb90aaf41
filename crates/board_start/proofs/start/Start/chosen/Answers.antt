use Rattle.std.proofs.Common.{◌≡◌, ◌∙◌, ◌+◌, ◌-◌, ◌/◌, ◌%◌, ℕ, ap, sym, subst, Some, length, drop, List, ◌∷◌, [], ◌++◌, arith}
use Rattle.std.proofs.lemmas.List.{map-append}
use Rattle.indexmap.proofs.ReorderLemmas.{map-reverse}
use Rattle.std.specs.Prelude.{slice_get, reverse}
use Rattle.std.specs.Borrow.{Bor}
use Rattle.std.specs.Map.Iter.{deref_pair}
use Rattle.std.specs.Option.{option_map}
use Rattle.text.specs.Lines.{Text}
use Rattle.device_list.specs.DevicesShown.{Bytes}
use Rattle.board_start.specs.declared.values.Values.{Values}
use Rattle.board_start.specs.Start.{Start, chosen, chosen_from, value_at}
use Rattle.board_start.specs.StartShown.{givens_shown, pairs_shown, values_shown}
use Rattle.board_start.proofs.EntryLemmas.{one_in_front}
use Rattle.board_start.proofs.start.Start.chosen.Goals as goal

pub loop-at-preserved : goal.loop-at-preserved
loop-at-preserved c =
    let entries = c.self.inside.givens.entries in
    let at = c.loop-at.at - 1 in
    let entry : Bytes × Values = (c.unwrap.result.0.now, c.unwrap.result.1.now) in
    let there : slice_get entries at ≡ Some entry = sym c.get_index.ensures.entry ∙ ap (option_map deref_pair) c.unwrap.ensures in
    let next : at + 1 ≡ c.loop-at.at = omega (arith, c.loop-at-test.true) in
    let pairs : List (Text × Text) = pairs_shown c.loop-at.pairs.items in
    let n : c.len-count.result ≡ length entry.1.others.items = c.len-count.ensures ∙ c.unwrap.result.1.now.others.ok.0 in
    let so_far = subst (λ (k : ℕ). chosen_from (givens_shown (drop k entries)) c.args.place ≡ (reverse pairs, c.loop-at.left)) (sym next) c.loop-at.invariant.0 in
    let one = one_in_front entries at entry c.args.place c.loop-at.left pairs there so_far in
    let name : c.as_slice.result.now ≡ entry.0.items = c.as_slice.ensures.value in
    let value : c.value_at.result.now ≡ value_at (values_shown entry.1) (c.loop-at.left % (c.len-count.result + 1)) = c.value_at.ensures in
    let pushed : pairs_shown c.push.new.self.items ≡ pairs ++ (c.as_slice.result.now, c.value_at.result.now) ∷ [] =
    ap pairs_shown c.in_ok-push.ensures.items ∙ map-append (λ (p : Bor (List ℕ) × Bor (List ℕ)). (p.0.now, p.1.now)) c.loop-at.pairs.items ((c.as_slice.result, c.value_at.result) ∷ []) in
    let same : pairs_shown c.push.new.self.items ≡ pairs ++ (entry.0.items, value_at (values_shown entry.1) (c.loop-at.left % (length entry.1.others.items + 1))) ∷ [] =
    pushed ∙ (λ i. pairs ++ (name i, (value ∙ ap (λ (k : ℕ). value_at (values_shown entry.1) (c.loop-at.left % (k + 1))) n) i) ∷ []) in (
      one ∙ (λ i. (reverse (sym same i), c.loop-at.left / (sym n i + 1))),
      omega (arith, c.loop-at.invariant.1),
    )

pub returns : goal.returns
returns c =
    let entries = c.self.inside.givens.entries in
    let none : c.loop-at.at ≡ 0 = omega (arith, c.loop-at-test.false) in
    let all = subst (λ (k : ℕ). chosen_from (givens_shown (drop k entries)) c.args.place ≡ (reverse (pairs_shown c.loop-at.pairs.items), c.loop-at.left)) none c.loop-at.invariant.0 in
    ap pairs_shown c.reverse.ensures.items
    ∙ map-reverse (λ (p : Bor (List ℕ) × Bor (List ℕ)). (p.0.now, p.1.now)) c.loop-at.pairs.items
    ∙ sym (ap (λ (r : List (Text × Text) × ℕ). r.0) all)
    ∙ ap (λ (s : Start). chosen s c.args.place) c.self.view_is
