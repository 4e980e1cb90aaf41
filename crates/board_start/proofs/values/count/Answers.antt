use Rattle.std.proofs.Common.{◌≡◌, ◌∙◌, ◌+◌, ◌*◌, ◌<◌, ◌≤◌, ℕ, ap, sym, subst, Some, length, drop, arith}
use Rattle.std.proofs.Math.Nat.{one-le-mul}
use Rattle.std.specs.Prelude.{slice_get}
use Rattle.std.specs.Map.Iter.{deref_pair}
use Rattle.std.specs.Option.{option_map}
use Rattle.device_list.specs.DevicesShown.{Bytes}
use Rattle.board_start.specs.declared.values.Values.{Values}
use Rattle.board_start.specs.Start.{choices}
use Rattle.board_start.specs.StartShown.{givens_shown}
use Rattle.board_start.proofs.EntryLemmas.{counted, beyond, many_values, choices-some}
use Rattle.board_start.proofs.values.count.Goals as goal
use Rattle.board_start.proofs.values.count.Goals.{then-more-ge64-via-then-more-ge64, then-more-ge64-via-else-more-ge64+then-count-more-gt64}

pub returns-then-more-ge64 : goal.returns-then-more-ge64
returns-then-more-ge64 c =
    let entries = c.args.givens.now.entries in
    let entry : Bytes × Values = (c.unwrap.result.0.now, c.unwrap.result.1.now) in
    let there : slice_get entries c.loop-at.at ≡ Some entry = sym c.get_index.ensures.entry ∙ ap (option_map deref_pair) c.unwrap.ensures in
    let is = counted entries c.loop-at.at c.loop-at.count entry there c.loop-at.invariant.0 in
    let n : c.len-more.result ≡ length entry.1.others.items = c.len-more.ensures ∙ c.unwrap.result.1.now.others.ok.0 in
    let some = choices-some (givens_shown (drop (c.loop-at.at + 1) entries)) in
    elim c.then-more-ge64.branch [
      | then-more-ge64-via-then-more-ge64 w ↦
          beyond (c.loop-at.count * (length entry.1.others.items + 1)) (choices (givens_shown (drop (c.loop-at.at + 1) entries))) (choices (givens_shown entries)) is some
          (many_values c.loop-at.count (length entry.1.others.items) c.loop-at.invariant.2 (subst (λ (k : ℕ). 64 ≤ k) n w.if-more-ge64.true))
      | then-more-ge64-via-else-more-ge64+then-count-more-gt64 w ↦
          beyond (c.loop-at.count * (length entry.1.others.items + 1)) (choices (givens_shown (drop (c.loop-at.at + 1) entries))) (choices (givens_shown entries)) is some
          (subst (λ (k : ℕ). 64 < c.loop-at.count * (k + 1)) n w.if-count-more-gt64.true)
    ]

pub loop-at-preserved : goal.loop-at-preserved
loop-at-preserved c =
    let entries = c.args.givens.now.entries in
    let entry : Bytes × Values = (c.unwrap.result.0.now, c.unwrap.result.1.now) in
    let there : slice_get entries c.loop-at.at ≡ Some entry = sym c.get_index.ensures.entry ∙ ap (option_map deref_pair) c.unwrap.ensures in
    let n : c.len-more.result ≡ length entry.1.others.items = c.len-more.ensures ∙ c.unwrap.result.1.now.others.ok.0 in
    let rest : ℕ = choices (givens_shown (drop (c.loop-at.at + 1) entries)) in (
      counted entries c.loop-at.at c.loop-at.count entry there c.loop-at.invariant.0 ∙ ap (λ (k : ℕ). c.loop-at.count * (k + 1) * rest) (sym n),
      c.if-count-more-gt64.false,
      one-le-mul c.loop-at.invariant.2 (omega arith),
    )
