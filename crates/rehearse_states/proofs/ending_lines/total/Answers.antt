use Rattle.std.proofs.Common.{◌∙◌, ◌+◌, ◌++◌, ◌∷◌, [], ap, sym, map, take}
use Rattle.std.proofs.lemmas.List.{map_more}
use Rattle.rehearse_states.specs.Endings.{Row}
use Rattle.rehearse_states.specs.RowsShown.{row_shown}
use Rattle.rehearse_states.proofs.EndingLineLemmas.{counted_more}
use Rattle.rehearse_states.proofs.ending_lines.total.Goals as goal

pub loop-row-preserved : goal.loop-row-preserved
loop-row-preserved c =
    let items = c.deref-row-items.result.now in
    let i = c.loop-row.row-index in
    let row = c.row-item.result in
    let more = map_more row_shown items i row c.loop-row-test.true ∙ ap (λ (r : Row). map row_shown (take i items) ++ r ∷ []) (sym (ap row_shown c.row-item.is)) in
    counted_more (map row_shown (take i items)) (map row_shown (take (i + 1) items)) (row_shown row) c.loop-row.count c.saturating_add-count.result more c.loop-row.invariant c.saturating_add-count.ensures
