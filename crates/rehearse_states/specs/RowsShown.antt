-- What contracts see of rows and summaries. Ours.
use Rattle.std.specs.Prelude.{ℕ, ◌+◌, min, List, [], ◌∷◌, map, Bool, true, false, Option, Some, None, option_map, Vec}
use Rattle.std.specs.declared.alloc.Global.{Global}
use Rattle.rehearse_terms.specs.Outcomes.{OutcomeWord, Success, Failure}
use Rattle.rehearse_rules.specs.EndingsShown.{halt_shown}
use Rattle.rehearse_states.specs.Endings.{RunEnd, Row, end_eq, fewer, in_front, counts_at}
use Rattle.rehearse_states.specs.Summaries.{Summary}
use Rattle.rehearse_terms.specs.State.{Text}
use Rattle.rehearse_states.specs.declared.rows.Row as rt
use Rattle.rehearse_states.specs.declared.run_end.RunEnd as made
use Rattle.rehearse_states.specs.declared.summary.Summary as kept

-- the greatest count; a greater one is written as this
abbrev pub most_runs : ℕ
most_runs = 340282366920938463463374607431768211455

abbrev pub saturated : Row → Row
saturated r = record r { count = min r.count most_runs }

-- `joined`, `with_row` and what is built from them, with counts up to the greatest
abbrev pub joined_up : Row → Row → Row
joined_up r row = record r { count = min (r.count + row.count) most_runs; fewest = fewer r.fewest row.fewest }

abbrev pub with_row_up : List Row → Row → List Row
with_row_up [] row = row ∷ []
with_row_up (r ∷ rs) row =
    elim (end_eq r.run_end row.run_end) [
      | true ↦ joined_up r row ∷ rs
      | false ↦ r ∷ with_row_up rs row
    ]

abbrev pub merge_up : List Row → List Row → List Row
merge_up rows [] = rows
merge_up rows (r ∷ rs) = merge_up (with_row_up rows r) rs

abbrev pub of_both_up : (expected : Option Bool) → (won lost : List Row) → List Row
of_both_up expected won lost =
    merge_up (map (in_front Success (counts_at expected Success)) won) (map (in_front Failure (counts_at expected Failure)) lost)

abbrev pub value_shown : Option (Vec ℕ Global) → Option Text
value_shown value = option_map (λ v. v.items) value

abbrev pub run_end_shown : made.RunEnd → RunEnd
run_end_shown e = record { ending = halt_shown e.halt; values = map value_shown e.values.items }

-- the first of some runs with the fewest unexpected answers, if it is not the first of all
abbrev pub fewest_of : (word : OutcomeWord) → (fewest : Option OutcomeWord) → OutcomeWord
fewest_of word None = word
fewest_of word (Some fewest) = fewest

abbrev pub row_shown : rt.Row → Row
row_shown r = record {
  run_end = run_end_shown r.run_end.value;
  count = r.count;
  word = r.word;
  fewest = (fewest_of r.word r.fewest, r.unexpected);
}

abbrev pub rows_shown : Vec rt.Row Global → List Row
rows_shown rows = map row_shown rows.items

-- a summary with these rows
abbrev pub summary_with : List Row → kept.Summary → Summary
summary_with rows s = record {
  rows = rows;
  steps = s.steps;
  devices = s.devices;
  cut_steps = s.cut_steps;
  cut_devices = s.cut_devices;
}

abbrev pub saturated_summary : Summary → Summary
saturated_summary s = record s { rows = map saturated s.rows }
