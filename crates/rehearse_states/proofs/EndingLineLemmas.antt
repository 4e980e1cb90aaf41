-- The lines of endings: counts that are too large, and the number of all runs.
use Rattle.std.proofs.Common.{ℕ, ◌+◌, min, Bool, true, false, List, [], ◌∷◌, ◌++◌, map, flat_map, length, refl, sym, ap, ◌∙◌, ◌≡◌, nat_lt, codes, decimal, if◌then◌else◌, append_assoc, arith}
use Rattle.std.proofs.lemmas.Bool.{ltb-true, ltb-false}
use Rattle.std.proofs.lemmas.List.{length-map}
use Rattle.rehearse_terms.specs.State.{Text}
use Rattle.rehearse_rules.specs.Listing.{spelled, line, last_line}
use Rattle.rehearse_terms.specs.Outcomes.{OutcomeWord}
use Rattle.rehearse_rules.specs.Expected.{Answered, unexpected_of}
use Rattle.rehearse_rules.specs.Runs.{Task, unexpected, all_runs}
use Rattle.rehearse_states.specs.Endings.{RunEnd, Row, Counted, end_eq, joined, with_row, merge, one_run, end_of, endings}
use Rattle.rehearse_states.specs.RowsShown.{most_runs, saturated}
use Rattle.rehearse_states.specs.Flow.{Node, Seen, IsFlow}
use Rattle.rehearse_states.specs.Drawing.{failing_on}
use Rattle.rehearse_states.specs.EndingLines.{failing, fails_lines, count_text, row_text, value_lines, row_lines, all_text, endings_text, counted}

-- ---- counts that are too large

count_if : (b : Bool) (n : ℕ) → nat_lt n most_runs ≡ b → count_text (min n most_runs) ≡ count_text n
count_if true n h = let l = ltb-true n most_runs h in ap count_text (let e : min n most_runs ≡ n = omega arith in e)
count_if false n h =
    let l = ltb-false n most_runs h in
    ap count_text (let e : min n most_runs ≡ most_runs = omega arith in e)
    ∙ sym (ap (λ (b : Bool). if b then decimal n else codes ">=" ++ decimal most_runs) h)

count_told : (n : ℕ) → count_text (min n most_runs) ≡ count_text n
count_told n = count_if (nat_lt n most_runs) n refl

pub row_told : (r : Row) → row_text (saturated r) ≡ row_text r
row_told r = ap (λ (t : Text). codes "ends " ++ t ++ codes " first " ++ spelled r.word ++ codes " fewest " ++ decimal r.fewest.1 ++ codes " " ++ spelled r.fewest.0 ++ codes " " ++ last_line r.run_end.ending) (count_told r.count)

-- what fails is said of the same word
lines_told : (names : List Text) (fails other : OutcomeWord → List Answered) → ((w : OutcomeWord) → fails w ≡ other w) → (r : Row) → row_lines names fails (saturated r) ≡ row_lines names other r
lines_told names fails other same r =
    ap (λ (t : Text). line t ++ (value_lines names r.run_end.values ++ fails_lines (fails r.fewest.0))) (row_told r)
    ∙ ap (λ (commands : List Answered). line (row_text r) ++ (value_lines names r.run_end.values ++ fails_lines commands)) (same r.fewest.0)

rows_told : (names : List Text) (fails other : OutcomeWord → List Answered) → ((w : OutcomeWord) → fails w ≡ other w) → (rows : List Row) → flat_map (row_lines names fails) (map saturated rows) ≡ flat_map (row_lines names other) rows
rows_told names fails other same [] = refl
rows_told names fails other same (r ∷ rs) =
    ap (λ (t : Text). t ++ flat_map (row_lines names fails) (map saturated rs)) (lines_told names fails other same r)
    ∙ ap (λ (t : Text). row_lines names other r ++ t) (rows_told names fails other same rs)

counted_up : (rows : List Row) → min (counted (map saturated rows)) most_runs ≡ min (counted rows) most_runs
counted_up [] = refl
counted_up (r ∷ rs) = let h = counted_up rs in omega (arith, h)

all_told : (rows : List Row) (states : ℕ) → all_text (counted (map saturated rows)) states ≡ all_text (counted rows) states
all_told rows states =
    ap (λ (t : Text). codes "all " ++ t ++ codes " states " ++ decimal states)
    (sym (count_told (counted (map saturated rows))) ∙ ap count_text (counted_up rows) ∙ count_told (counted rows))

saturated_told : (names : List Text) (fails other : OutcomeWord → List Answered) → ((w : OutcomeWord) → fails w ≡ other w) → (rows : List Row) (states : ℕ) → endings_text names fails (map saturated rows) (counted (map saturated rows)) states ≡ endings_text names other rows (counted rows) states
saturated_told names fails other same rows states =
    ap (λ (t : Text). t ++ line (all_text (counted (map saturated rows)) states)) (rows_told names fails other same rows)
    ∙ ap (λ (t : Text). flat_map (row_lines names other) rows ++ line t) (all_told rows states)

-- ---- the number of all runs

abbrev row_if : Bool → Row → List Row → Row → List Row
row_if b r rs row = elim b [ true ↦ joined r row ∷ rs | false ↦ r ∷ with_row rs row ]

counted_if : (b : Bool) (r : Row) (rs : List Row) (row : Row) → counted (with_row rs row) ≡ counted rs + row.count → counted (row_if b r rs row) ≡ (r.count + counted rs) + row.count
counted_if true r rs row h = omega arith
counted_if false r rs row h = omega (arith, h)

counted_with : (rs : List Row) (row : Row) → counted (with_row rs row) ≡ counted rs + row.count
counted_with [] row = omega arith
counted_with (r ∷ rs) row = counted_if (end_eq r.run_end row.run_end) r rs row (counted_with rs row)

counted_merge : (rs ts : List Row) → counted (merge rs ts) ≡ counted rs + counted ts
counted_merge rs [] = omega arith
counted_merge rs (t ∷ ts) = let h = counted_merge (with_row rs t) ts in let k = counted_with rs t in omega (arith, h, k)

counted_singles : (es : List (RunEnd × Counted)) → counted (map one_run es) ≡ length es
counted_singles [] = refl
counted_singles (e ∷ es) = let h = counted_singles es in omega (arith, h)

pub counted_all : (names : List Text) (task : Task) → counted (endings names task) ≡ length (all_runs task)
counted_all names task =
    let pair : OutcomeWord → RunEnd × Counted = λ w. (end_of names task w, (w, unexpected task w)) in
    let es = map pair (all_runs task) in
    let h = counted_merge [] (map one_run es) in
    let k = counted_singles es in
    let l = length-map (all_runs task) pair in
    omega (arith, h, k, l)

-- what is written of rows with counts up to the greatest, and of the nodes of the flow
pub text_told : (names : List Text) (task : Task) (nodes : List Node) (rows : List Row) (text : Text) (states : ℕ) → IsFlow task nodes → rows ≡ map saturated (endings names task) → text ≡ endings_text names (failing_on task.limits.devices nodes) rows (counted rows) states
    → text ≡ endings_text names (failing task) (endings names task) (length (all_runs task)) states
text_told names task nodes rows text states flow e h =
    h ∙ ap (λ (x : List Row). endings_text names (failing_on task.limits.devices nodes) x (counted x) states) e
    ∙ saturated_told names (failing_on task.limits.devices nodes) (failing task) (λ w. ap (λ (s : Seen). unexpected_of task.limits.devices s.log) (flow w)) (endings names task) states
    ∙ ap (λ (n : ℕ). endings_text names (failing task) (endings names task) n states) (counted_all names task)

-- ---- the lines of one ending

-- lines that are put in two pieces
pub two_pieces : (old a b values new : Text) → values ≡ old ++ a → new ≡ values ++ b → new ≡ old ++ (a ++ b)
two_pieces old a b values new h k = k ∙ ap (λ (t : Text). t ++ b) h ∙ append_assoc old a b

-- ---- one more row

counted_append : (rs ts : List Row) → counted (rs ++ ts) ≡ counted rs + counted ts
counted_append [] ts = omega arith
counted_append (r ∷ rs) ts = let h = counted_append rs ts in omega (arith, h)

pub counted_more : (before after : List Row) (r : Row) (n m : ℕ) → after ≡ before ++ r ∷ [] → n ≡ min (counted before) most_runs → m ≡ min (n + r.count) most_runs → m ≡ min (counted after) most_runs
counted_more before after r n m e h k =
    let a = ap counted e in
    let b = counted_append before (r ∷ []) in
    omega (arith, a, b, h, k)
