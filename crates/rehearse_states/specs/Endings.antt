-- How all runs end: for each ending how many runs end like this, and the first of them. Runs that leave other values of
-- the variables that are asked for are told apart. Ours.
use Rattle.std.specs.Prelude.{◌≡◌, ℕ, ◌+◌, nat_eq, nat_le, Bool, true, false, cond, ◌&&◌, List, [], ◌∷◌, map, Option, Some, None}
use Rattle.std.specs.Str.{bytes_eq}
use Rattle.device_list.specs.declared.finish.BoardEnd.{BoardEnd}
use Rattle.device_list.specs.declared.finish.BoardEnd.TheVariants.{Boots, Restarts, Halts}
use Rattle.rehearse_terms.specs.Outcomes.{OutcomeWord, Outcome, Success, Failure, WordKind, Run, Short, Long, runs_within, beyond}
use Rattle.rehearse_rules.specs.Execution.{Ending, End, CutDevices, CutSteps, Unknown, Syntax, Unsupported, Panic, Size, Finished}
use Rattle.rehearse_terms.specs.State.{Text, Variables, get}
use Rattle.rehearse_rules.specs.Runs.{Task, run_on, state_of, ending_of, unexpected, all_runs}

abbrev pub same_finish : BoardEnd → BoardEnd → Bool
same_finish Boots Boots = true
same_finish Restarts Restarts = true
same_finish Halts Halts = true
same_finish one other = false

abbrev pub ending_eq : Ending → Ending → Bool
ending_eq (End a) (End b) = nat_eq a b
ending_eq CutDevices CutDevices = true
ending_eq CutSteps CutSteps = true
ending_eq (Unknown a) (Unknown b) = bytes_eq a b
ending_eq (Syntax a) (Syntax b) = bytes_eq a b
ending_eq (Unsupported a) (Unsupported b) = bytes_eq a b
ending_eq (Panic a) (Panic b) = bytes_eq a b
ending_eq Size Size = true
ending_eq (Finished one a) (Finished other b) = same_finish one other && bytes_eq a b
ending_eq _ _ = false

-- how a run ends, and the values that it leaves of some variables; none for one that is not set
pub record RunEnd : Type 0 where
  pub ending : Ending
  pub values : List (Option Text)

abbrev pub value_eq : Option Text → Option Text → Bool
value_eq None None = true
value_eq None (Some b) = false
value_eq (Some a) None = false
value_eq (Some a) (Some b) = bytes_eq a b

abbrev pub values_eq : List (Option Text) → List (Option Text) → Bool
values_eq [] [] = true
values_eq [] (b ∷ bs) = false
values_eq (a ∷ others) [] = false
values_eq (a ∷ others) (b ∷ bs) = value_eq a b && values_eq others bs

-- the same ending, and the same values
abbrev pub end_eq : RunEnd → RunEnd → Bool
end_eq a b = ending_eq a.ending b.ending && values_eq a.values b.values

-- the word of a run, and how many of its answers are unexpected
abbrev pub Counted : Type 0
Counted = OutcomeWord × ℕ

-- the one with fewer; if they have equally many, the first
abbrev pub fewer : Counted → Counted → Counted
fewer v w = cond (nat_le v.1 w.1) v w

-- how runs end, how many do, the word of the first of these runs, and the first with the fewest unexpected answers
pub record Row : Type 0 where
  pub run_end : RunEnd
  pub count : ℕ
  pub word : OutcomeWord
  pub fewest : Counted

-- further runs that end alike
abbrev pub joined : Row → Row → Row
joined r row = record r { count = r.count + row.count; fewest = fewer r.fewest row.fewest }

-- runs that end as others do raise their count; others come after the ones that are there
abbrev pub with_row : List Row → Row → List Row
with_row [] row = row ∷ []
with_row (r ∷ rs) row =
    elim (end_eq r.run_end row.run_end) [
      | true ↦ joined r row ∷ rs
      | false ↦ r ∷ with_row rs row
    ]

abbrev pub merge : List Row → List Row → List Row
merge rows [] = rows
merge rows (r ∷ rs) = merge (with_row rows r) rs

abbrev pub one_run : RunEnd × Counted → Row
one_run e = record { run_end = e.0; count = 1; word = e.1.0; fewest = e.1 }

-- the rows of runs in their order
abbrev pub gather : List (RunEnd × Counted) → List Row
gather es = merge [] (map one_run es)

-- the rows of the runs among the words of at most n outcomes
abbrev pub rows_within : (OutcomeWord → WordKind) → (OutcomeWord → RunEnd) → (count : OutcomeWord → ℕ) → ℕ → List Row
rows_within kind ending count n = gather (map (λ w. (ending w, (w, count w))) (runs_within kind n))

-- how the run on a word ends
abbrev pub ending : Task → OutcomeWord → Ending
ending task w = ending_of (run_on task w)

-- the values of the variables with these names, in their order
abbrev pub values_in : Variables → (names : List Text) → List (Option Text)
values_in environment names = map (get environment) names

-- an ending, and the values that these variables have there
abbrev pub end_with : (names : List Text) → Ending → Variables → RunEnd
end_with names ending environment = record { ending = ending; values = values_in environment names }

-- how the run on a word ends, and the values that it leaves of the variables that are asked for
abbrev pub end_of : (names : List Text) → Task → OutcomeWord → RunEnd
end_of names task w = end_with names (ending task w) (state_of (run_on task w)).memory.environment

-- the rows of all runs of a task, with the variables that are asked for
abbrev pub endings : (names : List Text) → Task → List Row
endings names task = gather (map (λ w. (end_of names task w, (w, unexpected task w))) (all_runs task))

-- ---- from the rows of both sides

-- after an outcome, which counts so much
abbrev pub in_front : Outcome → (counts : ℕ) → Row → Row
in_front outcome counts r =
    record r { word = outcome ∷ r.word; fewest = (outcome ∷ r.fewest.0, counts + r.fewest.1) }

-- how much an outcome counts: another one than is expected counts one
abbrev pub counts_at : (expected : Option Bool) → Outcome → ℕ
counts_at None outcome = 0
counts_at (Some true) Success = 0
counts_at (Some true) Failure = 1
counts_at (Some false) Success = 1
counts_at (Some false) Failure = 0

-- the runs after a success, then the runs after a failure
abbrev pub of_both : (expected : Option Bool) → (won lost : List Row) → List Row
of_both expected won lost =
    merge (map (in_front Success (counts_at expected Success)) won) (map (in_front Failure (counts_at expected Failure)) lost)

-- rows that are built from the ends: either the run ends here, or each outcome leads on
pub data HasRows : (OutcomeWord → WordKind) → (OutcomeWord → RunEnd) → (count : OutcomeWord → ℕ) → List Row → Type 0 where
  ends : {kind : OutcomeWord → WordKind} {ending : OutcomeWord → RunEnd} {count : OutcomeWord → ℕ} → kind [] ≡ Run →
      ((d : Outcome) (w : OutcomeWord) → kind (d ∷ w) ≡ Long) → count [] ≡ 0 →
      HasRows kind ending count (one_run (ending [], ([], 0)) ∷ [])
  asks : {kind : OutcomeWord → WordKind} {ending : OutcomeWord → RunEnd} {count won_count lost_count : OutcomeWord → ℕ}
      {won lost : List Row} (expected : Option Bool) → kind [] ≡ Short →
      ((w : OutcomeWord) → count (Success ∷ w) ≡ counts_at expected Success + won_count w) →
      ((w : OutcomeWord) → count (Failure ∷ w) ≡ counts_at expected Failure + lost_count w) →
      HasRows (beyond Success kind) (λ w. ending (Success ∷ w)) won_count won →
      HasRows (beyond Failure kind) (λ w. ending (Failure ∷ w)) lost_count lost →
      HasRows kind ending count (of_both expected won lost)
