-- The lines that say how runs end. Ours.
use Rattle.std.specs.Prelude.{ℕ, ◌+◌, nat_lt, Bool, true, false, List, [], ◌∷◌, ◌++◌, map, flat_map, Option, Some, None, codes, decimal, if◌then◌else◌}
use Rattle.text.specs.Escapes.{word_form}
use Rattle.text.specs.Words.{joined_words}
use Rattle.rehearse_terms.specs.State.{Text}
use Rattle.device_list.specs.Saving.{saved_of}
use Rattle.rehearse_rules.specs.Listing.{spelled, line, variable_line, saved_lines, last_line}
use Rattle.rehearse_rules.specs.Runs.{Task, run_on, state_of}
use Rattle.rehearse_terms.specs.Outcomes.{OutcomeWord}
use Rattle.rehearse_rules.specs.Expected.{Answered, asked_in, unexpected_of}
use Rattle.rehearse_states.specs.Endings.{Row}
use Rattle.rehearse_states.specs.RowsShown.{most_runs}

-- ---- the commands whose answers are unexpected

-- those of the run on a word, in the order of the run; one that is given an answer is left out
abbrev pub failing : Task → OutcomeWord → List Answered
failing task w = unexpected_of task.limits.devices (asked_in (state_of (run_on task w)).log)

abbrev pub answer_text : (success : Bool) → Text
answer_text true = codes "succeeds "
answer_text false = codes "fails "

-- the answer of one, and its words as a `dev` line has them
abbrev pub fails_text : Answered → Text
fails_text a = answer_text a.0 ++ joined_words (map word_form a.1)

abbrev pub fails_lines : List Answered → Text
fails_lines commands = flat_map (λ a. line (fails_text a)) commands

-- ---- the endings

-- a number of runs; one that is too large is written as at least the greatest
abbrev pub count_text : ℕ → Text
count_text n = if nat_lt n most_runs then decimal n else codes ">=" ++ decimal most_runs

-- how many runs have this ending, the first of them, the first with the fewest unexpected answers, and the last line of
-- their records
abbrev pub row_text : Row → Text
row_text r =
    codes "ends " ++ count_text r.count ++ codes " first " ++ spelled r.word ++ codes " fewest "
    ++ decimal r.fewest.1 ++ codes " " ++ spelled r.fewest.0 ++ codes " " ++ last_line r.run_end.ending

abbrev pub all_text : (runs states : ℕ) → Text
all_text runs states = codes "all " ++ count_text runs ++ codes " states " ++ decimal states

-- a variable and the value that is left, as in a record
abbrev pub value_text : (name : Text) → Option Text → Text
value_text name (Some value) = variable_line (name, value)
value_text name None = codes "unset " ++ word_form name

-- and what was saved of a variable, by the copy of it
abbrev pub value_texts : (name : Text) → Option Text → List Text
value_texts name value =
    elim (saved_of name) [ None ↦ value_text name value ∷ [] | Some variable ↦ saved_lines variable value ]

-- in the order asked
abbrev pub value_lines : (names : List Text) → List (Option Text) → Text
value_lines [] values = []
value_lines (name ∷ names) [] = []
value_lines (name ∷ names) (value ∷ values) = flat_map line (value_texts name value) ++ value_lines names values

-- the values that are left, and what it takes: the unexpected answers of the run with the fewest
abbrev pub lines_below : (names : List Text) → (fails : OutcomeWord → List Answered) → Row → Text
lines_below names fails r = value_lines names r.run_end.values ++ fails_lines (fails r.fewest.0)

-- the line of an ending, and the lines below it
abbrev pub row_lines : (names : List Text) → (fails : OutcomeWord → List Answered) → Row → Text
row_lines names fails r = line (row_text r) ++ lines_below names fails r

-- the lines of each ending, and one for all
abbrev pub endings_text : (names : List Text) → (fails : OutcomeWord → List Answered) → List Row → (runs states : ℕ) → Text
endings_text names fails rows runs states = flat_map (row_lines names fails) rows ++ line (all_text runs states)

-- how many runs the rows count
abbrev pub counted : List Row → ℕ
counted [] = 0
counted (r ∷ rs) = r.count + counted rs
