-- Worked examples, computed: from the text of `bootcmd` to the rows of its runs and their lines. A word starts with the
-- first device command; `0` means that it succeeded.
use Rattle.std.proofs.Common.{ℕ, Bool, true, false, [], ◌∷◌, ◌+◌, ◌-◌, ◌^◌, List, Some, None, Option, codes, refl, ◌≡◌, map, length, nat_eq}
use Rattle.std.specs.Fmt.{digits}
use Rattle.device_list.specs.declared.finish.BoardEnd.TheVariants.{Boots, Restarts, Halts}
use Rattle.hushlang.specs.Expansion.{fields, joined, atoms}
use Rattle.rehearse_terms.specs.Outcomes.{OutcomeWord, Success, Failure, failures}
use Rattle.device_list.specs.DeviceLaws.{quiet}
use Rattle.device_list.specs.DeviceList.{only, Saving, Deleted}
use Rattle.device_list.specs.Saving.{saved_name, saving}
use Rattle.hushlang.specs.Trees.{tree_of}
use Rattle.rehearse_terms.specs.State.{Text}
use Rattle.rehearse_rules.specs.Execution.{Ending, End, CutDevices, CutSteps, Unknown, Syntax, Unsupported, Panic, Size, Finished}
use Rattle.rehearse_rules.specs.Runs.{Task, all_runs}
use Rattle.rehearse_rules.proofs.ExampleRehearsals.{only_load, limits, bootcmd}
use Rattle.rehearse_states.specs.Endings.{RunEnd, Row, Counted, ending_eq, end_eq, fewer, joined as with_further, with_row, gather, endings, counts_at, of_both}
use Rattle.rehearse_states.specs.EndingLines.{failing, count_text, value_lines, endings_text, counted}
use Rattle.rehearse_states.specs.RowsShown.{most_runs, saturated, with_row_up}

abbrev task : ℕ → Text → Task
task devices text = bootcmd (limits only_load devices 20) text

-- the lines of all runs with the values of these variables, with the number of states
abbrev lines_with : List Text → Task → ℕ → Text
lines_with names t states = endings_text names (failing t) (endings names t) (length (all_runs t)) states

-- without variables
abbrev lines : Task → ℕ → Text
lines t states = lines_with [] t states

-- ---- scripts

-- two runs end alike, and one ends differently
two_attempts : lines (task 3 (codes "load a || load b")) 2 ≡ codes "ends 2 first 0 fewest 0 0 end 0\nends 1 first 11 fewest 2 11 end 1\nfails load a\nfails load b\nall 3 states 2\n"
unfolding tree_of fields joined atoms digits
two_attempts = refl

-- the first run with this ending has more failures than a later one
later_has_fewer : lines (task 3 (codes "if load a; then load b || load c || exit 3; else exit 3; fi")) 3 ≡ codes "ends 2 first 00 fewest 0 00 end 0\nends 2 first 011 fewest 1 1 end 3\nfails load a\nall 4 states 3\n"
unfolding tree_of fields joined atoms digits
later_has_fewer = refl

-- of two runs with equally many failures, the first has the fewest
first_of_as_many : lines (task 3 (codes "if load a; then load b || exit 3; else exit 3; fi")) 2 ≡ codes "ends 1 first 00 fewest 0 00 end 0\nends 2 first 01 fewest 1 01 end 3\nfails load b\nall 3 states 2\n"
unfolding tree_of fields joined atoms digits
first_of_as_many = refl

-- no device command asks: the word is empty
no_device : lines (task 3 (codes "exit 4")) 0 ≡ codes "ends 1 first . fewest 0 . end 4\nall 1 states 0\n"
unfolding tree_of fields joined atoms digits
no_device = refl

-- an ending whose first run comes after the first run of another ending, though more runs have it
in_order_of_first : lines (task 2 (codes "load a && true; load b")) 3 ≡ codes "ends 2 first 00 fewest 0 00 end 0\nends 2 first 01 fewest 1 01 end 1\nfails load b\nall 4 states 3\n"
unfolding tree_of fields joined atoms digits
in_order_of_first = refl

-- cut by either bound, and stopped by a name and by a text
cut_by_devices : lines (task 2 (codes "while load a; do true; done")) 2 ≡ codes "ends 1 first 00 fewest 0 00 cut devices\nends 2 first 01 fewest 1 01 end 0\nfails load a\nall 3 states 2\n"
unfolding tree_of fields joined atoms digits
cut_by_devices = refl

cut_by_steps : lines (task 2 (codes "if load a; then while true; do true; done; fi")) 1 ≡ codes "ends 1 first 0 fewest 0 0 cut steps\nends 1 first 1 fewest 1 1 end 0\nfails load a\nall 2 states 1\n"
unfolding tree_of fields joined atoms digits
cut_by_steps = refl

unknown_command : lines (task 2 (codes "load a && boom; load b")) 2 ≡ codes "ends 1 first 0 fewest 0 0 stop unknown boom\nends 1 first 10 fewest 1 10 end 0\nfails load a\nends 1 first 11 fewest 2 11 end 1\nfails load a\nfails load b\nall 3 states 2\n"
unfolding tree_of fields joined atoms digits
unknown_command = refl

-- what fails is from the run with the fewest failures, not from the first, and in the order of the run; a command that
-- succeeds between two that fail is left out
in_order_of_the_run : failing (task 3 (codes "load b; load c; load a")) (Failure ∷ Success ∷ Failure ∷ []) ≡ (false, codes "load" ∷ codes "b" ∷ []) ∷ (false, codes "load" ∷ codes "a" ∷ []) ∷ []
unfolding tree_of fields joined atoms
in_order_of_the_run = refl

-- the same command may fail more than once, with the same words
each_time : failing (task 3 (codes "load; load")) (Failure ∷ Failure ∷ []) ≡ (false, codes "load" ∷ []) ∷ (false, codes "load" ∷ []) ∷ []
unfolding tree_of fields joined atoms
each_time = refl

-- the words are what the command was called with
after_expansion : lines (task 3 (codes "x=\"a b\"; load \"$x\" ''; exit $?")) 1 ≡ codes "ends 1 first 0 fewest 0 0 end 0\nends 1 first 1 fewest 1 1 end 1\nfails load a\\x20b \\e\nall 2 states 1\n"
unfolding tree_of fields joined atoms digits
after_expansion = refl

-- ---- variables

-- runs that leave other values are distinguished, and the same ending comes once for each value
two_values : lines_with (codes "v" ∷ []) (task 3 (codes "if load a; then v=1; else v=2; fi; load b; setenv v $v; true")) 3 ≡ codes "ends 2 first 00 fewest 0 00 end 0\nvar v=1\nends 2 first 10 fewest 1 10 end 0\nvar v=2\nfails load a\nall 4 states 3\n"
unfolding tree_of fields joined atoms digits
two_values = refl

-- without the variable they are one
not_asked_for : lines (task 3 (codes "if load a; then v=1; else v=2; fi; load b; setenv v $v; true")) 3 ≡ codes "ends 4 first 00 fewest 0 00 end 0\nall 4 states 3\n"
unfolding tree_of fields joined atoms digits
not_asked_for = refl

-- a variable of the environment, not of the shell; in the order asked, before what fails
order_asked : lines_with (codes "w" ∷ codes "v" ∷ []) (task 3 (codes "v=1; load a || setenv w 'x y'; true")) 1 ≡ codes "ends 1 first 0 fewest 0 0 end 0\nunset w\nunset v\nends 1 first 1 fewest 1 1 end 0\nvar w=x y\nunset v\nfails load a\nall 2 states 1\n"
unfolding tree_of fields joined atoms digits
order_asked = refl

-- the value at the end of the run, not before
at_the_end : lines_with (codes "v" ∷ []) (task 3 (codes "setenv v 1; load a && setenv v; setenv v 2")) 1 ≡ codes "ends 2 first 0 fewest 0 0 end 0\nvar v=2\nall 2 states 1\n"
unfolding tree_of fields joined atoms digits
at_the_end = refl

-- ---- what was saved

-- the device list `load` and `saves keep`: a call of `keep` sets a copy of `v`
abbrev keeping : Text → Task
keeping text = bootcmd (limits (saving (codes "v" ∷ []) (record (only ((codes "load", quiet) ∷ [])) { calls = (codes "keep", (record { words = []; more = true }, record quiet { sets = (Saving, Deleted) ∷ [] }) ∷ []) ∷ [] })) 3 20) text

-- the variable and what was saved of it
abbrev with_saved : Text → ℕ → Text
with_saved text states = lines_with (codes "v" ∷ saved_name (codes "v") ∷ []) (keeping text) states

-- the value at the call, not at the end; where nothing was saved there is no line
saved_at_the_call : with_saved (codes "setenv v 1; load a && keep; setenv v 2; true") 2 ≡ codes "ends 1 first 00 fewest 0 00 end 0\nvar v=2\nsaved v=1\nends 2 first 01 fewest 1 01 end 0\nvar v=2\nfails keep\nall 3 states 2\n"
unfolding tree_of fields joined atoms digits
saved_at_the_call = refl

-- a variable that was not set when the environment was saved is not one that was not saved
saved_unset : with_saved (codes "keep; setenv v 1; true") 1 ≡ codes "ends 1 first 0 fewest 0 0 end 0\nvar v=1\nsaved unset v\nends 1 first 1 fewest 1 1 end 0\nvar v=1\nfails keep\nall 2 states 1\n"
unfolding tree_of fields joined atoms digits
saved_unset = refl

-- a value, one that starts with `=`, an empty one, none, and nothing saved
saved_values : value_lines (map saved_name (codes "a" ∷ codes "b" ∷ codes "c" ∷ codes "d" ∷ codes "e" ∷ [])) (Some (codes "=1") ∷ Some (codes "==2") ∷ Some (codes "=") ∷ Some [] ∷ None ∷ []) ≡ codes "saved a=1\nsaved b==2\nsaved c=\nsaved unset d\n"
saved_values = refl

-- beside the variables, with bytes that are escaped
saved_beside : value_lines (saved_name (codes "a b") ∷ codes "v" ∷ saved_name (codes "v") ∷ []) (Some [] ∷ None ∷ Some (codes "=x \n") ∷ []) ≡ codes "saved unset a\\x20b\nunset v\nsaved v=x \\n\n"
saved_beside = refl

-- ---- answers that stay

-- the device list `steady load`: of the four runs that succeed and fail in turn, two are left, and each is one state
abbrev steady : Text → Task
steady text = bootcmd (limits (only ((codes "load", record quiet { stays = true }) ∷ [])) 3 20) text

told_again : lines (steady (codes "load; load; exit $?")) 1 ≡ codes "ends 1 first 0 fewest 0 0 end 0\nends 1 first 1 fewest 1 1 end 1\nfails load\nall 2 states 1\n"
unfolding tree_of fields joined atoms digits
told_again = refl

-- a command that is given again that it failed is no further failure
told_again_is_no_failure : failing (steady (codes "load; load")) (Failure ∷ []) ≡ (false, codes "load" ∷ []) ∷ []
unfolding tree_of fields joined atoms
told_again_is_no_failure = refl

asked_each_time : lines (task 3 (codes "load; load; exit $?")) 3 ≡ codes "ends 2 first 00 fewest 0 00 end 0\nends 2 first 01 fewest 1 01 end 1\nfails load\nall 4 states 3\n"
unfolding tree_of fields joined atoms digits
asked_each_time = refl

-- ---- calls of which a failure is expected

-- the device list `call load ** : normal 1` and `try`
abbrev expected : Text → Task
expected text = bootcmd (limits (record (only ((codes "try", quiet) ∷ [])) { calls = (codes "load", (record { words = []; more = true }, record quiet { normal = true }) ∷ []) ∷ [] }) 3 20) text

-- a success counts, and is reported
success_counts : lines (expected (codes "load a || load b")) 2 ≡ codes "ends 2 first 0 fewest 1 0 end 0\nsucceeds load a\nends 1 first 11 fewest 0 11 end 1\nall 3 states 2\n"
unfolding tree_of fields joined atoms digits
success_counts = refl

-- so the first run has more than the last one
failures_count_nothing : lines (expected (codes "load a; load b")) 3 ≡ codes "ends 2 first 00 fewest 1 10 end 0\nsucceeds load b\nends 2 first 01 fewest 0 11 end 1\nall 4 states 3\n"
unfolding tree_of fields joined atoms digits
failures_count_nothing = refl

-- in the order of the run
both_are_told : failing (expected (codes "load a; try; load b")) (Success ∷ Failure ∷ Failure ∷ []) ≡ (true, codes "load" ∷ codes "a" ∷ []) ∷ (false, codes "try" ∷ []) ∷ []
unfolding tree_of fields joined atoms
both_are_told = refl

-- ---- endings

-- endings of every kind, two of each kind that has a number or a name
abbrev kinds : List Ending
kinds =
    End 0 ∷ End 1 ∷ CutDevices ∷ CutSteps ∷ Unknown (codes "a") ∷ Unknown (codes "b") ∷ Syntax (codes "a") ∷ Syntax (codes "b")
    ∷ Unsupported (codes "a") ∷ Unsupported (codes "b") ∷ Panic (codes "a") ∷ Panic (codes "b") ∷ Size ∷ Finished Boots (codes "a") ∷ Finished Boots (codes "b") ∷ Finished Restarts (codes "a") ∷ Finished Halts (codes "a") ∷ []

-- to which of the kinds an ending is equal
abbrev equals : Ending → List Bool
equals e = map (ending_eq e) kinds

-- true at one place of seventeen
abbrev only_at : ℕ → List Bool
only_at n = map (nat_eq n) (0 ∷ 1 ∷ 2 ∷ 3 ∷ 4 ∷ 5 ∷ 6 ∷ 7 ∷ 8 ∷ 9 ∷ 10 ∷ 11 ∷ 12 ∷ 13 ∷ 14 ∷ 15 ∷ 16 ∷ [])

each_equals_itself : map equals kinds ≡ map only_at (0 ∷ 1 ∷ 2 ∷ 3 ∷ 4 ∷ 5 ∷ 6 ∷ 7 ∷ 8 ∷ 9 ∷ 10 ∷ 11 ∷ 12 ∷ 13 ∷ 14 ∷ 15 ∷ 16 ∷ [])
each_equals_itself = refl

-- how runs end: the ending alone, a value alone, and both

abbrev left : Ending → List (Option Text) → RunEnd
left ending values = record { ending = ending; values = values }

-- no value is the empty one, and the order of values counts
abbrev ways : List RunEnd
ways =
    left (End 0) (Some (codes "a") ∷ None ∷ []) ∷ left (End 1) (Some (codes "a") ∷ None ∷ []) ∷ left (End 0) (Some (codes "b") ∷ None ∷ [])
    ∷ left (End 0) (Some (codes "a") ∷ Some [] ∷ []) ∷ left (End 0) (None ∷ Some (codes "a") ∷ []) ∷ left (End 0) (Some (codes "a") ∷ []) ∷ left (End 0) [] ∷ []

abbrev only_way : ℕ → List Bool
only_way n = map (nat_eq n) (0 ∷ 1 ∷ 2 ∷ 3 ∷ 4 ∷ 5 ∷ 6 ∷ [])

each_way_equals_itself : map (λ e. map (end_eq e) ways) ways ≡ map only_way (0 ∷ 1 ∷ 2 ∷ 3 ∷ 4 ∷ 5 ∷ 6 ∷ [])
each_way_equals_itself = refl

-- ---- words

failures_counted : map failures ([] ∷ (Success ∷ []) ∷ (Failure ∷ []) ∷ (Failure ∷ Success ∷ Failure ∷ []) ∷ []) ≡ 0 ∷ 0 ∷ 1 ∷ 2 ∷ []
failures_counted = refl

-- the second has fewer unexpected answers; the first has fewer; both have equally many
fewer_second : fewer (Failure ∷ Failure ∷ [], 2) (Failure ∷ [], 1) ≡ (Failure ∷ [], 1)
fewer_second = refl

fewer_first : fewer (Failure ∷ [], 1) (Failure ∷ Failure ∷ [], 2) ≡ (Failure ∷ [], 1)
fewer_first = refl

fewer_of_as_many : fewer (Success ∷ Failure ∷ [], 1) (Failure ∷ [], 1) ≡ (Success ∷ Failure ∷ [], 1)
fewer_of_as_many = refl

-- the numbers decide, not the failures
fewer_by_number : fewer (Success ∷ [], 1) (Failure ∷ [], 0) ≡ (Failure ∷ [], 0)
fewer_by_number = refl

-- ---- rows

abbrev bare : Ending → RunEnd
bare ending = record { ending = ending; values = [] }

abbrev row : Ending → ℕ → OutcomeWord → Counted → Row
row ending count word fewest = record { run_end = bare ending; count = count; word = word; fewest = fewest }

-- the empty word, of which nothing is unexpected
abbrev none : Counted
none = ([], 0)

-- the counts are added, the first word stays, and the word with fewer unexpected answers is taken
joined_row : with_further (row (End 3) 2 (Failure ∷ Failure ∷ []) (Success ∷ Failure ∷ [], 1)) (row (End 3) 5 (Failure ∷ []) none) ≡ row (End 3) 7 (Failure ∷ Failure ∷ []) none
joined_row = refl

-- another ending comes after the ones that are there
row_behind : with_row (row (End 0) 2 [] none ∷ row Size 3 [] none ∷ []) (row CutSteps 4 [] none) ≡ row (End 0) 2 [] none ∷ row Size 3 [] none ∷ row CutSteps 4 [] none ∷ []
row_behind = refl

-- a row that is there keeps its place
row_at_its_place : with_row (row (End 0) 2 [] none ∷ row Size 3 [] none ∷ []) (row (End 0) 4 [] none) ≡ row (End 0) 6 [] none ∷ row Size 3 [] none ∷ []
row_at_its_place = refl

-- four runs, in their order
gathered : gather ((bare (End 1), (Success ∷ [], 0)) ∷ (bare (End 0), (Failure ∷ Success ∷ [], 2)) ∷ (bare (End 1), (Failure ∷ Failure ∷ Success ∷ [], 2)) ∷ (bare (End 0), (Failure ∷ Failure ∷ Failure ∷ [], 1)) ∷ []) ≡ row (End 1) 2 (Success ∷ []) (Success ∷ [], 0) ∷ row (End 0) 2 (Failure ∷ Success ∷ []) (Failure ∷ Failure ∷ Failure ∷ [], 1) ∷ []
gathered = refl

-- both sides of a device command: the counts of both are added; the first word is from the success; the word with the
-- fewest unexpected answers is from the failure, which counts as one
both_sides : of_both (Some true) (row (End 3) 2 (Failure ∷ Failure ∷ []) (Failure ∷ Failure ∷ [], 2) ∷ []) (row (End 0) 1 (Success ∷ []) (Success ∷ [], 0) ∷ row (End 3) 5 (Failure ∷ []) none ∷ []) ≡ row (End 3) 7 (Success ∷ Failure ∷ Failure ∷ []) (Failure ∷ [], 1) ∷ row (End 0) 1 (Failure ∷ Success ∷ []) (Failure ∷ Success ∷ [], 1) ∷ []
both_sides = refl

-- where a failure is expected, it is the success that counts as one
both_sides_expected : of_both (Some false) (row (End 3) 2 (Failure ∷ []) (Failure ∷ [], 1) ∷ []) (row (End 0) 1 (Success ∷ []) (Success ∷ [], 0) ∷ row (End 3) 5 (Failure ∷ []) (Failure ∷ [], 2) ∷ []) ≡ row (End 3) 7 (Success ∷ Failure ∷ []) (Success ∷ Failure ∷ [], 2) ∷ row (End 0) 1 (Failure ∷ Success ∷ []) (Failure ∷ Success ∷ [], 0) ∷ []
both_sides_expected = refl

counts_of_outcomes : (counts_at (Some true) Success ∷ counts_at (Some true) Failure ∷ counts_at (Some false) Success ∷ counts_at (Some false) Failure ∷ counts_at None Success ∷ counts_at None Failure ∷ []) ≡ 0 ∷ 1 ∷ 1 ∷ 0 ∷ 0 ∷ 0 ∷ []
counts_of_outcomes = refl

-- ---- counts that are too large

greatest_count : most_runs + 1 ≡ 2 ^ 128
greatest_count = refl

counts_told : map count_text (0 ∷ 12 ∷ (most_runs - 1) ∷ most_runs ∷ (most_runs + 1) ∷ []) ≡ codes "0" ∷ codes "12" ∷ codes "340282366920938463463374607431768211454" ∷ codes ">=340282366920938463463374607431768211455" ∷ codes ">=340282366920938463463374607431768211455" ∷ []
unfolding digits
counts_told = refl

saturated_rows : map saturated (row Size 7 [] none ∷ row Size most_runs [] none ∷ row Size (most_runs + 9) [] none ∷ []) ≡ row Size 7 [] none ∷ row Size most_runs [] none ∷ row Size most_runs [] none ∷ []
saturated_rows = refl

-- two counts that each fit, but whose sum does not
too_great_together : with_row_up (row Size (most_runs - 1) [] none ∷ []) (row Size 2 [] none) ≡ row Size most_runs [] none ∷ []
too_great_together = refl

-- ---- lines

-- nothing is unexpected for the first ending, and a failure and a success for the second
lines_of_rows : endings_text [] (λ w. elim w [ [] ↦ [] | d ∷ v ↦ (false, codes "load" ∷ codes "a b" ∷ []) ∷ (true, codes "b" ∷ []) ∷ [] ]) (row (Finished Boots (codes "go")) 3 (Success ∷ Failure ∷ []) none ∷ row (Syntax (codes "b")) 1 (Failure ∷ []) (Failure ∷ [], 2) ∷ []) 4 17 ≡ codes "ends 3 first 01 fewest 0 . booted go\nends 1 first 1 fewest 2 1 stop syntax b\nfails load a\\x20b\nsucceeds b\nall 4 states 17\n"
unfolding digits
lines_of_rows = refl

all_are_counted : counted (row Size 3 [] none ∷ row CutSteps 4 [] none ∷ []) ≡ 7
all_are_counted = refl
