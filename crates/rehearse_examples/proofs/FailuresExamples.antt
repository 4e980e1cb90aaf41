-- Worked examples of listings in which few device commands fail, computed.
use Rattle.std.proofs.Common.{ℕ, true, false, [], ◌∷◌, ◌++◌, Some, None, codes, refl, ◌≡◌, map, length}
use Rattle.std.specs.Fmt.{digits}
use Rattle.hushlang.specs.Expansion.{fields, joined, atoms}
use Rattle.rehearse_terms.specs.Bounds.{are_bounds}
use Rattle.rehearse_rules.specs.Laws.{failing}
use Rattle.rehearse_terms.specs.Outcomes.{Success, Failure}
use Rattle.hushlang.specs.Trees.{tree_of}
use Rattle.rehearse_terms.specs.State.{Text}
use Rattle.rehearse_rules.specs.Runs.{Task, runs, all_runs, work}
use Rattle.rehearse_rules.proofs.ExampleRehearsals.{only_load, limits, bootcmd, z, listed, listed_after, works, times, is_listed, ends_along, ends_behind, listed_along, listed_behind, works_along, along, behind, working}

-- ---- two attempts to load, and the status of the last

abbrev two_attempts : (most : ℕ) → Task
two_attempts most = failing (bootcmd (limits only_load 16 10000) (codes "load a || load b; echo $?")) most

abbrev both_succeed : Text
both_succeed = codes "run 0\ndev 0 load a\ntext 0\\n\nunset z\nend 0\n"

abbrev first_fails : Text
first_fails = codes "run 10\ndev 1 load a\ndev 0 load b\ntext 0\\n\nunset z\nend 0\n"

abbrev both_fail : Text
both_fail = codes "run 11\ndev 1 load a\ndev 1 load b\ntext 1\\n\nunset z\nend 0\n"

none_fails : listed (two_attempts 0) z None ≡ both_succeed ++ codes "done\n"
unfolding listed_along ends_along
none_fails = along 0 (two_attempts 0) z None _ refl refl

one_fails : listed (two_attempts 1) z None ≡ both_succeed ++ (first_fails ++ codes "done\n")
unfolding listed_along ends_along
one_fails = along 1 (two_attempts 1) z None _ refl refl

two_fail : listed (two_attempts 2) z None ≡ both_succeed ++ (first_fails ++ (both_fail ++ codes "done\n"))
unfolding listed_along ends_along
two_fail = along 2 (two_attempts 2) z None _ refl refl

-- page by page
first_page : listed (two_attempts 1) z (Some 1) ≡ both_succeed ++ codes "more 0\n"
unfolding listed_along ends_along
first_page = along 1 (two_attempts 1) z (Some 1) _ refl refl

last_page : listed_after (two_attempts 1) (Success ∷ []) z (Some 1) ≡ first_fails ++ codes "done\n"
unfolding listed_behind ends_behind
last_page = behind 1 (two_attempts 1) (Success ∷ []) z (Some 1) _ refl refl

-- which words are listed if one may fail: a run in which two fail is none of them
one_fails_words : map (is_listed (two_attempts 1)) ((Success ∷ []) ∷ (Failure ∷ Success ∷ []) ∷ (Failure ∷ Failure ∷ []) ∷ (Failure ∷ []) ∷ []) ≡ true ∷ true ∷ false ∷ false ∷ []
unfolding tree_of fields joined atoms digits
one_fails_words = refl

-- the work of the first run, and of two
one_fails_work : works (two_attempts 1) (0 ∷ 1 ∷ 2 ∷ []) ≡ 0 ∷ 2 ∷ 4 ∷ []
unfolding works_along ends_along
one_fails_work = working 1 (two_attempts 1) _ _ refl refl

-- ---- a loop that goes on until a load fails: no run has two failures

abbrev loop_of_loads : (most : ℕ) → Task
loop_of_loads most = failing (bootcmd (limits only_load 2 10000) (codes "while load; do true; done")) most

loop_none_fails : listed (loop_of_loads 0) z None ≡ codes "run 00\ndev 0 load\ndev 0 load\nunset z\ncut devices\ndone\n"
unfolding listed
loop_none_fails = refl

loop_one_fails : listed (loop_of_loads 1) z None ≡ codes "run 00\ndev 0 load\ndev 0 load\nunset z\ncut devices\nrun 01\ndev 0 load\ndev 1 load\nunset z\nend 0\nrun 1\ndev 1 load\nunset z\nend 0\ndone\n"
unfolding listed
loop_one_fails = refl

loop_is_whole : runs (loop_of_loads 1) ≡ all_runs (loop_of_loads 1)
unfolding tree_of fields joined atoms digits
loop_is_whole = refl

-- ---- one of seven loads fails: eight runs of 128, and each command of their tree is begun once

abbrev seven_loads : Task
seven_loads = failing (bootcmd (limits only_load 7 10000) (times 10 (codes "true; ") ++ codes "load; load; load; load; load; load; load")) 1

one_of_seven : length (runs seven_loads) ∷ length (all_runs seven_loads) ∷ work seven_loads (runs seven_loads) ∷ [] ≡ 8 ∷ 128 ∷ 38 ∷ []
unfolding tree_of fields joined atoms digits
one_of_seven = refl

-- ---- bounds

-- 32 device commands; with few failures 1,000
allowed_bounds : are_bounds 32 1000000 None ∷ are_bounds 32 1000000 (Some 32) ∷ are_bounds 33 1 (Some 3) ∷ are_bounds 1000 1000000 (Some 0) ∷ [] ≡ true ∷ true ∷ true ∷ true ∷ []
allowed_bounds = refl

-- more without a number of failures, or with more than 3; more than 1,000; more than 1,000,000 steps
refused_bounds : are_bounds 33 1 None ∷ are_bounds 33 1 (Some 4) ∷ are_bounds 1001 1 (Some 0) ∷ are_bounds 32 1000001 (Some 0) ∷ [] ≡ false ∷ false ∷ false ∷ false ∷ []
refused_bounds = refl
