-- Bounds, steps and work at the edges of the rules, computed.
use Rattle.std.proofs.Common.{◌≡◌, [], ◌∷◌, ◌++◌, None, true, false, codes, refl, map, Some}
use Rattle.std.specs.Fmt.{digits}
use Rattle.device_list.specs.declared.finish.BoardEnd.TheVariants.{Boots}
use Rattle.hushlang.specs.Expansion.{fields, joined, atoms}
use Rattle.rehearse_terms.specs.Outcomes.{Success, Failure}
use Rattle.hushlang.specs.Trees.{tree_of}
use Rattle.rehearse_terms.specs.State.{Text}
use Rattle.device_list.specs.DeviceList.{Variable, Literal, only}
use Rattle.rehearse_rules.specs.Execution.{End, CutSteps, Size}
use Rattle.rehearse_rules.specs.Runs.{steps, work}
use Rattle.device_list.specs.DeviceLaws.{is_name_alone}
use Rattle.text.specs.Lines.{numbered_lines}
use Rattle.rehearse_rules.proofs.ExampleRehearsals.{only_load, limits, bootcmd, bootcmd_among, z, listed, told_of, told, told_within, times}

-- a list whose comment has two words
names_alone_beside_a_comment : map (λ l. is_name_alone l.1) (numbered_lines (codes "# d\nload\n\nmmc")) ≡ false ∷ true ∷ true ∷ true ∷ []
names_alone_beside_a_comment = refl

-- a `for` without a field sets no variable
for_without_a_field_sets_nothing : told (codes "i=5; for i in $u; do true; done; echo $i$?") ≡ (codes "50\n", End 0)
unfolding told_of
for_without_a_field_sets_nothing = refl

-- `$?` and values inside one assignment command are the ones from before the command
assignments_see_those_before_them : told (codes "false; x=$? y=$x$?; echo $y") ≡ (codes "11\n", End 0)
unfolding told_of
assignments_see_those_before_them = refl

-- the status stays as it was until the end of the whole command
assignments_leave_the_status_to_the_end : told (codes "false; x=1 y=$?; echo $y$?") ≡ (codes "10\n", End 0)
unfolding told_of
assignments_leave_the_status_to_the_end = refl

-- a step after the bound is not begun, and its words are not expanded
abbrev grown : Text
grown = codes "x=0123456789abcdef; " ++ times 12 (codes "x=$x$x; ")

size_behind_the_step_bound : map (λ last. told_within 13 (grown ++ last)) (codes "x=$x$x" ∷ codes "for i in $x a; do true; done" ∷ codes "true $x" ∷ []) ≡ ([], CutSteps) ∷ ([], CutSteps) ∷ ([], CutSteps) ∷ []
unfolding told_of
size_behind_the_step_bound = refl

size_within_the_step_bound : map (λ last. told_within 14 (grown ++ last)) (codes "x=$x$x" ∷ codes "for i in $x a; do true; done" ∷ codes "true $x" ∷ []) ≡ ([], Size) ∷ ([], Size) ∷ ([], Size) ∷ []
unfolding told_of
size_within_the_step_bound = refl

-- bound 0: loops are cut at their first command
loops_at_step_bound_0 : told_within 0 (codes "while true; do true; done") ∷ told_within 0 (codes "until $u; do true; done") ∷ told_within 0 (codes "if true; then true; fi") ∷ told_within 0 (codes "for i in; do true; done") ∷ [] ≡ ([], CutSteps) ∷ ([], CutSteps) ∷ ([], CutSteps) ∷ ([], CutSteps) ∷ []
unfolding told_of
loops_at_step_bound_0 = refl

-- steps and work with a final command and settings: a setting is no step
steps_of_a_final_command : map (steps (bootcmd (limits (only ((codes "go", record { ends = Some Boots; stays = false; always = None; needs = []; normal = false; runs = []; sets = (Variable (codes "a"), Literal (codes "1")) ∷ (Variable (codes "b"), Literal (codes "2")) ∷ [] }) ∷ [])) 3 100) (codes "for i in 1 2; do x=1; go $i; done; true"))) ((Success ∷ []) ∷ (Failure ∷ Success ∷ []) ∷ (Failure ∷ Failure ∷ []) ∷ []) ≡ 3 ∷ 5 ∷ 6 ∷ []
unfolding tree_of fields joined atoms digits
steps_of_a_final_command = refl

work_of_a_final_command : work (bootcmd (limits (only ((codes "go", record { ends = Some Boots; stays = false; always = None; needs = []; normal = false; runs = []; sets = [] }) ∷ [])) 3 100) (codes "for i in 1 2; do x=1; go $i; done; true")) ((Success ∷ []) ∷ (Failure ∷ Success ∷ []) ∷ (Failure ∷ Failure ∷ []) ∷ []) ≡ 6
unfolding tree_of fields joined atoms digits
work_of_a_final_command = refl

-- steps of a size stop: the step is counted
a_size_stop_counts_its_step : steps (bootcmd (limits only_load 0 10000) (codes "true; setenv a 0123456789abcdef; setenv a $a$a$a$a$a$a$a$a; setenv a $a$a$a$a$a$a$a$a; setenv a $a$a$a$a$a$a$a$a; setenv a $a$a$a$a$a$a$a$a; true")) [] ≡ 6
unfolding tree_of fields joined atoms digits
a_size_stop_counts_its_step = refl

-- wrapped listing: no names, log, text, `cut steps` after devices
cut_steps_behind_devices : listed (bootcmd_among (limits only_load 3 3) ((codes "a", codes "x y") ∷ (codes "bootcmd", codes "load && echo $a; load; echo no") ∷ []) (codes "load && echo $a; load; echo no")) [] None ≡ codes "run 00\ndev 0 load\ndev 0 load\ntext x y\\n\nvar a=x y\nvar bootcmd=load && echo $a; load; echo no\ncut steps\nrun 01\ndev 0 load\ndev 1 load\ntext x y\\n\nvar a=x y\nvar bootcmd=load && echo $a; load; echo no\ncut steps\nrun 10\ndev 1 load\ndev 0 load\ntext no\\n\nvar a=x y\nvar bootcmd=load && echo $a; load; echo no\nend 0\nrun 11\ndev 1 load\ndev 1 load\ntext no\\n\nvar a=x y\nvar bootcmd=load && echo $a; load; echo no\nend 0\ndone\n"
unfolding listed
cut_steps_behind_devices = refl

-- `true` alone
true_alone : listed (bootcmd (limits only_load 2 10000) (codes "true")) z None ≡ codes "run .\nunset z\nend 0\ndone\n"
unfolding listed
true_alone = refl

-- deleted, then a listing of all; `setenv a; echo $?` unsets
deleted_is_unset : listed (bootcmd_among (limits only_load 0 10000) ((codes "a", codes "1") ∷ []) (codes "setenv a; echo $?")) (codes "a" ∷ []) None ≡ codes "run .\ntext 0\\n\nunset a\nend 0\ndone\n"
unfolding listed
deleted_is_unset = refl
