-- Worked examples, computed: a flow and its lines, and what walks through it see, compared with the result of the runs.
use Rattle.std.proofs.Common.{[], ◌∷◌, List, codes, refl, ◌≡◌, None, Some, true, false}
use Rattle.std.specs.Fmt.{digits}
use Rattle.hushlang.specs.Expansion.{fields, joined, atoms}
use Rattle.rehearse_terms.specs.Outcomes.{OutcomeWord, Success, Failure, Run, Short}
use Rattle.device_list.specs.DeviceList.{only}
use Rattle.device_list.specs.DeviceLaws.{quiet}
use Rattle.hushlang.specs.Trees.{tree_of}
use Rattle.rehearse_rules.specs.Execution.{End, CutDevices, Unknown}
use Rattle.rehearse_rules.specs.Runs.{Task, run_on}
use Rattle.rehearse_rules.proofs.ExampleRehearsals.{only_load, limits, bootcmd}
use Rattle.rehearse_states.specs.Drawing.{asks_in}
use Rattle.rehearse_states.specs.Flow.{Node, Asks, Ends, Seen, walk, numbered, seen_of, flow_text}

-- `load a || load b`
abbrev attempts : List Node
attempts =
    Asks (codes "load" ∷ codes "a" ∷ []) 4 2
    ∷ Asks (codes "load" ∷ codes "b" ∷ []) 4 3
    ∷ Ends (End 1)
    ∷ Ends (End 0)
    ∷ []

-- two of them ask
attempts_ask : asks_in attempts ≡ 2
attempts_ask = refl

attempts_lines : flow_text attempts ≡ codes "1 ask load a success 4 failure 2\n2 ask load b success 4 failure 3\n3 ends end 1\n4 ends end 0\n"
unfolding digits
attempts_lines = refl

-- a word with a blank is written in word form, and so is a name that is not known
named_lines : flow_text (Asks (codes "load" ∷ codes "a b" ∷ []) 2 2 ∷ Ends (Unknown (codes "b c")) ∷ []) ≡ codes "1 ask load a\\x20b success 2 failure 2\n2 ends stop unknown b\\x20c\n"
unfolding digits
named_lines = refl

abbrev task : Task
task = bootcmd (limits only_load 3 20) (codes "load a || load b")

abbrev walked : OutcomeWord → Seen
walked w = walk (numbered attempts) w 1

-- the first asks
no_outcome : walked [] ≡ seen_of (run_on task [])
unfolding tree_of fields joined atoms
no_outcome = refl

-- its success ends the run, and its failure leads on
one_success : walked (Success ∷ []) ≡ seen_of (run_on task (Success ∷ []))
unfolding tree_of fields joined atoms
one_success = refl

one_failure : walked (Failure ∷ []) ≡ seen_of (run_on task (Failure ∷ []))
unfolding tree_of fields joined atoms
one_failure = refl

second_success : walked (Failure ∷ Success ∷ []) ≡ seen_of (run_on task (Failure ∷ Success ∷ []))
unfolding tree_of fields joined atoms
second_success = refl

both_fail : walked (Failure ∷ Failure ∷ []) ≡ seen_of (run_on task (Failure ∷ Failure ∷ []))
unfolding tree_of fields joined atoms
both_fail = refl

-- outcomes that are left over
too_long : walked (Success ∷ Success ∷ Failure ∷ []) ≡ seen_of (run_on task (Success ∷ Success ∷ Failure ∷ []))
unfolding tree_of fields joined atoms
too_long = refl

-- there is no line 0 and no line after the last
no_line : walk (numbered attempts) [] 0 ≡ record { kind = Short; ending = None; log = [] }
no_line = refl

behind_the_last : walk (numbered attempts) (Success ∷ []) 5 ≡ record { kind = Short; ending = None; log = [] }
behind_the_last = refl

-- cut at the device bound
abbrev cut : List Node
cut = Asks (codes "load" ∷ []) 2 2 ∷ Ends CutDevices ∷ []

cut_by_devices : walk (numbered cut) (Failure ∷ []) 1 ≡ seen_of (run_on (bootcmd (limits only_load 1 20) (codes "load; load")) (Failure ∷ []))
unfolding tree_of fields joined atoms
cut_by_devices = refl

-- `exit` ends the run with its status
exited : walk (numbered (Ends (End 3) ∷ [])) [] 1 ≡ seen_of (run_on (bootcmd (limits only_load 3 20) (codes "exit 3")) [])
unfolding tree_of fields joined atoms digits
exited = refl

-- a steady command that is given its answer again takes no digit, and is no node
abbrev steady : Task
steady = bootcmd (limits (only ((codes "load", record quiet { stays = true }) ∷ [])) 3 20) (codes "load; load")

told_again_is_left_out : seen_of (run_on steady (Failure ∷ [])) ≡ record { kind = Run; ending = Some (End 1); log = (false, codes "load" ∷ []) ∷ [] }
unfolding tree_of fields joined atoms
told_again_is_left_out = refl

steady_walked : walk (numbered (Asks (codes "load" ∷ []) 3 2 ∷ Ends (End 1) ∷ Ends (End 0) ∷ [])) (Success ∷ []) 1 ≡ seen_of (run_on steady (Success ∷ []))
unfolding tree_of fields joined atoms
steady_walked = refl
