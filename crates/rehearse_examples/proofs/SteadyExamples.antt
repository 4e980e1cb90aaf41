-- Worked examples, computed: device commands whose answers stay.
use Rattle.std.proofs.Common.{Ok, true, false, [], ◌∷◌, Some, None, codes, refl, ◌≡◌}
use Rattle.device_list.specs.declared.finish.BoardEnd.TheVariants.{Boots}
use Rattle.device_list.specs.CallLines.{Exactly}
use Rattle.device_list.specs.DeviceList.{Variable, Literal, LastWord, Effect, Devices, effect_of, only}
use Rattle.device_list.specs.DeviceList as lists
use Rattle.device_list.specs.DeviceLaws.{quiet}
use Rattle.rehearse_rules.specs.Laws.{failing}
use Rattle.rehearse_rules.specs.Runs.{Task}
use Rattle.rehearse_rules.proofs.ExampleRehearsals.{limits, bootcmd, bootcmd_among, z, listed, ends_along, listed_along, along}

abbrev steady : Effect
steady = record { ends = None; stays = true; always = None; needs = []; normal = false; runs = []; sets = [] }

-- the device list `steady load`
abbrev steady_load : Devices
steady_load = only ((codes "load", steady) ∷ [])

-- a failure stays, and so does a success: the second call takes no digit
abbrev again : Task
again = bootcmd (limits steady_load 16 10000) (codes "load a; load a; echo $?")

again_listed : listed again z None ≡ codes "run 0\ndev 0 load a\ndev 0 load a\ntext 0\\n\nunset z\nend 0\nrun 1\ndev 1 load a\ndev 1 load a\ntext 1\\n\nunset z\nend 0\ndone\n"
unfolding listed_along ends_along
again_listed = along 1 again z None _ refl refl

-- what a success sets, it sets again: the device list `steady load a=1`
abbrev sets_again : Task
sets_again = bootcmd (limits (only ((codes "load", record steady { sets = (Variable (codes "a"), Literal (codes "1")) ∷ [] }) ∷ [])) 16 10000) (codes "load; setenv a 2; load")

sets_again_listed : listed sets_again (codes "a" ∷ []) None ≡ codes "run 0\ndev 0 load\ndev 0 load\nvar a=1\nend 0\nrun 1\ndev 1 load\ndev 1 load\nvar a=2\nend 1\ndone\n"
unfolding listed_along ends_along
sets_again_listed = along 1 sets_again (codes "a" ∷ []) None _ refl refl

-- other words are asked anew, and so are fewer and more words
abbrev other_words : Task
other_words = failing (bootcmd (limits steady_load 16 10000) (codes "load a; load b; load; load a b; load b")) 1

other_words_listed : listed other_words z (Some 2) ≡ codes "run 0000\ndev 0 load a\ndev 0 load b\ndev 0 load\ndev 0 load a b\ndev 0 load b\nunset z\nend 0\nrun 0001\ndev 0 load a\ndev 0 load b\ndev 0 load\ndev 1 load a b\ndev 0 load b\nunset z\nend 0\nmore 0001\n"
unfolding listed_along ends_along
other_words_listed = along 4 other_words z (Some 2) _ refl refl

-- so is another command with the same words: the device list `steady load`, `steady boot`
abbrev other_name : Task
other_name = failing (bootcmd (limits (only ((codes "load", steady) ∷ (codes "boot", steady) ∷ [])) 16 10000) (codes "load a; boot a; load a; boot a")) 0

other_name_listed : listed other_name z None ≡ codes "run 00\ndev 0 load a\ndev 0 boot a\ndev 0 load a\ndev 0 boot a\nunset z\nend 0\ndone\n"
unfolding listed_along ends_along
other_name_listed = along 0 other_name z None _ refl refl

-- a command that is not steady is asked each time: the device list `steady load`, `boot`
abbrev not_steady : Task
not_steady = failing (bootcmd (limits (only ((codes "load", steady) ∷ (codes "boot", quiet) ∷ [])) 16 10000) (codes "boot; load; boot; load; boot")) 0

not_steady_listed : listed not_steady z None ≡ codes "run 0000\ndev 0 boot\ndev 0 load\ndev 0 boot\ndev 0 load\ndev 0 boot\nunset z\nend 0\ndone\n"
unfolding listed_along ends_along
not_steady_listed = along 0 not_steady z None _ refl refl

-- the device list `steady test`
abbrev steady_test : Task
steady_test = bootcmd (limits (record (only []) { test_stays = true }) 16 10000) (codes "test -e mmc 0:1 a; test -e mmc 0:1 a; echo $?")

steady_test_listed : listed steady_test z None ≡ codes "run 0\ndev 0 test -e mmc 0:1 a\ndev 0 test -e mmc 0:1 a\ntext 0\\n\nunset z\nend 0\nrun 1\ndev 1 test -e mmc 0:1 a\ndev 1 test -e mmc 0:1 a\ntext 1\\n\nunset z\nend 0\ndone\n"
unfolding listed_along ends_along
steady_test_listed = along 1 steady_test z None _ refl refl

-- a file that was there is not gone: no run writes `gone`
abbrev not_gone : Task
not_gone = bootcmd (limits (record (only []) { test_stays = true }) 16 10000) (codes "if test -e mmc 0:1 a; then if test -e mmc 0:1 a; then echo there; else echo gone; fi; fi")

not_gone_listed : listed not_gone z None ≡ codes "run 0\ndev 0 test -e mmc 0:1 a\ndev 0 test -e mmc 0:1 a\ntext there\\n\nunset z\nend 0\nrun 1\ndev 1 test -e mmc 0:1 a\nunset z\nend 0\ndone\n"
unfolding listed_along ends_along
not_gone_listed = along 1 not_gone z None _ refl refl

-- without `steady test` one run does
abbrev may_be_gone : Task
may_be_gone = bootcmd (limits (only []) 16 10000) not_gone.text

may_be_gone_listed : listed may_be_gone z None ≡ codes "run 00\ndev 0 test -e mmc 0:1 a\ndev 0 test -e mmc 0:1 a\ntext there\\n\nunset z\nend 0\nrun 01\ndev 0 test -e mmc 0:1 a\ndev 1 test -e mmc 0:1 a\ntext gone\\n\nunset z\nend 0\nrun 1\ndev 1 test -e mmc 0:1 a\nunset z\nend 0\ndone\n"
unfolding listed_along ends_along
may_be_gone_listed = along 2 may_be_gone z None _ refl refl

-- `test` without `-e` is computed from its words, whether its answers stay or not
abbrev words_tested : Task
words_tested = bootcmd (limits (record (only []) { test_stays = true }) 16 10000) (codes "x=1; test $x = 1; echo $?; x=2; test $x = 1; echo $?")

words_tested_listed : listed words_tested z None ≡ codes "run .\ntext 0\\n1\\n\nunset z\nend 0\ndone\n"
unfolding listed_along ends_along
words_tested_listed = along 0 words_tested z None _ refl refl

-- an answer stays for its own run alone: in the runs in which `boot` fails, `load` is asked anew. The device list `boot`,
-- `steady load`
abbrev own_run : Task
own_run = bootcmd (limits (only ((codes "boot", quiet) ∷ (codes "load", steady) ∷ [])) 16 10000) (codes "boot && load; load; echo $?")

own_run_listed : listed own_run z None ≡ codes "run 00\ndev 0 boot\ndev 0 load\ndev 0 load\ntext 0\\n\nunset z\nend 0\nrun 01\ndev 0 boot\ndev 1 load\ndev 1 load\ntext 1\\n\nunset z\nend 0\nrun 10\ndev 1 boot\ndev 0 load\ntext 0\\n\nunset z\nend 0\nrun 11\ndev 1 boot\ndev 1 load\ntext 1\\n\nunset z\nend 0\ndone\n"
unfolding listed_along ends_along
own_run_listed = along 3 own_run z None _ refl refl

-- a text that `run` starts asks for the same answers
abbrev in_a_text : Task
in_a_text = bootcmd_among (limits steady_load 16 10000) ((codes "bootcmd", codes "load a; run t") ∷ (codes "t", codes "load a || echo no") ∷ []) (codes "load a; run t")

in_a_text_listed : listed in_a_text z None ≡ codes "run 0\ndev 0 load a\ndev 0 load a\nunset z\nend 0\nrun 1\ndev 1 load a\ndev 1 load a\ntext no\\n\nunset z\nend 0\ndone\n"
unfolding listed_along ends_along
in_a_text_listed = along 1 in_a_text z None _ refl refl

-- the device list `steady sub mmc dev`, `mmc`: other calls of the name are asked each time
abbrev sub_list : Devices
sub_list = record { commands = (codes "mmc", quiet) ∷ []; subs = (codes "mmc", (codes "dev", steady) ∷ []) ∷ []; calls = []; known = []; test_stays = false; choices = []; files = [] }

abbrev steady_sub : Task
steady_sub = failing (bootcmd (limits sub_list 16 10000) (codes "mmc dev 1; mmc dev 1; mmc rescan; mmc rescan")) 0

steady_sub_listed : listed steady_sub z None ≡ codes "run 000\ndev 0 mmc dev 1\ndev 0 mmc dev 1\ndev 0 mmc rescan\ndev 0 mmc rescan\nunset z\nend 0\ndone\n"
unfolding listed_along ends_along
steady_sub_listed = along 0 steady_sub z None _ refl refl

-- the device list `steady sub part list @last=1`: the variable is that of the call, and is set by each of them
abbrev part_list : Devices
part_list = record { commands = []; subs = (codes "part", (codes "list", record steady { sets = (LastWord, Literal (codes "1")) ∷ [] }) ∷ []) ∷ []; calls = []; known = []; test_stays = false; choices = []; files = [] }

abbrev parts : Task
parts = bootcmd (limits part_list 16 10000) (codes "part list mmc v; setenv v; part list mmc v")

parts_listed : listed parts (codes "v" ∷ []) None ≡ codes "run 0\ndev 0 part list mmc v\ndev 0 part list mmc v\nvar v=1\nend 0\nrun 1\ndev 1 part list mmc v\ndev 1 part list mmc v\nunset v\nend 1\ndone\n"
unfolding listed_along ends_along
parts_listed = along 1 parts (codes "v" ∷ []) None _ refl refl

-- the device list `steady mmc`, `sub mmc rescan`: the `sub` lines decide for a call
sub_lines_decide : effect_of (record { commands = (codes "mmc", steady) ∷ []; subs = (codes "mmc", (codes "rescan", quiet) ∷ []) ∷ []; calls = []; known = []; test_stays = false; choices = []; files = [] }) (codes "mmc") (codes "rescan" ∷ []) ≡ Some quiet
sub_lines_decide = refl

-- an answer that is given again counts against the bound of device commands
abbrev bounded : Task
bounded = bootcmd (limits steady_load 2 10000) (codes "load; load; load")

bounded_listed : listed bounded z None ≡ codes "run 0\ndev 0 load\ndev 0 load\nunset z\ncut devices\nrun 1\ndev 1 load\ndev 1 load\nunset z\ncut devices\ndone\n"
unfolding listed_along ends_along
bounded_listed = along 1 bounded z None _ refl refl

-- the device list `final steady bootm`: a failure stays, and a success ends the run
abbrev steady_boot : Task
steady_boot = bootcmd (limits (only ((codes "bootm", record steady { ends = Some Boots }) ∷ [])) 16 10000) (codes "bootm || bootm; echo no")

steady_boot_listed : listed steady_boot z None ≡ codes "run 0\ndev 0 bootm\nunset z\nbooted bootm\nrun 1\ndev 1 bootm\ndev 1 bootm\ntext no\\n\nunset z\nend 0\ndone\n"
unfolding listed_along ends_along
steady_boot_listed = along 1 steady_boot z None _ refl refl

-- ---- answers that are always the same

-- the device list `call usb start : always 0`, `absent part`, `load`: the one succeeds and the other fails, without an
-- outcome, and neither counts as a failure
abbrev fixed_list : Devices
fixed_list = record {
  commands = (codes "load", quiet) ∷ [];
  subs = [];
  calls = (codes "usb", (record { words = Exactly (codes "start") ∷ []; more = false }, record quiet { always = Some true }) ∷ []) ∷ (codes "part", (record { words = []; more = true }, record quiet { always = Some false }) ∷ []) ∷ [];
  known = [];
  test_stays = false;
  choices = [];
  files = [];
}

fixed_read : lists.listed (codes "load\ncall usb start : always 0\nabsent part") ≡ Ok fixed_list
fixed_read = refl

abbrev fixed : Task
fixed = failing (bootcmd (limits fixed_list 16 10000) (codes "usb start; part list mmc; echo $?; load")) 0

fixed_listed : listed fixed z None ≡ codes "run 0\ndev 0 usb start\ndev 1 part list mmc\ndev 0 load\ntext 1\\n\nunset z\nend 0\ndone\n"
unfolding listed_along ends_along
fixed_listed = along 0 fixed z None _ refl refl

-- a call that no line fits is unknown
abbrev unfitted : Task
unfitted = bootcmd (limits fixed_list 16 10000) (codes "usb stop")

unfitted_listed : listed unfitted z None ≡ codes "run .\nunset z\nstop unknown usb\ndone\n"
unfolding listed_along ends_along
unfitted_listed = along 0 unfitted z None _ refl refl
