-- Worked examples, computed with the usual bounds: device commands that end the run or set variables.
use Rattle.std.proofs.Common.{false, [], ◌∷◌, None, codes, refl, ◌≡◌, Some}
use Rattle.device_list.specs.declared.finish.BoardEnd.TheVariants.{Boots}
use Rattle.rehearse_terms.specs.State.{Text}
use Rattle.device_list.specs.DeviceList.{Variable, Literal, LastWord, Effect, Devices, only}
use Rattle.rehearse_rules.specs.Runs.{Task}
use Rattle.rehearse_rules.proofs.ExampleRehearsals.{limits, bootcmd, bootcmd_among, z, listed, works, ends_along, listed_along, works_along, along, working}

abbrev final : Effect
final = record { ends = Some Boots; stays = false; always = None; needs = []; normal = false; runs = []; sets = [] }

abbrev sets_one : Text → Text → Effect
sets_one name value = record { ends = None; stays = false; always = None; needs = []; normal = false; runs = []; sets = (Variable name, Literal (value)) ∷ [] }

-- the device list `load filesize=1000`, `final bootm`
abbrev loads_and_boots : Devices
loads_and_boots = only ((codes "load", sets_one (codes "filesize") (codes "1000")) ∷ (codes "bootm", final) ∷ [])

abbrev boots : Task
boots = bootcmd (limits loads_and_boots 16 10000) (codes "load && bootm; echo no")

boots_listed : listed boots (codes "filesize" ∷ []) None ≡ codes "run 00\ndev 0 load\ndev 0 bootm\nvar filesize=1000\nbooted bootm\nrun 01\ndev 0 load\ndev 1 bootm\ntext no\\n\nvar filesize=1000\nend 0\nrun 1\ndev 1 load\ntext no\\n\nunset filesize\nend 0\ndone\n"
unfolding listed_along ends_along
boots_listed = along 2 _ _ _ _ refl refl

boots_work : works boots (1 ∷ 2 ∷ 3 ∷ []) ≡ 2 ∷ 3 ∷ 4 ∷ []
unfolding works_along ends_along
boots_work = working 2 _ _ _ refl refl

-- the device list `final bootm`; `t` is `bootm`
boots_inside_run : listed (bootcmd_among (limits (only ((codes "bootm", final) ∷ [])) 16 10000) ((codes "bootcmd", codes "run t; echo x") ∷ (codes "t", codes "bootm") ∷ []) (codes "run t; echo x")) z None ≡ codes "run 0\ndev 0 bootm\nunset z\nbooted bootm\nrun 1\ndev 1 bootm\ntext x\\n\nunset z\nend 0\ndone\n"
unfolding listed_along ends_along
boots_inside_run = along 1 _ _ _ _ refl refl

-- the device list `load v=e`: an environment variable is set, which comes before the shell variable
sets_before_shell : listed (bootcmd (limits (only ((codes "load", sets_one (codes "v") (codes "e")) ∷ [])) 16 10000) (codes "v=s; load; echo $v")) (codes "v" ∷ []) None ≡ codes "run 0\ndev 0 load\ntext e\\n\nvar v=e\nend 0\nrun 1\ndev 1 load\ntext s\\n\nunset v\nend 0\ndone\n"
unfolding listed_along ends_along
sets_before_shell = along 1 _ _ _ _ refl refl

-- the device list `load a=1`, `final load`, `load a=2`: of two settings of one name the later one counts, and the run
-- ends
joined_lines : listed (bootcmd (limits (only ((codes "load", record { ends = Some Boots; stays = false; always = None; needs = []; normal = false; runs = []; sets = (Variable (codes "a"), Literal (codes "1")) ∷ (Variable (codes "a"), Literal (codes "2")) ∷ [] }) ∷ [])) 16 10000) (codes "load; echo no")) (codes "a" ∷ []) None ≡ codes "run 0\ndev 0 load\nvar a=2\nbooted load\nrun 1\ndev 1 load\ntext no\\n\nunset a\nend 0\ndone\n"
unfolding listed_along ends_along
joined_lines = along 1 _ _ _ _ refl refl

-- `test -e` has no effect, whatever the list says of a command of its name
test_has_no_effect : listed (bootcmd (limits (only ((codes "test", final) ∷ [])) 16 10000) (codes "test -e mmc 0:1 /a; echo $?")) z None ≡ codes "run 0\ndev 0 test -e mmc 0:1 /a\ntext 0\\n\nunset z\nend 0\nrun 1\ndev 1 test -e mmc 0:1 /a\ntext 1\\n\nunset z\nend 0\ndone\n"
unfolding listed_along ends_along
test_has_no_effect = along 1 _ _ _ _ refl refl

-- the device list `sub part list @last=1`, `part`: on success the last word of the call is set; the line of the name is
-- for the other calls
abbrev part_list : Devices
part_list = record { commands = (codes "part", record { ends = None; stays = false; always = None; needs = []; normal = false; runs = []; sets = [] }) ∷ []; subs = (codes "part", (codes "list", record { ends = None; stays = false; always = None; needs = []; normal = false; runs = []; sets = (LastWord, Literal (codes "1")) ∷ [] }) ∷ []) ∷ []; calls = []; known = []; test_stays = false; choices = []; files = [] }

sets_by_the_call : listed (bootcmd (limits part_list 16 10000) (codes "part list mmc 0 v || part uuid mmc w")) (codes "v" ∷ codes "w" ∷ []) None ≡ codes "run 0\ndev 0 part list mmc 0 v\nvar v=1\nunset w\nend 0\nrun 10\ndev 1 part list mmc 0 v\ndev 0 part uuid mmc w\nunset v\nunset w\nend 0\nrun 11\ndev 1 part list mmc 0 v\ndev 1 part uuid mmc w\nunset v\nunset w\nend 1\ndone\n"
unfolding listed_along ends_along
sets_by_the_call = along 2 _ _ _ _ refl refl
