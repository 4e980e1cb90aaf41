-- Worked examples, computed from the text of the device list and the text of `bootcmd` to the whole listing.
use Rattle.std.proofs.Common.{◌≡◌, [], ◌∷◌, None, Result, Ok, Err, codes, refl}
use Rattle.rehearse_terms.specs.State.{Text}
use Rattle.device_list.specs.DeviceList.{Devices, only, listed as devices_listed}
use Rattle.device_list.specs.declared.devices_error.DevicesError.{DevicesError}
use Rattle.rehearse_rules.specs.Execution.{Limits}
use Rattle.rehearse_rules.proofs.ExampleRehearsals.{limits, bootcmd, bootcmd_among, z, listed, ends_along, listed_along, along}

abbrev devices_in : Result Devices DevicesError → Devices
devices_in (Ok devices) = devices
devices_in (Err fault) = only []

-- with the usual bounds
abbrev with_list : Text → Limits
with_list text = limits (devices_in (devices_listed text)) 16 10000

-- the environment variable is set only on success, and a boot ends the run
sets_and_boots : listed (bootcmd (with_list (codes "load filesize=1000\nfinal bootm\n")) (codes "load && bootm; echo no")) (codes "filesize" ∷ []) None ≡ codes "run 00\ndev 0 load\ndev 0 bootm\nvar filesize=1000\nbooted bootm\nrun 01\ndev 0 load\ndev 1 bootm\ntext no\\n\nvar filesize=1000\nend 0\nrun 1\ndev 1 load\ntext no\\n\nunset filesize\nend 0\ndone\n"
unfolding listed_along ends_along
sets_and_boots = along 2 _ _ _ _ refl refl

-- a board that restarts, and one that halts
restarts_and_halts : listed (bootcmd (with_list (codes "restart reset\nhalt poweroff\n")) (codes "reset || poweroff; echo no")) z None ≡ codes "run 0\ndev 0 reset\nunset z\nrestarted reset\nrun 10\ndev 1 reset\ndev 0 poweroff\nunset z\nhalted poweroff\nrun 11\ndev 1 reset\ndev 1 poweroff\ntext no\\n\nunset z\nend 0\ndone\n"
unfolding listed_along ends_along
restarts_and_halts = along 2 _ _ _ _ refl refl

-- also inside a text that `run` started; `t` is `bootm`
boots_in_run : listed (bootcmd_among (with_list (codes "final bootm")) ((codes "bootcmd", codes "run t; echo x") ∷ (codes "t", codes "bootm") ∷ []) (codes "run t; echo x")) z None ≡ codes "run 0\ndev 0 bootm\nunset z\nbooted bootm\nrun 1\ndev 1 bootm\ntext x\\n\nunset z\nend 0\ndone\n"
unfolding listed_along ends_along
boots_in_run = along 1 _ _ _ _ refl refl

-- an environment variable comes before the shell variable
sets_over_shell : listed (bootcmd (with_list (codes "load v=e")) (codes "v=s; load; echo $v")) (codes "v" ∷ []) None ≡ codes "run 0\ndev 0 load\ntext e\\n\nvar v=e\nend 0\nrun 1\ndev 1 load\ntext s\\n\nunset v\nend 0\ndone\n"
unfolding listed_along ends_along
sets_over_shell = along 1 _ _ _ _ refl refl

-- lines of one name are joined: final if one of them is, settings in their order
lines_joined : listed (bootcmd (with_list (codes "load a=1\nfinal load\nload a=2\n")) (codes "load; echo no")) (codes "a" ∷ []) None ≡ codes "run 0\ndev 0 load\nvar a=2\nbooted load\nrun 1\ndev 1 load\ntext no\\n\nunset a\nend 0\ndone\n"
unfolding listed_along ends_along
lines_joined = along 1 _ _ _ _ refl refl

-- a list that has only names
names_alone : listed (bootcmd (with_list (codes "# d\nload\n\nmmc\n")) (codes "mmc || load")) z None ≡ codes "run 0\ndev 0 mmc\nunset z\nend 0\nrun 10\ndev 1 mmc\ndev 0 load\nunset z\nend 0\nrun 11\ndev 1 mmc\ndev 1 load\nunset z\nend 1\ndone\n"
unfolding listed_along ends_along
names_alone = along 2 _ _ _ _ refl refl

-- a command named `final`
named_final : listed (bootcmd (with_list (codes "final")) (codes "final; echo a")) z None ≡ codes "run 0\ndev 0 final\ntext a\\n\nunset z\nend 0\nrun 1\ndev 1 final\ntext a\\n\nunset z\nend 0\ndone\n"
unfolding listed_along ends_along
named_final = along 1 _ _ _ _ refl refl

-- what is computed is not asked; a shell variable is no variable of the environment, which is set where its line says so
computed : listed (bootcmd (with_list (codes "known env\nknown itest\nknown setexpr\nload filesize=1f")) (codes "v=1; env exists v || echo no; load; env exists filesize && setexpr n 0x$filesize + 1 && itest $n == 20 && echo yes; env delete n")) (codes "filesize" ∷ []) None ≡ codes "run 0\ndev 0 load\ntext no\\nyes\\n\nvar filesize=1f\nend 0\nrun 1\ndev 1 load\ntext no\\n\nunset filesize\nend 1\ndone\n"
unfolding listed_along ends_along
computed = along 1 (bootcmd (with_list (codes "known env\nknown itest\nknown setexpr\nload filesize=1f")) (codes "v=1; env exists v || echo no; load; env exists filesize && setexpr n 0x$filesize + 1 && itest $n == 20 && echo yes; env delete n")) (codes "filesize" ∷ []) None _ refl refl
