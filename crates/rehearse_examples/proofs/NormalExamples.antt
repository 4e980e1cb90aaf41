-- Worked examples, computed: device commands of which a failure is expected.
use Rattle.std.proofs.Common.{ℕ, Ok, true, [], ◌∷◌, ◌++◌, None, codes, refl, ◌≡◌}
use Rattle.device_list.specs.CallLines.{Pattern, Exactly}
use Rattle.device_list.specs.DeviceList.{Devices, only}
use Rattle.device_list.specs.DeviceList as lists
use Rattle.device_list.specs.DeviceLaws.{quiet}
use Rattle.rehearse_terms.specs.State.{Text}
use Rattle.rehearse_rules.specs.Laws.{failing}
use Rattle.rehearse_rules.specs.Runs.{Task}
use Rattle.rehearse_rules.proofs.ExampleRehearsals.{limits, bootcmd, z, listed, ends_along, listed_along, along}

abbrev any : Pattern
any = record { words = []; more = true }

-- ---- `load`, and `call tftp ** : normal 1`

abbrev network : Devices
network = record (only ((codes "load", quiet) ∷ [])) {
  calls = (codes "tftp", (any, record quiet { normal = true }) ∷ []) ∷ [];
}

network_read : lists.listed (codes "load\ncall tftp ** : normal 1") ≡ Ok network
network_read = refl

abbrev task : (most : ℕ) → Task
task most = failing (bootcmd (limits network 16 10000) (codes "tftp || load; echo $?")) most

-- the network fails, and nothing is wrong
abbrev as_expected : Text
as_expected = codes "run 10\ndev 1 tftp\ndev 0 load\ntext 0\\n\nunset z\nend 0\n"

-- it answers, which is not expected
abbrev answers : Text
answers = codes "run 0\ndev 0 tftp\ntext 0\\n\nunset z\nend 0\n"

abbrev both_fail : Text
both_fail = codes "run 11\ndev 1 tftp\ndev 1 load\ntext 1\\n\nunset z\nend 0\n"

none_unexpected : listed (task 0) z None ≡ as_expected ++ codes "done\n"
unfolding listed_along ends_along
none_unexpected = along 0 (task 0) z None _ refl refl

-- in dictionary order all the same
one_unexpected : listed (task 1) z None ≡ answers ++ (as_expected ++ (both_fail ++ codes "done\n"))
unfolding listed_along ends_along
one_unexpected = along 2 (task 1) z None _ refl refl

-- ---- `load`, and `call test -e ** : normal 1`

abbrev card : Devices
card = record (only ((codes "load", quiet) ∷ [])) {
  calls = (codes "test", (record { words = Exactly (codes "-e") ∷ []; more = true }, record quiet { normal = true }) ∷ []) ∷ [];
}

card_read : lists.listed (codes "load\ncall test -e ** : normal 1") ≡ Ok card
card_read = refl

abbrev sought : (most : ℕ) → Task
sought most = failing (bootcmd (limits card 16 10000) (codes "test -e mmc 0:1 /x || load")) most

-- the file is missing, and nothing is wrong
abbrev missing : Text
missing = codes "run 10\ndev 1 test -e mmc 0:1 /x\ndev 0 load\nunset z\nend 0\n"

missing_alone : listed (sought 0) z None ≡ missing ++ codes "done\n"
unfolding listed_along ends_along
missing_alone = along 0 (sought 0) z None _ refl refl
