-- Worked examples, computed: device commands that need another call to have succeeded.
use Rattle.std.proofs.Common.{Ok, true, List, [], ◌∷◌, Some, None, codes, refl, ◌≡◌}
use Rattle.device_list.specs.declared.finish.BoardEnd.TheVariants.{Boots}
use Rattle.device_list.specs.CallLines.{Pattern}
use Rattle.device_list.specs.DeviceList.{Effect, Devices, only}
use Rattle.device_list.specs.DeviceList as lists
use Rattle.device_list.specs.DeviceLaws.{quiet}
use Rattle.rehearse_terms.specs.State.{Text}
use Rattle.rehearse_rules.specs.Laws.{failing}
use Rattle.rehearse_rules.specs.Runs.{Task}
use Rattle.rehearse_rules.proofs.ExampleRehearsals.{limits, bootcmd, z, listed, ends_along, listed_along, along}

abbrev any : Pattern
any = record { words = []; more = true }

-- the device list `load`, and a line `call NAME ** : needs ..`
abbrev needing : (name : Text) → Effect → (needs : List Text) → Devices
needing name effect needs = record (only ((codes "load", quiet) ∷ [])) { calls = (name, (any, record effect { needs = needs }) ∷ []) ∷ [] }

-- ---- `call bootz ** : needs load final`

abbrev boot_list : Devices
boot_list = needing (codes "bootz") (record quiet { ends = Some Boots }) (codes "load" ∷ [])

boot_read : lists.listed (codes "load\ncall bootz ** : needs load final") ≡ Ok boot_list
boot_read = refl

-- after a success it is asked; after a failure it fails, and takes no digit
abbrev boots : Task
boots = bootcmd (limits boot_list 16 10000) (codes "load mmc 0; bootz 8")

boots_listed : listed boots z None ≡ codes "run 00\ndev 0 load mmc 0\ndev 0 bootz 8\nunset z\nbooted bootz\nrun 01\ndev 0 load mmc 0\ndev 1 bootz 8\nunset z\nend 1\nrun 1\ndev 1 load mmc 0\ndev 1 bootz 8\nunset z\nend 1\ndone\n"
unfolding listed_along ends_along
boots_listed = along 2 boots z None _ refl refl

-- before any call it fails too, and counts as no failure
abbrev none_may_fail : Task
none_may_fail = failing (bootcmd (limits boot_list 16 10000) (codes "bootz || load; bootz")) 0

none_may_fail_listed : listed none_may_fail z None ≡ codes "run 00\ndev 1 bootz\ndev 0 load\ndev 0 bootz\nunset z\nbooted bootz\ndone\n"
unfolding listed_along ends_along
none_may_fail_listed = along 0 none_may_fail z None _ refl refl

-- ---- `call bootz ** : needs load usb final`

abbrev usb_list : Devices
usb_list = needing (codes "bootz") (record quiet { ends = Some Boots }) (codes "load" ∷ codes "usb" ∷ [])

usb_read : lists.listed (codes "load\ncall bootz ** : final needs load usb") ≡ Ok usb_list
usb_read = refl

-- another first word does not meet it, nor does no word
abbrev other_word : Task
other_word = failing (bootcmd (limits usb_list 16 10000) (codes "load; load mmc usb; bootz; load usb 0; bootz")) 0

other_word_listed : listed other_word z None ≡ codes "run 0000\ndev 0 load\ndev 0 load mmc usb\ndev 1 bootz\ndev 0 load usb 0\ndev 0 bootz\nunset z\nbooted bootz\ndone\n"
unfolding listed_along ends_along
other_word_listed = along 0 other_word z None _ refl refl

-- ---- `call usb ** : needs load steady`

abbrev steady_list : Devices
steady_list = needing (codes "usb") (record quiet { stays = true }) (codes "load" ∷ [])

-- the answer that it fails by does not stay; one that it is asked for does
abbrev stays_later : Task
stays_later = bootcmd (limits steady_list 16 10000) (codes "usb start; load; usb start; usb start")

stays_later_listed : listed stays_later z None ≡ codes "run 00\ndev 1 usb start\ndev 0 load\ndev 0 usb start\ndev 0 usb start\nunset z\nend 0\nrun 01\ndev 1 usb start\ndev 0 load\ndev 1 usb start\ndev 1 usb start\nunset z\nend 1\nrun 1\ndev 1 usb start\ndev 1 load\ndev 1 usb start\ndev 1 usb start\nunset z\nend 1\ndone\n"
unfolding listed_along ends_along
stays_later_listed = along 2 stays_later z None _ refl refl

-- ---- `call bootz ** : needs load always 0`

abbrev always_list : Devices
always_list = needing (codes "bootz") (record quiet { always = Some true }) (codes "load" ∷ [])

-- what is always the same is so only if the need is met
abbrev always_later : Task
always_later = bootcmd (limits always_list 16 10000) (codes "bootz; load; bootz")

always_later_listed : listed always_later z None ≡ codes "run 0\ndev 1 bootz\ndev 0 load\ndev 0 bootz\nunset z\nend 0\nrun 1\ndev 1 bootz\ndev 1 load\ndev 1 bootz\nunset z\nend 1\ndone\n"
unfolding listed_along ends_along
always_later_listed = along 1 always_later z None _ refl refl

-- ---- `call load ** : always 0`, `call bootz ** : needs load`

abbrev told_list : Devices
told_list = record (needing (codes "bootz") quiet (codes "load" ∷ [])) {
  commands = [];
  calls = (codes "load", (any, record quiet { always = Some true }) ∷ []) ∷ (codes "bootz", (any, record quiet { needs = codes "load" ∷ [] }) ∷ []) ∷ [];
}

told_read : lists.listed (codes "call load ** : always 0\ncall bootz ** : needs load") ≡ Ok told_list
told_read = refl

-- a success that is reported meets a need, too
abbrev told_meets : Task
told_meets = bootcmd (limits told_list 16 10000) (codes "load; bootz")

told_meets_listed : listed told_meets z None ≡ codes "run 0\ndev 0 load\ndev 0 bootz\nunset z\nend 0\nrun 1\ndev 0 load\ndev 1 bootz\nunset z\nend 1\ndone\n"
unfolding listed_along ends_along
told_meets_listed = along 1 told_meets z None _ refl refl
