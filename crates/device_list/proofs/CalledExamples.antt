-- Worked examples, computed: which calls are computed, and which go by the lines of their name.
use Rattle.std.proofs.Common.{◌≡◌, List, [], ◌∷◌, Some, codes, refl, false}
use Rattle.rehearse_terms.specs.State.{Text}
use Rattle.commands.specs.Computed.{Exists}
use Rattle.device_list.specs.Called.{called_by, Device, NoCommand}
use Rattle.device_list.specs.DeviceList.{Devices, computed_by}
use Rattle.device_list.specs.DeviceLaws.{quiet}

abbrev word : Text → List Text
word text = text ∷ []

abbrev with_env : Devices
with_env = record { commands = (codes "env", quiet) ∷ (codes "itest", quiet) ∷ []; subs = []; calls = []; known = codes "env" ∷ []; test_stays = false; choices = []; files = [] }

-- a call whose words cannot be computed goes by the lines of its name, as does a command that is not computed
by_the_line : called_by with_env (codes "env") (codes "default" ∷ word (codes "-a")) ≡ Device quiet
by_the_line = refl

not_known : called_by with_env (codes "itest") (codes "1" ∷ codes "==" ∷ word (codes "1")) ≡ Device quiet
not_known = refl

known : computed_by with_env (codes "env") (codes "exists" ∷ word (codes "a")) ≡ Some (Exists (codes "a"))
known = refl

no_line : called_by (record with_env { commands = [] }) (codes "env") (codes "default" ∷ word (codes "-a")) ≡ NoCommand
no_line = refl
