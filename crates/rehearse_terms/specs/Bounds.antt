-- The bounds of a rehearsal, and the shell by whose rules it runs (ours).
use Rattle.std.specs.Prelude.{ℕ, nat_le, Bool, false, ◌&&◌, ◌||◌, Option, Some, None, if◌then◌else◌}
use Rattle.rehearse_terms.specs.declared.shell.Shell.{Shell}
use Rattle.rehearse_terms.specs.declared.shell.Shell.TheVariants.{Profile}

-- how many device commands a run may ask, how many steps it may begin, and how many of its device commands may fail for
-- it to be listed, none for any number; by the rules of which shell it runs; and how many bytes there are for the variables
-- that it saves, none if there is room for all
pub record BoundsShown : Type 0 where
  pub devices : ℕ
  pub steps : ℕ
  pub failures : Option ℕ
  pub shell : Shell
  pub room : Option ℕ

abbrev pub in_shell : Shell → BoundsShown → BoundsShown
in_shell shell bounds = record bounds { shell = shell }

abbrev pub with_room : Option ℕ → BoundsShown → BoundsShown
with_room room bounds = record bounds { room = room }

-- the most device commands that a listing may allow to a run
abbrev pub most_devices : ℕ
most_devices = 32

-- the same for a run if runs are not listed, or if few of its device commands may fail
abbrev pub most_run_devices : ℕ
most_run_devices = 1000

-- so few
abbrev pub few_failures : ℕ
few_failures = 3

abbrev pub are_few : (failures : Option ℕ) → Bool
are_few None = false
are_few (Some failures) = nat_le failures few_failures

-- the most steps that a run may begin
abbrev pub most_steps : ℕ
most_steps = 1000000

-- whether these are bounds of a listing
abbrev pub are_bounds : ℕ → ℕ → (failures : Option ℕ) → Bool
are_bounds devices steps failures =
    (nat_le devices most_devices || are_few failures && nat_le devices most_run_devices) && nat_le steps most_steps

-- and whether of a run
abbrev pub are_run_bounds : ℕ → ℕ → Bool
are_run_bounds devices steps = nat_le devices most_run_devices && nat_le steps most_steps

abbrev pub run_bounds_of : ℕ → ℕ → Option BoundsShown
run_bounds_of devices steps =
    if are_run_bounds devices steps then Some (record { devices = devices; steps = steps; failures = None; shell = Profile; room = None }) else None

abbrev pub bounds_of : ℕ → ℕ → (failures : Option ℕ) → Option BoundsShown
bounds_of devices steps failures =
    if are_bounds devices steps failures
    then Some (record { devices = devices; steps = steps; failures = failures; shell = Profile; room = None }) else None
