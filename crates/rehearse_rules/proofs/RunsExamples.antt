-- Worked examples, computed: the runs of a text of which few answers are unexpected.
use Rattle.std.proofs.Common.{◌≡◌, true, false, List, [], ◌∷◌, map, Option, Some, None, codes, refl, ℕ}
use Rattle.std.specs.Fmt.{digits}
use Rattle.hushlang.specs.Expansion.{fields, joined, atoms}
use Rattle.hushlang.specs.Trees.{tree_of}
use Rattle.device_list.specs.CallLines.{Exactly}
use Rattle.device_list.specs.DeviceLaws.{quiet}
use Rattle.device_list.specs.DeviceList.{Devices, only}
use Rattle.rehearse_terms.specs.Outcomes.{Success, Failure, OutcomeWord}
use Rattle.rehearse_rules.specs.Runs.{Task, runs, unexpected}
use Rattle.rehearse_rules.proofs.ExampleRehearsals.{only_load, limits, bootcmd}

-- two loads, of which so many may fail
abbrev two_loads : Option ℕ → Task
two_loads failures = record (bootcmd (limits only_load 2 4) (codes "load; load")) { failures = failures }

none_fails : runs (two_loads (Some 0)) ≡ (Success ∷ Success ∷ []) ∷ []
unfolding tree_of fields joined atoms digits
none_fails = refl

one_fails : runs (two_loads (Some 1)) ≡ (Success ∷ Success ∷ []) ∷ (Success ∷ Failure ∷ []) ∷ (Failure ∷ Success ∷ []) ∷ []
unfolding tree_of fields joined atoms digits
one_fails = refl

any_fail : runs (two_loads None) ≡ (Success ∷ Success ∷ []) ∷ (Success ∷ Failure ∷ []) ∷ (Failure ∷ Success ∷ []) ∷ (Failure ∷ Failure ∷ []) ∷ []
unfolding tree_of fields joined atoms digits
any_fail = refl

-- the list `call load a : normal 1`, `load`
abbrev one_normal : Devices
one_normal = record (only ((codes "load", quiet) ∷ [])) {
  calls = (codes "load", (record { words = Exactly (codes "a") ∷ []; more = false }, record quiet { normal = true }) ∷ []) ∷ [];
}

abbrev normal_load : Option ℕ → Task
normal_load failures = record (bootcmd (limits one_normal 2 4) (codes "load a; load b")) { failures = failures }

abbrev four : List OutcomeWord
four = (Success ∷ Success ∷ []) ∷ (Success ∷ Failure ∷ []) ∷ (Failure ∷ Success ∷ []) ∷ (Failure ∷ Failure ∷ []) ∷ []

-- a success of the first counts, and a failure of the second
counted : map (unexpected (normal_load None)) four ≡ 1 ∷ 2 ∷ 0 ∷ 1 ∷ []
unfolding tree_of fields joined atoms digits
counted = refl

-- the digits are what they were: success before failure
normal_fails : runs (normal_load (Some 0)) ≡ (Failure ∷ Success ∷ []) ∷ []
unfolding tree_of fields joined atoms digits
normal_fails = refl

one_unexpected : runs (normal_load (Some 1)) ≡ (Success ∷ Success ∷ []) ∷ (Failure ∷ Success ∷ []) ∷ (Failure ∷ Failure ∷ []) ∷ []
unfolding tree_of fields joined atoms digits
one_unexpected = refl

any_unexpected : runs (normal_load None) ≡ four
unfolding tree_of fields joined atoms digits
any_unexpected = refl
