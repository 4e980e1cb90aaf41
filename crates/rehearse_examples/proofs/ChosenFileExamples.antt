-- Worked examples, computed: device commands that hand over to the text of one of several files.
use Rattle.std.proofs.Common.{◌≡◌, Bool, true, false, List, [], ◌∷◌, Some, None, codes, length, refl, map, replicate}
use Rattle.device_list.specs.DeviceList.{FileText, Effect, Devices, only}
use Rattle.device_list.specs.DeviceLaws.{quiet}
use Rattle.rehearse_terms.specs.State.{Text}
use Rattle.rehearse_terms.specs.declared.shell.Shell.TheVariants.{Profile, Old2023, Old2025, Modern2025}
use Rattle.rehearse_rules.specs.Execution.{End}
use Rattle.rehearse_rules.specs.Laws.{failing}
use Rattle.rehearse_rules.specs.Runs.{Task}
use Rattle.rehearse_rules.proofs.ExampleRehearsals.{limits, bootcmd, z, listed, ends_along, listed_along, along, Told, told_of}

-- `source` runs one of these files
abbrev one_of : List Text → Effect
one_of names = record quiet { runs = names }

-- which one it is has the same answer in each call
abbrev question : Effect
question = record quiet { stays = true }

abbrev plain : Text → FileText
plain text = record { text = text; size = length text }

abbrev sources : (source which : Effect) → Devices
sources source which = record (only ((codes "source", source) ∷ (codes "runs", which) ∷ [])) {
  choices = codes "a.scr" ∷ codes "b.scr" ∷ [];
  files = (codes "a.scr", plain (codes "echo a $?")) ∷ (codes "b.scr", plain (codes "echo b $?; false")) ∷ (codes "c.scr", plain (codes "echo c")) ∷ [];
}

abbrev sourcing : Effect → Text → Task
sourcing source text = bootcmd (limits (sources source question) 16 10000) text

-- after a success it is asked which one it is, and its text runs with the status from before the call
one_of_two : listed (sourcing (one_of (codes "a.scr" ∷ codes "b.scr" ∷ [])) (codes "false; source; echo $?")) z None
    ≡ codes "run 00\ndev 0 source\ndev 0 runs a.scr\ntext a 1\\n0\\n\nunset z\nend 0\nrun 01\ndev 0 source\ndev 1 runs a.scr\ntext b 1\\n1\\n\nunset z\nend 0\nrun 1\ndev 1 source\ntext 1\\n\nunset z\nend 0\ndone\n"
unfolding listed_along ends_along
one_of_two = along 2 (sourcing (one_of (codes "a.scr" ∷ codes "b.scr" ∷ [])) (codes "false; source; echo $?")) z None _ refl refl

-- of three, each but the last is asked for
one_of_three : listed (sourcing (record (one_of (codes "a.scr" ∷ codes "b.scr" ∷ codes "c.scr" ∷ [])) { always = Some true }) (codes "source; echo $?")) z None
    ≡ codes "run 0\ndev 0 source\ndev 0 runs a.scr\ntext a 0\\n0\\n\nunset z\nend 0\nrun 10\ndev 0 source\ndev 1 runs a.scr\ndev 0 runs b.scr\ntext b 0\\n1\\n\nunset z\nend 0\nrun 11\ndev 0 source\ndev 1 runs a.scr\ndev 1 runs b.scr\ntext c\\n0\\n\nunset z\nend 0\ndone\n"
unfolding listed_along ends_along
one_of_three = along 2 (sourcing (record (one_of (codes "a.scr" ∷ codes "b.scr" ∷ codes "c.scr" ∷ [])) { always = Some true }) (codes "source; echo $?")) z None _ refl refl

-- the same file again
same_again : listed (sourcing (record (one_of (codes "a.scr" ∷ codes "c.scr" ∷ [])) { always = Some true }) (codes "source; source")) z None
    ≡ codes "run 0\ndev 0 source\ndev 0 runs a.scr\ndev 0 source\ndev 0 runs a.scr\ntext a 0\\na 0\\n\nunset z\nend 0\nrun 1\ndev 0 source\ndev 1 runs a.scr\ndev 0 source\ndev 1 runs a.scr\ntext c\\nc\\n\nunset z\nend 0\ndone\n"
unfolding listed_along ends_along
same_again = along 1 (sourcing (record (one_of (codes "a.scr" ∷ codes "c.scr" ∷ [])) { always = Some true }) (codes "source; source")) z None _ refl refl

-- ---- neither answer counts as a failure

abbrev one_source : Task
one_source = sourcing (one_of (codes "a.scr" ∷ codes "b.scr" ∷ [])) (codes "source")

without_failures : listed (failing one_source 0) z None ≡ codes "run 00\ndev 0 source\ndev 0 runs a.scr\ntext a 0\\n\nunset z\nend 0\nrun 01\ndev 0 source\ndev 1 runs a.scr\ntext b 0\\n\nunset z\nend 1\ndone\n"
unfolding listed_along ends_along
without_failures = along 1 (failing one_source 0) z None _ refl refl

-- ---- in each shell, of a choice that is known

abbrev in_each : (answer : Bool) → List Text → (text : Text) → List Told
in_each answer names text =
    map (λ shell. told_of (bootcmd (record (limits (sources (record (one_of names) { always = Some true }) (record quiet { always = Some answer })) 16 12) { shell = shell }) text))
    (Profile ∷ Old2023 ∷ Old2025 ∷ Modern2025 ∷ [])

first : in_each true (codes "a.scr" ∷ codes "b.scr" ∷ []) (codes "false; source; echo $?") ≡ replicate 4 (codes "a 1\n0\n", End 0)
unfolding told_of
first = refl

second : in_each false (codes "a.scr" ∷ codes "b.scr" ∷ []) (codes "false; source; echo $?") ≡ replicate 4 (codes "b 1\n1\n", End 0)
unfolding told_of
second = refl

-- the last one is not there
no_file : in_each false (codes "a.scr" ∷ codes "none" ∷ []) (codes "source; echo $?") ≡ replicate 4 (codes "1\n", End 0)
unfolding told_of
no_file = refl
