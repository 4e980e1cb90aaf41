-- Worked examples, computed: many runs, and scripts that are nested as deeply as they may be.
use Rattle.std.proofs.Common.{ℕ, [], ◌∷◌, ◌++◌, None, codes, refl, ◌≡◌, length}
use Rattle.std.specs.Fmt.{digits}
use Rattle.hushlang.specs.Expansion.{fields, joined, atoms}
use Rattle.hushlang.specs.Trees.{tree_of}
use Rattle.rehearse_rules.specs.Runs.{Task, runs, work}
use Rattle.rehearse_rules.proofs.ExampleRehearsals.{only_load, limits, bootcmd, z, listed, times, ends_along, listed_along, along}

-- ---- many runs

-- what comes before the first device command is begun once, however many runs there are
abbrev seven_loads : Task
seven_loads = bootcmd (limits only_load 7 10000) (times 10 (codes "true; ") ++ codes "load; load; load; load; load; load; load")

many_runs : length (runs seven_loads) ∷ work seven_loads (runs seven_loads) ∷ [] ≡ 128 ∷ 137 ∷ []
unfolding tree_of fields joined atoms digits
many_runs = refl

-- ---- nesting

abbrev nested : ℕ → Task
nested levels = bootcmd (limits only_load 16 100) (times levels (codes "if true; then ") ++ (codes "echo x; " ++ times levels (codes "fi; ")))

deepest : listed (nested 64) z None ≡ codes "run .\ntext x\\n\nunset z\nend 0\ndone\n"
unfolding listed_along ends_along
deepest = along 0 (nested 64) z None _ refl refl

too_deep : listed (nested 65) z None ≡ codes "run .\nunset z\nstop syntax bootcmd\ndone\n"
unfolding listed_along ends_along
too_deep = along 0 (nested 65) z None _ refl refl
