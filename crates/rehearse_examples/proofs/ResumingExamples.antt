-- Worked examples, computed: a listing that broke off.
use Rattle.std.proofs.Common.{ℕ, List, [], ◌∷◌, Option, Some, None, codes, refl, ◌≡◌, map, take, length, false}
use Rattle.device_list.specs.declared.finish.BoardEnd.TheVariants.{Boots}
use Rattle.rehearse_terms.specs.Outcomes.{Success}
use Rattle.rehearse_terms.specs.State.{Text}
use Rattle.std.specs.Fmt.{digits}
use Rattle.hushlang.specs.Expansion.{fields, joined, atoms}
use Rattle.hushlang.specs.Trees.{tree_of}
use Rattle.device_list.specs.DeviceList.{only}
use Rattle.rehearse_rules.specs.Listing.{record_of}
use Rattle.rehearse_rules.specs.Runs.{Task, runs}
use Rattle.rehearse_rules.specs.Resuming.{Point, whole, resume_point_of}
use Rattle.rehearse_rules.proofs.ExampleRehearsals.{only_load, limits, bootcmd, listed, listed_after}

abbrev two_attempts : Task
two_attempts = bootcmd (limits only_load 2 10000) (codes "load a || load b; echo $?")

abbrev broken_at : ℕ → Option Point
broken_at n = resume_point_of (take n (listed two_attempts [] None))

abbrev point : Text → ℕ → Option Point
point word length_before = Some (record { word = word; length_before = length_before })

-- the records have 72, 86 and 86 bytes, and `done` has 5
lengths : length (listed two_attempts [] None) ∷ length (listed_after two_attempts (Success ∷ []) [] None) ∷ [] ≡ 249 ∷ 177 ∷ []
unfolding listed listed_after
lengths = refl

points : map broken_at (0 ∷ 71 ∷ 72 ∷ 157 ∷ 158 ∷ 243 ∷ 244 ∷ 249 ∷ []) ≡ None ∷ None ∷ point (codes "0") 72 ∷ point (codes "0") 72 ∷ point (codes "10") 158 ∷ point (codes "10") 158 ∷ point (codes "11") 244 ∷ point (codes "11") 244 ∷ []
unfolding listed
points = refl

-- how many records are whole there
whole_counts : map (λ n. whole (map (record_of two_attempts []) (runs two_attempts)) (take n (listed two_attempts [] None))) (0 ∷ 71 ∷ 72 ∷ 157 ∷ 158 ∷ 243 ∷ 244 ∷ 249 ∷ []) ≡ 0 ∷ 0 ∷ 1 ∷ 1 ∷ 2 ∷ 2 ∷ 3 ∷ 3 ∷ []
unfolding listed tree_of fields joined atoms digits
whole_counts = refl

-- the same place in a listing that ends with `more`
broken_page : map (λ n. resume_point_of (take n (listed two_attempts [] (Some 1)))) (71 ∷ 72 ∷ 79 ∷ []) ≡ None ∷ point (codes "0") 72 ∷ point (codes "0") 72 ∷ []
unfolding listed
broken_page = refl

-- listings of a run that is cut, stopped or booted
abbrev ends : List Text
ends = listed (bootcmd (limits only_load 0 10000) (codes "load")) (codes "z" ∷ []) None ∷ listed (bootcmd (limits only_load 0 10000) (codes "foo")) (codes "z" ∷ []) None ∷ listed (bootcmd (limits (only ((codes "go", record { ends = Some Boots; stays = false; always = None; needs = []; normal = false; runs = []; sets = [] }) ∷ [])) 1 10000) (codes "go")) (codes "z" ∷ []) (Some 1) ∷ []

points_at_ends : map resume_point_of ends ≡ point (codes ".") 26 ∷ point (codes ".") 31 ∷ point (codes "0") 33 ∷ []
unfolding listed
points_at_ends = refl

-- single lines that start no record, and lines that end none
stray_lines : map resume_point_of (codes "end 0\n" ∷ codes "run 0\nend 0" ∷ codes "run 0\nvar z=end 0\n" ∷ codes "run 0\nend 0\nrun 1\n" ∷ []) ≡ None ∷ None ∷ None ∷ point (codes "0") 12 ∷ []
stray_lines = refl

-- lines that only start like the first or the last line of a record
similar_lines : map resume_point_of (codes "run 0\nendx\n" ∷ codes "runx\nend 0\n" ∷ codes "run 0\ncutx\n"
    ∷ codes "run 0\nstopx\n" ∷ codes "run 0\nbootedx\n" ∷ []) ≡ None ∷ None ∷ None ∷ None ∷ None ∷ []
similar_lines = refl

-- records of a board that restarts, or halts
points_at_stops : map resume_point_of (codes "run 0\nrestarted x\n" ∷ codes "run 0\nhalted x\n" ∷ codes "run 0\nrestartedx\n" ∷ codes "run 0\nhaltedx\n" ∷ []) ≡ point (codes "0") 18 ∷ point (codes "0") 15 ∷ None ∷ None ∷ []
points_at_stops = refl
