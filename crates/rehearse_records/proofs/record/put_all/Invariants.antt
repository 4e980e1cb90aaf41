use Rattle.std.proofs.Common.{◌≡◌, ℕ, List, ◌++◌, length}
use Rattle.std.specs.List.{flat_map}
use Rattle.output.specs.Paging.{Put}
use Rattle.rehearse_records.specs.Recording.{set_line}
use Rattle.rehearse_records.proofs.record.put_all.Given as goal

-- the lines of the variables so far were put, and the others are left
abbrev pub invariant-loop-name : goal.invariant-loop-name
invariant-loop-name g l =
    (done : List ℕ) × (flat_map set_line l.fn.variables ≡ done ++ flat_map set_line l.variables) × Put (g.O.Out.sink l.fn.out) (g.O.Out.sink l.out) l.fn.page.items l.page.items done

abbrev pub decreases-loop-name : goal.decreases-loop-name
decreases-loop-name g l = length l.variables
