-- What contracts see of a point to resume at.
use Rattle.std.specs.Prelude.{ℕ, true, false, List, Option, Some, None, drop}
use Rattle.std.specs.Borrow.{Bor}
use Rattle.rehearse_rules.specs.Resuming as spec
use Rattle.rehearse_terms.specs.State.{Text}
use Rattle.rehearse_rules.specs.Resuming.{is_first_line}
use Rattle.rehearse_runs.specs.declared.resuming.Point.{Point}

abbrev pub point_of : Point → spec.Point
point_of p = record { word = p.word.now; length_before = p.length }

abbrev pub point_if : Option Point → Option spec.Point
point_if None = None
point_if (Some p) = Some (point_of p)

abbrev pub name_if : Option (Bor (List ℕ)) → Option Text
name_if None = None
name_if (Some b) = Some b.now

-- the word of a line that starts a record
abbrev pub first_word : Text → Option Text
first_word l = elim (is_first_line l) [ true ↦ Some (drop 4 l) | false ↦ None ]
