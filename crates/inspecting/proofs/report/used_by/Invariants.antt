use Rattle.std.proofs.Common.{◌≡◌, ◌≤◌, ◌+◌, flat_map, length}
use Rattle.envimage.specs.Data.{entry}
use Rattle.envimage.specs.Entries.{pairs_left}
use Rattle.inspecting.specs.Report.{used_by}
use Rattle.inspecting.proofs.report.used_by.Given as goal

-- what was counted, and the entries that are left, are all that is used; and that fits the data
abbrev pub invariant-loop-name : goal.invariant-loop-name
invariant-loop-name l = record {
  all : l.used + length (flat_map entry (pairs_left l.name-iterator)) ≡ used_by l.body;
  fits : used_by l.body ≤ length l.body;
}
