use Rattle.std.proofs.Common.{◌≡◌, ◌≤◌, take}
use Rattle.std.specs.List.{sum_by}
use Rattle.hushlang.specs.Expansion.{most_bytes}
use Rattle.rehearse_machine.proofs.FitLemmas.{byte_count}
use Rattle.rehearse_machine.proofs.steps.fits.Given as goal

-- the bytes of the fields so far are counted, and they are not too many
abbrev pub invariant-loop-field : goal.invariant-loop-field
invariant-loop-field l = (l.size ≡ sum_by byte_count (take l.field-index l.fields)) × (l.size ≤ most_bytes)
