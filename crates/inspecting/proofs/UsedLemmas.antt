-- How many bytes of data are used.
use Rattle.std.proofs.Common.{◌≡◌, ◌∙◌, ◌≤◌, ◌+◌, ℕ, None, List, ◌∷◌, ap, arith, flat_map, length, length-append}
use Rattle.envimage.proofs.FaultLemmas.{faultless_is_data}
use Rattle.envimage.specs.Data.{data_fault, entry, pairs_of}
use Rattle.inspecting.specs.Report.{used_by}

-- the entries and the NUL after them are in the data
pub used-fits : (body : List ℕ) → data_fault body ≡ None → used_by body ≤ length body
used-fits body sound =
    let d = faultless_is_data body sound in
    let whole : length body ≡ length (flat_map entry (pairs_of body)) + length (0 ∷ d.filling) = ap length d.whole ∙ length-append (flat_map entry (pairs_of body)) (0 ∷ d.filling) in
    omega (arith, whole)
