-- The limits that bounds keep.
use Rattle.std.proofs.Common.{ℕ, true, ◌≡◌, ◌≤◌, rules}
use Rattle.rehearse_terms.specs.Bounds.{BoundsShown, are_run_bounds, most_steps}

within_limit : (devices steps : ℕ) → are_run_bounds devices steps ≡ true → steps ≤ most_steps
within_limit devices steps h = search rules

pub steps_within : (b : BoundsShown) → are_run_bounds b.devices b.steps ≡ true → b.steps ≤ most_steps
steps_within b h = within_limit b.devices b.steps h
