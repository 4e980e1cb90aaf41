-- What is kept of a moment at which a device command asks. Ours.
use Rattle.std.specs.Prelude.{ℕ, suc, max, List, [], ◌∷◌, Bool, true, false, ◌||◌}
use Rattle.rehearse_rules.specs.Execution.{Ending, CutDevices, CutSteps}
use Rattle.rehearse_states.specs.Endings.{RunEnd, Row, one_run}

-- the rows of what is to come; the most steps and device commands that its runs reach; whether a run is cut
pub record Summary : Type 0 where
  pub rows : List Row
  pub steps : ℕ
  pub devices : ℕ
  pub cut_steps : Bool
  pub cut_devices : Bool

abbrev pub is_cut_steps : Ending → Bool
is_cut_steps CutSteps = true
is_cut_steps _ = false

abbrev pub is_cut_devices : Ending → Bool
is_cut_devices CutDevices = true
is_cut_devices _ = false

-- a run that is over after this many steps and device commands
abbrev pub summary_at_end : RunEnd → (steps devices : ℕ) → Summary
summary_at_end run_end steps devices = record {
  rows = one_run (run_end, ([], 0)) ∷ [];
  steps = steps;
  devices = devices;
  cut_steps = is_cut_steps run_end.ending;
  cut_devices = is_cut_devices run_end.ending;
}

-- a device command that asks there, from its two sides
abbrev pub summary_of_sides : (List Row → List Row → List Row) → (steps devices : ℕ) → (won lost : Summary) → Summary
summary_of_sides both steps devices won lost = record {
  rows = both won.rows lost.rows;
  steps = max steps (max won.steps lost.steps);
  devices = max (suc devices) (max won.devices lost.devices);
  cut_steps = won.cut_steps || lost.cut_steps;
  cut_devices = won.cut_devices || lost.cut_devices;
}
