-- What a summary says of the runs to come, and how it is moved. Ours.
use Rattle.std.specs.Prelude.{◌≡◌, ℕ, ◌+◌, ◌-◌, ◌≤◌, List, length, Bool, true, false, Option}
use Rattle.std.specs.FinMap.{entries}
use Rattle.device_list.specs.DeviceList.{Devices}
use Rattle.bootstore_state.specs.Moment.{Moment}
use Rattle.rehearse_terms.specs.Outcomes.{OutcomeWord}
use Rattle.rehearse_terms.specs.State.{Text}
use Rattle.rehearse_rules.specs.Execution.{Limits, Ending, CutDevices, CutSteps}
use Rattle.rehearse_rules.specs.Expected.{asked_in, unexpected_of}
use Rattle.rehearse_machine.specs.Came.{Came}
use Rattle.rehearse_machine.specs.Machine.{asked_at}
use Rattle.rehearse_reuse.specs.DrawnRuns.{further}
use Rattle.rehearse_reuse.specs.Futures.{came_kind, came_ending, came_end, came_log, came_steps, came_devices}
use Rattle.rehearse_states.specs.Endings.{HasRows, end_with, of_both}
use Rattle.rehearse_states.specs.Summaries.{Summary, summary_at_end, summary_of_sides}
use Rattle.rehearse_states.specs.RowsShown.{saturated_summary}

-- how many answers of a run are unexpected, after this many device commands that took an outcome
abbrev pub came_count : Devices → (before : ℕ) → Came → ℕ
came_count devices before c = length (unexpected_of devices (further before (asked_in (came_log c))))

-- the summary of the result of f, for every word, with the values of these variables, after this many device commands
pub record Sums (names : List Text) (devices : Devices) (before : ℕ) (f : OutcomeWord → Came) (s : Summary) : Type 0 where
  pub has_rows : HasRows (λ w. came_kind (f w)) (λ w. came_end names (f w)) (λ w. came_count devices before (f w)) s.rows
  pub steps : (w : OutcomeWord) → came_steps (f w) ≤ s.steps
  pub reached : (w : OutcomeWord) → came_devices (f w) ≤ s.devices
  pub uncut_steps : s.cut_steps ≡ false → (w : OutcomeWord) → came_ending (f w) ≡ CutSteps → ⊥
  pub uncut_devices : s.cut_devices ≡ false → (w : OutcomeWord) → came_ending (f w) ≡ CutDevices → ⊥

-- of what is to come at a moment at which a device command asks
abbrev pub SumsAt : (names : List Text) → Limits → Moment → Summary → Type 0
SumsAt names limits m s = Sums names limits.devices (length (asked_in m.log)) (asked_at limits m) s

-- if a run was cut, the room is the same; else there is room enough
abbrev pub FitsIf : (cut : Bool) → (here there reach bound : ℕ) → Type 0
FitsIf true here there reach bound = there ≡ here
FitsIf false here there reach bound = there + reach ≤ here + bound

-- a summary, moved to where this many steps and device commands came before
abbrev pub moved_by : (here there devices_here devices_there : ℕ) → Summary → Summary
moved_by here there devices_here devices_there s = record {
  rows = s.rows;
  steps = there + (s.steps - here);
  devices = devices_there + (s.devices - devices_here);
  cut_steps = s.cut_steps;
  cut_devices = s.cut_devices;
}

-- the summary of a moment, as it is for another
abbrev pub moved_on : (m t : Moment) → Summary → Summary
moved_on m t s = moved_by m.steps t.steps (length m.log) (length t.log) s

abbrev pub of_end : (names : List Text) → Ending → Moment → Summary
of_end names ending m = summary_at_end (end_with names ending (entries m.environment)) m.steps (length m.log)

abbrev pub of_sides : Moment → (expected : Option Bool) → (won lost : Summary) → Summary
of_sides m expected won lost = summary_of_sides (of_both expected) m.steps (length m.log) won lost

-- the summary of the result of f, except for counts that are too large
abbrev pub Summed : (names : List Text) → Devices → (before : ℕ) → (OutcomeWord → Came) → Summary → Type 0
Summed names devices before f shown = (s : Summary) × Sums names devices before f s × (shown ≡ saturated_summary s)
