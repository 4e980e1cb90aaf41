-- What is to come from two states, if it goes on alike as far as the bounds allow. Ours.
use Rattle.std.specs.Prelude.{◌≡◌, ℕ, suc, ◌+◌, ◌<◌, ◌⊎◌, List, length, map, Option, Some, None}
use Rattle.rehearse_terms.specs.Outcomes.{WordKind, Short}
use Rattle.rehearse_terms.specs.State.{Text, State, LoggedCommand, get}
use Rattle.rehearse_rules.specs.Execution.{Limits, Ending}
use Rattle.rehearse_rules.specs.Runs.{taken_kind}
use Rattle.rehearse_machine.specs.Came.{Came, Over, Wants}
use Rattle.rehearse_reads.specs.Alike.{HaveFurther, IsCutBy}

abbrev pub came_state : Came → State
came_state (Over ending s) = s
came_state (Wants s) = s

-- whether the word is a run, too short or too long
abbrev pub came_kind : Came → WordKind
came_kind (Over ending s) = taken_kind s
came_kind (Wants s) = Short

-- how the run has ended, with the values of these variables, if it has
abbrev pub came_end : (wanted : List Text) → Came → Option (Ending × List (Option Text))
came_end wanted (Over ending s) = Some (ending, map (get s.memory.environment) wanted)
came_end wanted (Wants s) = None

-- how many device commands it needs room for, including the one that asks
abbrev pub came_devices : Came → ℕ
came_devices (Over ending s) = length s.log
came_devices (Wants s) = suc (length s.log)

module _ (limits : Limits) (steps_here steps_there : ℕ) (log_here log_there : List LoggedCommand) (wanted : List Text) where
  -- the same kind of word and the same end, after the same further commands and as many steps
  pub record IsSameCame (c d : Came) : Type 0 where
    pub kind : came_kind d ≡ came_kind c
    pub end : came_end wanted d ≡ came_end wanted c
    pub steps : steps_here + (came_state d).steps ≡ steps_there + (came_state c).steps
    pub devices : length log_here + came_devices d ≡ length log_there + came_devices c
    pub logs : HaveFurther log_here log_there (came_state c).log (came_state d).log

  -- the run here was cut, and there was more room there
  abbrev pub CameCut : Came → Type 0
  CameCut (Over ending s) = IsCutBy limits steps_here steps_there log_here log_there ending
  CameCut (Wants s) = ⊥

  -- the run here went on, and there was not enough room for that there
  abbrev pub CameBeyond : Came → Type 0
  CameBeyond c = ((steps_here < steps_there) × (steps_here + limits.step_bound < steps_there + (came_state c).steps))
      ⊎ ((length log_here < length log_there)
      × (length log_here + limits.device_bound < length log_there + came_devices c))

  -- the same, or a bound prevented it
  pub data CameAlike : Came → Came → Type 0 where
    same : {c d : Came} → IsSameCame c d → CameAlike c d
    cut_here : {c d : Came} → CameCut c → CameAlike c d
    beyond : {c d : Came} → CameBeyond c → CameAlike c d
