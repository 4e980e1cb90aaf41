-- The same stretch of a run from another state, which has the same at each key that the stretch reads: it goes on alike,
-- as far as the bounds allow. Ours.
use Rattle.std.specs.Prelude.{◌≡◌, ℕ, suc, ◌+◌, ◌<◌, ◌⊎◌, List, ◌++◌, length, Option, Some, None}
use Rattle.rehearse_terms.specs.State.{Text, State, LoggedCommand, get}
use Rattle.rehearse_rules.specs.Execution.{Limits, Answer, Normal, Exit, Ended, Dry, Ending, End, CutDevices, CutSteps, Unknown, Syntax, Unsupported, Panic, Size, Finished}
use Rattle.rehearse_rules.specs.Runs.{state_of, ending_of, kind_of}
use Rattle.rehearse_reads.specs.Keys.{Key, AgreeOn}

-- how many device commands an answer needs room for, including the one that asks
abbrev pub devices_of : Answer → ℕ
devices_of (Normal s) = length s.log
devices_of (Exit s) = length s.log
devices_of (Ended ending s) = length s.log
devices_of (Dry s) = suc (length s.log)

-- how a run has ended, if it has
abbrev pub ended_with : Answer → Option Ending
ended_with (Normal s) = Some (End s.memory.status)
ended_with (Exit s) = Some (End s.memory.status)
ended_with (Ended ending s) = Some ending
ended_with (Dry s) = None

-- both logs go on with the same commands
pub record HaveFurther (log_here log_there here there : List LoggedCommand) : Type 0 where
  pub further : List LoggedCommand
  pub goes_on_here : here ≡ log_here ++ further
  pub goes_on_there : there ≡ log_there ++ further

-- Two runs, here and there, differ by the same number of steps from start to end: steps_here + (steps there) is
-- steps_there + (steps here). After the logs with which they start, they log the same.
module _ (limits : Limits) (steps_here steps_there : ℕ) (log_here log_there : List LoggedCommand) where
  -- so far the runs went alike, and their states have the same at each of these keys
  pub record AreAbreast (known : List Key) (s t : State) : Type 0 where
    pub keys : AgreeOn known s t
    pub word : t.word ≡ s.word
    pub steps : steps_here + t.steps ≡ steps_there + s.steps
    pub logs : HaveFurther log_here log_there s.log t.log

  -- the answer there is of the same kind, in a state that went alike
  pub record IsAbreast (known : List Key) (s : State) (how : State → Answer) (b : Answer) : Type 0 where
    pub there : State
    pub is : b ≡ how there
    pub abreast : AreAbreast known s there

  abbrev pub IsSame : (known : List Key) → Answer → Answer → Type 0
  IsSame known (Normal s) b = IsAbreast known s Normal b
  IsSame known (Exit s) b = IsAbreast known s Exit b
  IsSame known (Ended ending s) b = IsAbreast known s (Ended ending) b
  IsSame known (Dry s) b = IsAbreast known s Dry b

  -- the run here was cut, and there was more room there
  abbrev pub IsCutBy : Ending → Type 0
  IsCutBy (End status) = ⊥
  IsCutBy CutDevices = length log_there < length log_here
  IsCutBy CutSteps = steps_there < steps_here
  IsCutBy (Unknown name) = ⊥
  IsCutBy (Syntax name) = ⊥
  IsCutBy (Unsupported name) = ⊥
  IsCutBy (Panic name) = ⊥
  IsCutBy Size = ⊥
  IsCutBy (Finished finish name) = ⊥

  abbrev pub IsCutHere : Answer → Type 0
  IsCutHere (Normal s) = ⊥
  IsCutHere (Exit s) = ⊥
  IsCutHere (Ended ending s) = IsCutBy ending
  IsCutHere (Dry s) = ⊥

  -- the run here went on, and there was not enough room for that there
  abbrev pub IsBeyond : Answer → Type 0
  IsBeyond a = ((steps_here < steps_there) × (steps_here + limits.step_bound < steps_there + (state_of a).steps))
      ⊎ ((length log_here < length log_there)
      × (length log_here + limits.device_bound < length log_there + devices_of a))

  -- the same, or a bound prevented it
  pub data IsAlike : List Key → Answer → Answer → Type 0 where
    same : {known : List Key} {a b : Answer} → IsSame known a b → IsAlike known a b
    cut_here : {known : List Key} {a b : Answer} → IsCutHere a → IsAlike known a b
    beyond : {known : List Key} {a b : Answer} → IsBeyond a → IsAlike known a b

  -- ---- of whole runs

  -- they end alike, with the same at each of these keys, after the same further commands and as many steps
  pub record HaveSameEnd (known : List Key) (a b : Answer) : Type 0 where
    pub kind : kind_of b ≡ kind_of a
    pub ended : ended_with b ≡ ended_with a
    pub keys : AgreeOn known (state_of a) (state_of b)
    pub steps : steps_here + (state_of b).steps ≡ steps_there + (state_of a).steps
    pub devices : length log_here + devices_of b ≡ length log_there + devices_of a
    pub logs : HaveFurther log_here log_there (state_of a).log (state_of b).log

  -- or a bound prevented it
  pub data EndAlike : List Key → Answer → Answer → Type 0 where
    same_end : {known : List Key} {a b : Answer} → HaveSameEnd known a b → EndAlike known a b
    end_cut : {known : List Key} {a b : Answer} → IsCutHere a → EndAlike known a b
    end_beyond : {known : List Key} {a b : Answer} → IsBeyond a → EndAlike known a b

-- ---- of runs that start alike but for what becomes of their text

-- both go on alike, but for the text
pub record ComeToSame (a b : Answer) : Type 0 where
  pub kind : kind_of b ≡ kind_of a
  pub ended : ended_with b ≡ ended_with a
  pub ending : ending_of b ≡ ending_of a
  pub log : (state_of b).log ≡ (state_of a).log
  pub steps : (state_of b).steps ≡ (state_of a).steps
  pub values : (name : Text) → get (state_of b).memory.environment name ≡ get (state_of a).memory.environment name
