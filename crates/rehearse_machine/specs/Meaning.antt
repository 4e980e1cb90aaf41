-- What frames still do to a run: the machine's frames as a continuation of the meaning of scripts. Ours.
use Rattle.std.specs.Prelude.{◌≡◌, nat_eq, Bool, true, false, List, [], ◌∷◌, ◌++◌}
use Rattle.hushlang.specs.Tree.{Script, Joined, Command, Arms, IsProper, IsProperJoined, AreProperArms, HoldsCommand}
use Rattle.rehearse_terms.specs.Outcomes.{OutcomeWord}
use Rattle.rehearse_terms.specs.State.{State}
use Rattle.rehearse_rules.specs.ByShell.{status_of_loop}
use Rattle.rehearse_rules.specs.Execution.{chosen, run_one, Limits, Answer, Normal, Exit, Ended, Dry, Ending, Request, go_on, set_status, holds, text_end, take_outcome, run_all, turns, for_each, exec_script, exec_joined, exec_command, exec_arms, exec, block_skipped, compound, file_follows, sourced}
use Rattle.rehearse_rules.specs.Runs.{Task, run_on}
use Rattle.rehearse_machine.specs.Came.{Came, Over, settled}
use Rattle.rehearse_machine.specs.Frames.{ChosenFile, Frame, Lists, Linked, IfCondition, LoopCondition, LoopBody, ForBody, RunNames, RunText, Next, Go, Ask, Stop, CommandEnd, RunFile, FileText, with_file}

-- the state with this word left
abbrev pub with : OutcomeWord → State → State
with w s = record s { word = w }

-- a text that `run` started has ended, or none was started yet; if the run has not ended, the next text follows
abbrev pub first_or_next : Answer → (State → Answer) → Answer
first_or_next (Normal s) next = next s
first_or_next (Exit s) next = elim (nat_eq s.memory.status 0) [ true ↦ next s | false ↦ Normal s ]
first_or_next (Ended ending s) next = Ended ending s
first_or_next (Dry s) next = Dry s

module _ (limits : Limits) where
  -- what a script means: its texts have all the steps too
  abbrev pub full : Script → State → Answer
  full = exec limits limits.step_bound

  abbrev pub script : Script → State → Answer
  script = exec_script limits limits.step_bound full

  abbrev pub one : Command → State → Answer
  one = exec_command limits limits.step_bound full

  abbrev pub joined_of : Joined → State → Answer
  joined_of = exec_joined limits limits.step_bound full

  abbrev pub arms_of : Arms → State → Answer
  arms_of = exec_arms limits limits.step_bound full

  abbrev pub again : Bool → Script → Script → State → Answer
  again until c b u = turns limits.shell limits.step_bound until (script c) (script b) u.memory.status u

  -- what a frame makes of the answer of the frames above it
  abbrev pub resume : Frame → Answer → Answer
  resume (Lists lists) a = go_on a (script lists)
  resume (Linked links) a = go_on a (joined_of links)
  resume (IfCondition b arms) a =
      compound limits.shell (go_on a (λ t. elim (nat_eq t.memory.status 0) [
        | true ↦ script b t
        | false ↦ arms_of arms (block_skipped limits.shell b t)
      ]))
  resume (LoopCondition until c b last) a =
      compound limits.shell (go_on a (λ t.
      elim (holds until t.memory.status) [
        | true ↦ go_on (script b t) (again until c b)
        | false ↦ Normal (set_status (status_of_loop limits.shell last t.memory.status) t)
      ]))
  resume (LoopBody until c b) a = compound limits.shell (go_on a (again until c b))
  resume (ForBody name values body) a =
      compound limits.shell (go_on a (λ t. for_each limits.shell name (script body) t.memory.status values t))
  resume (RunNames names) a = first_or_next a (run_all limits full names)
  resume (RunText names) a = text_end limits.shell a (run_all limits full names)
  resume (RunFile name others before) a = go_on a (file_follows limits full name others before)
  resume (ChosenFile name other others before) a =
      go_on a (chosen limits full name before (run_one limits full other others before))
  resume FileText a = text_end limits.shell (sourced limits.shell a) Normal
  resume CommandEnd a = compound limits.shell a

  -- what all the frames make of an answer
  abbrev pub continue : List Frame → Answer → Came
  continue [] a = settled a
  continue (f ∷ fs) a = continue fs (resume f a)

  -- the result of a move, with this word left; a command that asks may hand over to the text of a file
  abbrev pub comes_to : OutcomeWord → Next → Came
  comes_to w (Go fs s) = continue fs (Normal (with w s))
  comes_to w (Ask request fs s) = continue (with_file s.memory.status request.effect.runs fs) (take_outcome request w (with w s))
  comes_to w (Stop ending s) = Over ending (with w s)

-- what a frame holds is proper
abbrev pub IsProperFrame : Frame → Type 0
IsProperFrame (Lists lists) = IsProper lists
IsProperFrame (Linked links) = IsProperJoined links
IsProperFrame (IfCondition b arms) = IsProper b × AreProperArms arms
IsProperFrame (LoopCondition until c b last) = HoldsCommand c × HoldsCommand b
IsProperFrame (LoopBody until c b) = HoldsCommand c × HoldsCommand b
IsProperFrame (ForBody name values body) = IsProper body
IsProperFrame (RunNames names) = Unit {0}
IsProperFrame (RunText names) = Unit {0}
IsProperFrame (RunFile name others before) = Unit {0}
IsProperFrame (ChosenFile name other others before) = Unit {0}
IsProperFrame FileText = Unit {0}
IsProperFrame CommandEnd = Unit {0}

abbrev pub AreProperFrames : List Frame → Type 0
AreProperFrames [] = Unit {0}
AreProperFrames (f ∷ fs) = IsProperFrame f × AreProperFrames fs

abbrev pub IsProperNext : Next → Type 0
IsProperNext (Go fs s) = AreProperFrames fs
IsProperNext (Ask request fs s) = AreProperFrames fs
IsProperNext (Stop ending s) = Unit {0}

module _ (task : Task) where
  -- the machine is as far as a run of the task that has taken p
  abbrev pub StandsAt : OutcomeWord → List Frame → State → Type 0
  StandsAt p fs s = (w : OutcomeWord) → settled (run_on task (p ++ w)) ≡ continue task.limits fs (Normal (with w s))

  -- a command has asked: whatever follows p, it takes the next outcome
  abbrev pub AsksAt : OutcomeWord → Request → List Frame → State → Type 0
  AsksAt p request fs s =
      (w : OutcomeWord) → settled (run_on task (p ++ w)) ≡ comes_to task.limits w (Ask request fs s)

  -- the run is over: whatever follows p is not used
  abbrev pub EndsAt : OutcomeWord → Ending → State → Type 0
  EndsAt p ending s = (w : OutcomeWord) → settled (run_on task (p ++ w)) ≡ Over ending (with w s)

  abbrev pub AfterMove : OutcomeWord → Next → Type 0
  AfterMove p (Go fs s) = StandsAt p fs s
  AfterMove p (Ask request fs s) = AsksAt p request fs s
  AfterMove p (Stop ending s) = EndsAt p ending s
