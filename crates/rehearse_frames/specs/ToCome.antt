-- What the frames of the machine still read and write, beside what they do to a run (Meaning.antt of rehearse_machine). Ours.
use Rattle.std.specs.Prelude.{ℕ, nat_eq, Bool, true, false, List, [], ◌∷◌, ◌++◌, map}
use Rattle.hushlang.specs.Tree.{Script, Joined, Command, Arms}
use Rattle.rehearse_terms.specs.Outcomes.{OutcomeWord}
use Rattle.rehearse_terms.specs.State.{Text, State}
use Rattle.rehearse_rules.specs.ByShell.{status_of_loop}
use Rattle.rehearse_rules.specs.Execution.{Limits, Answer, Normal, Exit, Ended, Dry, holds, take_outcome, block_skipped, go_on, for_each, set_status, sourced}
use Rattle.rehearse_machine.specs.Frames.{Frame, Lists, Linked, IfCondition, LoopCondition, LoopBody, ForBody, RunNames, RunText, Next, Go, Ask, Stop, CommandEnd, RunFile, ChosenFile, FileText, with_file}
use Rattle.rehearse_machine.specs.Meaning.{with, full, script, resume, arms_of, again}
use Rattle.rehearse_reads.specs.Keys.{Access, Reads, Environment, Status}
use Rattle.rehearse_reads.specs.Accesses.{accesses, behind, behind_text, status_written, turns_accesses, each_accesses, run_accesses, taken_accesses, script_accesses, joined_accesses, command_accesses, arms_accesses, modern_accesses, compound_accesses, sourced_accesses, follow_accesses, one_accesses, chosen_accesses}

-- the values of these variables are read
abbrev pub names_read : List Text → List Access
names_read names = map (λ name. Reads (Environment name)) names

-- a text that `run` started has ended, or none was started yet
abbrev pub first_behind : Answer → (State → List Access) → List Access
first_behind (Normal s) next = next s
first_behind (Exit s) next = Reads Status ∷ elim (nat_eq s.memory.status 0) [ true ↦ next s | false ↦ [] ]
first_behind (Ended ending s) next = []
first_behind (Dry s) next = []

module _ (limits : Limits) where
  -- scripts and their parts, whose texts have all the steps too
  abbrev pub of_full : Script → State → List Access
  of_full = accesses limits limits.step_bound

  abbrev pub of_script : Script → State → List Access
  of_script = script_accesses limits limits.step_bound (full limits) of_full

  abbrev pub of_one : Command → State → List Access
  of_one = command_accesses limits limits.step_bound (full limits) of_full

  abbrev pub of_joined : Joined → State → List Access
  of_joined = joined_accesses limits limits.step_bound (full limits) of_full

  abbrev pub of_arms : Arms → State → List Access
  of_arms = arms_accesses limits limits.step_bound (full limits) of_full

  -- the next turns of a loop, after a body whose status may be the loop's
  abbrev pub of_again : Bool → Script → Script → State → List Access
  of_again until c b u =
      Reads Status ∷ turns_accesses limits.shell limits.step_bound until (script limits c) (script limits b) (of_script c) (of_script b) u

  -- of a loop, after its condition
  abbrev pub of_condition : Bool → Script → Script → State → List Access
  of_condition until c b t = Reads Status ∷ elim (holds until t.memory.status) [
    | true ↦ of_script b t ++ behind (script limits b t) (of_again until c b)
    | false ↦ status_written
  ]

  -- of an `if`, after a condition
  abbrev pub of_choice : Script → Arms → State → List Access
  of_choice b arms t =
      Reads Status ∷ elim (nat_eq t.memory.status 0) [
        | true ↦ of_script b t
        | false ↦ modern_accesses limits.shell ++ of_arms arms (block_skipped limits.shell b t)
      ]

  abbrev pub of_names : List Text → State → List Access
  of_names names = run_accesses limits (full limits) of_full names

  abbrev pub of_file : (name : Text) → (others : List Text) → (before : ℕ) → State → List Access
  of_file name others before = follow_accesses limits (full limits) of_full name others before

  -- of the files, when the status says whether it is this one
  abbrev pub of_chosen : (name other : Text) → (others : List Text) → (before : ℕ) → State → List Access
  of_chosen name other others before =
      chosen_accesses limits (full limits) of_full name before (one_accesses limits (full limits) of_full other others before)

  -- ---- what compound commands do, after a part of them

  abbrev pub choice : Script → Arms → State → Answer
  choice b arms t = elim (nat_eq t.memory.status 0) [
    | true ↦ script limits b t
    | false ↦ arms_of limits arms (block_skipped limits.shell b t)
  ]

  abbrev pub condition : Bool → Script → Script → (last : ℕ) → State → Answer
  condition until c b last t = elim (holds until t.memory.status) [
    | true ↦ go_on (script limits b t) (again limits until c b)
    | false ↦ Normal (set_status (status_of_loop limits.shell last t.memory.status) t)
  ]

  abbrev pub turns_left : Text → List Text → Script → State → Answer
  turns_left name values body t = for_each limits.shell name (script limits body) t.memory.status values t

  -- a compound command ends after this answer
  abbrev pub of_compound : Answer → List Access
  of_compound a = compound_accesses limits.shell a

  -- a frame, after the answer of the frames above it
  abbrev pub of_frame : Frame → Answer → List Access
  of_frame (Lists lists) a = behind a (of_script lists)
  of_frame (Linked links) a = behind a (of_joined links)
  of_frame (IfCondition b arms) a = behind a (of_choice b arms) ++ of_compound (go_on a (choice b arms))
  of_frame (LoopCondition until c b last) a = behind a (of_condition until c b) ++ of_compound (go_on a (condition until c b last))
  of_frame (LoopBody until c b) a = behind a (of_again until c b) ++ of_compound (go_on a (again limits until c b))
  of_frame (ForBody name values body) a =
      behind a (each_accesses limits.shell name (script limits body) (of_script body) values)
      ++ of_compound (go_on a (turns_left name values body))
  of_frame (RunNames names) a = first_behind a (of_names names)
  of_frame (RunText names) a = behind_text a (of_names names)
  of_frame (RunFile name others before) a = behind a (of_file name others before)
  of_frame (ChosenFile name other others before) a = behind a (of_chosen name other others before)
  of_frame FileText a = sourced_accesses limits.shell a ++ behind_text (sourced limits.shell a) (λ t. [])
  of_frame CommandEnd a = of_compound a

  -- ---- to the end of the run, where the status and the values of these variables are read

  module _ (wanted : List Text) where
    abbrev pub of_end : Answer → List Access
    of_end (Normal s) = Reads Status ∷ names_read wanted
    of_end (Exit s) = Reads Status ∷ names_read wanted
    of_end (Ended ending s) = names_read wanted
    of_end (Dry s) = []

    -- all frames, after an answer
    abbrev pub of_frames : List Frame → Answer → List Access
    of_frames [] a = of_end a
    of_frames (f ∷ fs) a = of_frame f a ++ of_frames fs (resume limits f a)

    -- what is to come after a move, with this word left
    abbrev pub of_next : OutcomeWord → Next → List Access
    of_next w (Go fs s) = of_frames fs (Normal (with w s))
    of_next w (Ask request fs s) =
        taken_accesses request w ++ of_frames (with_file s.memory.status request.effect.runs fs) (take_outcome request w (with w s))
    of_next w (Stop ending s) = names_read wanted
