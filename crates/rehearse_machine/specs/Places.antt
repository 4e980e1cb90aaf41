-- Frames that hold a script and a place in it, as a store keeps them, and one move of the machine over them. Ours.
use Rattle.std.specs.Prelude.{ℕ, zero, suc, nat_lt, nat_le, nat_eq, Bool, true, false, List, [], ◌∷◌, ◌++◌, length, drop, slice_get, Option, Some, None}
use Rattle.device_list.specs.declared.finish.BoardEnd.{BoardEnd}
use Rattle.hushlang.specs.Tree as tree
use Rattle.hushlang.specs.Tree.{Script, AndOr, Joined, Command, Arms}
use Rattle.hushlang.specs.Expansion.{size, most_bytes}
use Rattle.hushlang.specs.declared.tree.Op.{Op}
use Rattle.bootstore_state.specs.declared.frame.At.{At}
use Rattle.bootstore_state.specs.declared.frame.FrameKind.{FrameKind}
use Rattle.bootstore_state.specs.declared.frame.FrameKind.TheVariants as kinds
use Rattle.bootstore_state.specs.Moment.{RunningFrame}
use Rattle.rehearse_terms.specs.Outcomes.{Outcome, Success, Failure}
use Rattle.hushlang_shells.specs.TreesByShell.{TextRead, Runs, Fails, Panics, Unread, started_in, sourced_in}
use Rattle.rehearse_terms.specs.State.{Text, get, State}
use Rattle.rehearse_terms.specs.declared.shell.Shell.{Shell}
use Rattle.rehearse_terms.specs.declared.shell.Shell.TheVariants.{Profile, Old2023, Old2025, Modern2025}
use Rattle.rehearse_rules.specs.ByShell.{unread, reads_again, call_in, leaves_in, status_of_exit, asks_in, truth_in, fields_in, turns_in, skips_rest, status_of_nothing, status_of_no_block, status_of_loop, follows, assigned_in, follows_turns}
use Rattle.rehearse_rules.specs.Parameters.{parameters_in}
use Rattle.device_list.specs.DeviceList.{file_in}
use Rattle.device_list.specs.Called.{Called, BuiltIn, NoCommand, Device, called_by, sets_in}
use Rattle.commands.specs.BuiltInCommands.{ChangesVariables, WritesText, RunsTexts, Tests, Exits, variables_changed, text_written}
use Rattle.rehearse_rules.specs.Needs.{effect_now}
use Rattle.rehearse_rules.specs.Execution.{choice_text, Limits, Ending, End, CutDevices, CutSteps, Unknown, Size, Finished, remember, set_status, begin_turn, status_when, goes, holds, Request, outcome_when, told, told_again, logged, set_environment, Unsupported, Panic, assign_local, request_of, test_request, text_failed, for_begun, block_skipped, compound_left}
use Rattle.rehearse_machine.specs.Frames.{ChosenFile, Frame, Lists, Linked, IfCondition, LoopCondition, LoopBody, ForBody, RunNames, RunText, Next, Go, Ask, Stop, begun_text, CommandEnd, RunFile, FileText}

-- ---- parts of a script by their numbers

abbrev pub list_at : Script → ℕ → Option AndOr
list_at tree.Empty i = None
list_at (tree.Runs l ls) zero = Some l
list_at (tree.Runs l ls) (suc i) = list_at ls i

abbrev pub drop_lists : ℕ → Script → Script
drop_lists zero script = script
drop_lists (suc i) tree.Empty = tree.Empty
drop_lists (suc i) (tree.Runs l ls) = drop_lists i ls

abbrev pub joined_at : Joined → ℕ → Option (Op × Command)
joined_at tree.Alone j = None
joined_at (tree.Joins op c rest) zero = Some (op, c)
joined_at (tree.Joins op c rest) (suc j) = joined_at rest j

abbrev pub drop_joined : ℕ → Joined → Joined
drop_joined zero rest = rest
drop_joined (suc j) tree.Alone = tree.Alone
drop_joined (suc j) (tree.Joins op c rest) = drop_joined j rest

abbrev pub second : Option (Op × Command) → Option Command
second None = None
second (Some pair) = Some pair.1

abbrev pub command_in : AndOr → ℕ → Option Command
command_in (tree.Starts c rest) zero = Some c
command_in (tree.Starts c rest) (suc j) = second (joined_at rest j)

abbrev pub command_at : Option AndOr → ℕ → Option Command
command_at None j = None
command_at (Some list) j = command_in list j

-- the arms from one on; the `else` block is after all of them
abbrev pub drop_arms : ℕ → Arms → Arms
drop_arms zero arms = arms
drop_arms (suc a) (tree.Arm c b arms) = drop_arms a arms
drop_arms (suc a) (tree.Else b) = tree.Else b
drop_arms (suc a) tree.NoElse = tree.NoElse

-- ---- the frames that places describe

abbrev pub place : ℕ → ℕ → ℕ → ℕ → At
place list command turn last = record { list = list; command = command; turn = turn; last = last }

-- the frames of a list from its command on
abbrev pub from_command : AndOr → ℕ → Script → List Frame
from_command list zero rest = Lists (tree.Runs list rest) ∷ []
from_command (tree.Starts c joins) (suc j) rest = Linked (drop_joined j joins) ∷ Lists rest ∷ []

-- after the condition of the first of these arms, if there is one
abbrev pub condition_frame : Arms → Frame
condition_frame (tree.Arm c b more) = IfCondition b more
condition_frame (tree.Else b) = CommandEnd
condition_frame tree.NoElse = CommandEnd

-- the frame of a command whose block has just ended
abbrev pub phase : Option Command → ℕ → ℕ → Frame
phase (Some (tree.If arms)) a zero = condition_frame (drop_arms a arms)
phase (Some (tree.If arms)) a (suc last) = CommandEnd
phase (Some (tree.Loop until c b)) zero last = LoopCondition until c b last
phase (Some (tree.Loop until c b)) (suc a) zero = LoopBody until c b
phase (Some (tree.Loop until c b)) (suc a) (suc last) = CommandEnd
phase o a last = CommandEnd

abbrev pub from_turn : AndOr → At → ℕ → Script → List Frame
from_turn list at zero rest = from_command list at.command rest
from_turn list at (suc a) rest = phase (command_in list at.command) a at.last ∷ from_command list (suc at.command) rest

-- after the last list of a script
abbrev pub past_lists : (turn : ℕ) → List Frame
past_lists zero = Lists tree.Empty ∷ []
past_lists (suc a) = CommandEnd ∷ []

abbrev pub script_frames : Option AndOr → At → Script → List Frame
script_frames None at rest = past_lists at.turn
script_frames (Some list) at rest = from_turn list at at.turn rest

abbrev pub for_frame : Option Command → ℕ → List Text → Frame
for_frame (Some (tree.For name words body)) turn values = ForBody name (drop turn values) body
for_frame o turn values = ForBody [] [] tree.Empty

abbrev pub run_frame : ℕ → List Text → Frame
run_frame zero names = RunNames names
run_frame (suc k) names = RunText (drop (suc k) names)

-- it is asked whether it is the first of these files
abbrev pub asked_part : (last : ℕ) → (names : List Text) → Frame
asked_part last [] = Lists tree.Empty
asked_part last (name ∷ []) = Lists tree.Empty
asked_part last (name ∷ other ∷ others) = ChosenFile name other others last

-- the text of a file has not begun, it has, or it is asked which one it is
abbrev pub file_part : (turn last : ℕ) → (names : List Text) → Frame
file_part zero last [] = Lists tree.Empty
file_part zero last (name ∷ others) = RunFile name others last
file_part (suc zero) last names = FileText
file_part (suc (suc k)) last names = asked_part last names

abbrev pub frames_by : FrameKind → RunningFrame → List Frame
frames_by kinds.Text f = script_frames (list_at f.script f.place.list) f.place (drop_lists (suc f.place.list) f.script)
frames_by kinds.Block f = script_frames (list_at f.script f.place.list) f.place (drop_lists (suc f.place.list) f.script)
frames_by kinds.For f = for_frame (command_at (list_at f.script f.place.list) f.place.command) f.place.turn f.words ∷ []
frames_by kinds.Run f = run_frame f.place.turn f.words ∷ []
frames_by kinds.File f = file_part f.place.turn f.place.last (drop f.place.command f.words) ∷ []

-- the frames that the frames of a store describe
abbrev pub frames_of : List RunningFrame → List Frame
frames_of [] = []
frames_of (f ∷ fs) = frames_by f.kind f ++ frames_of fs

-- ---- one move

pub data PlaceNext : Type 0 where
  GoOn : List RunningFrame → State → PlaceNext
  AskOn : Request → List RunningFrame → State → PlaceNext
  StopOn : Ending → State → PlaceNext

abbrev pub next_of : PlaceNext → Next
next_of (GoOn ps s) = Go (frames_of ps) s
next_of (AskOn r ps s) = Ask r (frames_of ps) s
next_of (StopOn ending s) = Stop ending s

abbrev pub moved_to : At → RunningFrame → RunningFrame
moved_to at f = record f { place = at }

-- the place after its command
abbrev pub behind : RunningFrame → RunningFrame
behind f = moved_to (place f.place.list (suc f.place.command) 0 0) f

-- the place in a turn of its command
abbrev pub in_turn : ℕ → ℕ → RunningFrame → RunningFrame
in_turn turn last f = moved_to (place f.place.list f.place.command turn last) f

-- a command that is over: what follows is after it. In no turn that goes on is the last status 1 in turn 2
abbrev pub over : At → At
over at = place at.list at.command 2 1

abbrev pub command_over : RunningFrame → RunningFrame
command_over f = moved_to (over f.place) f

-- the place of an `if` while one of its blocks runs
abbrev pub under_block : Shell → At → At
under_block Profile at = place at.list (suc at.command) 0 0
under_block Old2023 at = place at.list (suc at.command) 0 0
under_block Old2025 at = place at.list (suc at.command) 0 0
under_block Modern2025 at = over at

abbrev pub with_block : Shell → RunningFrame → RunningFrame
with_block shell f = moved_to (under_block shell f.place) f

abbrev pub text_frame : Script → RunningFrame
text_frame script = record { kind = kinds.Text; script = script; words = []; place = place 0 0 0 0 }

abbrev pub block_frame : Script → RunningFrame
block_frame script = record { kind = kinds.Block; script = script; words = []; place = place 0 0 0 0 }

-- the names of a `run` in a script
abbrev pub names_frame : Script → List Text → RunningFrame
names_frame script names = record { kind = kinds.Run; script = script; words = names; place = place 0 0 0 0 }

-- a file whose text may run, in no script, with the status from before the command
abbrev pub file_frame : (before : ℕ) → (names : List Text) → RunningFrame
file_frame before names = record { kind = kinds.File; script = tree.Empty; words = names; place = place 0 0 0 before }

-- a file frame at one of its files, in this turn
abbrev pub at_file : (file turn : ℕ) → RunningFrame → RunningFrame
at_file file turn f = moved_to (place f.place.list file turn f.place.last) f

-- a command that names a file hands over to its text
abbrev pub above_file : (before : ℕ) → (runs : List Text) → List RunningFrame → List RunningFrame
above_file before [] ps = ps
above_file before (name ∷ others) ps = file_frame before (name ∷ others) ∷ ps

-- the `for` at the place of a frame, and its fields
abbrev pub values_frame : RunningFrame → List Text → RunningFrame
values_frame f values =
    record { kind = kinds.For; script = f.script; words = values; place = place f.place.list f.place.command 0 0 }

-- the innermost of these frames is a `run` whose text `exit` has ended, and the others are below it
abbrev pub run_left : (run below : List RunningFrame) → State → PlaceNext
run_left run below s = elim (nat_eq s.memory.status 0) [ true ↦ GoOn run s | false ↦ GoOn below s ]

-- `exit` in a compound command goes further outwards, in the modern shell to these frames alone
abbrev pub left_compound : Shell → List RunningFrame → (outwards : PlaceNext) → State → PlaceNext
left_compound Profile ps outwards s = outwards
left_compound Old2023 ps outwards s = outwards
left_compound Old2025 ps outwards s = outwards
left_compound Modern2025 ps outwards s = GoOn ps (compound_left s)

-- `exit` in a script at this turn of a command: in the first turn it is in no compound command there
abbrev pub left_script : Shell → (turn : ℕ) → RunningFrame → List RunningFrame → (outwards : PlaceNext) → State → PlaceNext
left_script shell zero f fs outwards s = outwards
left_script shell (suc a) f fs outwards s = left_compound shell (command_over f ∷ fs) outwards s

-- `exit` in the text of a file ends that text, in the modern shell the run
abbrev pub file_left : Shell → List RunningFrame → State → PlaceNext
file_left Profile ps s = GoOn ps s
file_left Old2023 ps s = GoOn ps s
file_left Old2025 ps s = GoOn ps s
file_left Modern2025 ps s = StopOn (End s.memory.status) s

-- `exit` at a file whose text has not begun, or in its text
abbrev pub left_file : Shell → (turn : ℕ) → List RunningFrame → (outwards : PlaceNext) → State → PlaceNext
left_file shell zero fs outwards s = outwards
left_file shell (suc zero) fs outwards s = file_left shell fs s
left_file shell (suc (suc k)) fs outwards s = outwards

abbrev pub left_by : Shell → FrameKind → RunningFrame → List RunningFrame → (outwards : PlaceNext) → State → PlaceNext
left_by shell kinds.Text f fs outwards s = left_script shell f.place.turn f fs outwards s
left_by shell kinds.Block f fs outwards s = left_script shell f.place.turn f fs outwards s
left_by shell kinds.For f fs outwards s = left_compound shell fs outwards s
left_by shell kinds.Run f fs outwards s = run_left (f ∷ fs) fs s
left_by shell kinds.File f fs outwards s = left_file shell f.place.turn fs outwards s

-- `exit` ends the text that is running, or leaves a compound command in it
abbrev pub left : Shell → List RunningFrame → State → PlaceNext
left shell [] s = StopOn (End s.memory.status) s
left shell (f ∷ fs) s = left_by shell f.kind f fs (left shell fs s) s

-- `exit` leaves the text that is running with a status, or has the other status
abbrev pub place_exit : Shell → Option ℕ → (other : ℕ) → List RunningFrame → State → PlaceNext
place_exit shell (Some status) other ps s = left shell ps (set_status status s)
place_exit shell None other ps s = GoOn ps (set_status other s)

abbrev pub place_finish : Option BoardEnd → Text → List RunningFrame → State → PlaceNext
place_finish (Some finish) name ps s = StopOn (Finished finish name) s
place_finish None name ps s = GoOn ps s

abbrev pub place_taken : Outcome → Request → List RunningFrame → State → PlaceNext
place_taken Success request ps s =
    place_finish request.effect.ends request.name ps (set_environment (sets_in request.words request.effect.sets) (logged Success request s))
place_taken Failure request ps s = GoOn ps (logged Failure request s)

-- the outcome of the command that asks, which may hand over to the text of a file
abbrev pub place_answered : Outcome → Request → List RunningFrame → State → PlaceNext
place_answered outcome request ps s = place_taken outcome request (above_file s.memory.status request.effect.runs ps) s

-- a command that is given its answer again goes on with it; another one asks
abbrev pub place_tell_or_ask : (told : Option Bool) → Request → List RunningFrame → State → PlaceNext
place_tell_or_ask (Some success) request ps s = place_answered (outcome_when success) (told_again request) ps s
place_tell_or_ask None request ps s = AskOn request ps s

abbrev pub place_assign : Shell → List (Text × tree.Word) → List RunningFrame → State → PlaceNext
place_assign shell [] ps s = GoOn ps (set_status 0 s)
place_assign shell (pair ∷ pairs) ps s =
    let value = assigned_in shell (parameters_in s.memory) pair.1 in
    elim (nat_le (length value) most_bytes) [
      | true ↦ place_assign shell pairs ps (assign_local shell pair.0 value s)
      | false ↦ StopOn Size s
    ]

-- the text of a name of a `run`, or of a file, which is f
abbrev pub place_read : Shell → TextRead → Text → RunningFrame → List RunningFrame → State → PlaceNext
place_read shell (Runs t) name f fs s = GoOn (text_frame t ∷ in_turn (suc f.place.turn) 0 f ∷ fs) (begun_text t s)
place_read shell Fails name f fs s = GoOn fs (set_status 1 s)
place_read shell Panics name f fs s = StopOn (Panic name) s
place_read shell Unread name f fs s = StopOn (unread shell name) s

abbrev pub place_text : Shell → Option Text → Text → RunningFrame → List RunningFrame → State → PlaceNext
place_text shell None name f fs s = GoOn fs (set_status 1 s)
place_text shell (Some text) name f fs s = place_read shell (started_in shell text) name f fs s

-- the text of a file, which f names
abbrev pub place_sourced : Shell → Option Text → Text → RunningFrame → List RunningFrame → State → PlaceNext
place_sourced shell None name f fs s = GoOn fs (set_status 1 s)
place_sourced shell (Some text) name f fs s = place_read shell (sourced_in shell text) name f fs s

-- a text that asks something is read, and the frame is after it
abbrev pub place_question : Shell → TextRead → Text → RunningFrame → List RunningFrame → State → PlaceNext
place_question shell (Runs t) name f fs s = GoOn (text_frame t ∷ f ∷ fs) (begun_text t s)
place_question shell Fails name f fs s = GoOn (f ∷ fs) (set_status 1 s)
place_question shell Panics name f fs s = StopOn (Panic name) s
place_question shell Unread name f fs s = StopOn (unread shell name) s

abbrev pub place_name : Shell → Option Text → RunningFrame → List RunningFrame → State → PlaceNext
place_name shell None f fs s = GoOn fs s
place_name shell (Some name) f fs s = place_text shell (get s.memory.environment name) name f fs s

abbrev pub run_move : Shell → RunningFrame → List RunningFrame → State → PlaceNext
run_move shell f fs s =
    elim (nat_eq f.place.turn 0) [
      | true ↦ place_name shell (slice_get f.words f.place.turn) f fs s
      | false ↦
          elim (nat_eq s.memory.status 0) [
            | true ↦ place_name shell (slice_get f.words f.place.turn) f fs s
            | false ↦ GoOn fs (text_failed shell s)
          ]
    ]

abbrev pub for_turn : Shell → Option Text → Text → Script → RunningFrame → List RunningFrame → State → PlaceNext
for_turn shell None name body f fs s = GoOn fs s
for_turn shell (Some value) name body f fs s =
    GoOn (block_frame body ∷ in_turn (suc f.place.turn) 0 f ∷ fs) (begin_turn shell name value s)

abbrev pub for_move : Shell → Option Command → RunningFrame → List RunningFrame → State → PlaceNext
for_move shell (Some (tree.For name words body)) f fs s =
    for_turn shell (slice_get f.words f.place.turn) name body f fs s
for_move shell o f fs s = GoOn fs s

abbrev pub for_begins : List Text → RunningFrame → List RunningFrame → State → PlaceNext
for_begins [] f fs s = GoOn (behind f ∷ fs) (set_status 0 s)
for_begins (v ∷ vs) f fs s = GoOn (values_frame f (v ∷ vs) ∷ behind f ∷ fs) s

-- the turns of a `for`, if they are followed
abbrev pub place_turns : Shell → (name : Text) → List Text → RunningFrame → List RunningFrame → State → PlaceNext
place_turns shell name values f fs s = elim (follows_turns shell name values) [
  | true ↦ for_begins values f fs s
  | false ↦ StopOn (Unsupported name) s
]

-- the arms of an `if` from one on
abbrev pub place_arms : Shell → Arms → ℕ → RunningFrame → List RunningFrame → State → PlaceNext
place_arms shell (tree.Arm c b more) a f fs s = GoOn (block_frame c ∷ in_turn (suc a) 0 f ∷ fs) s
place_arms shell (tree.Else b) a f fs s = GoOn (block_frame b ∷ with_block shell f ∷ fs) s
place_arms shell tree.NoElse a f fs s =
    GoOn (behind f ∷ fs) (set_status (status_of_no_block shell s.memory.status) s)

-- an arm's condition has ended
abbrev pub condition_ends : Shell → Arms → ℕ → RunningFrame → List RunningFrame → State → PlaceNext
condition_ends shell (tree.Arm c b more) a f fs s =
    elim (nat_eq s.memory.status 0) [
      | true ↦ GoOn (block_frame b ∷ with_block shell f ∷ fs) s
      | false ↦ place_arms shell more (suc a) f fs (block_skipped shell b s)
    ]
condition_ends shell (tree.Else b) a f fs s = GoOn (behind f ∷ fs) s
condition_ends shell tree.NoElse a f fs s = GoOn (behind f ∷ fs) s

-- a loop's condition has ended
abbrev pub loop_ends : Shell → (until : Bool) → (body : Script) → RunningFrame → List RunningFrame → State → PlaceNext
loop_ends shell until b f fs s =
    elim (holds until s.memory.status) [
      | true ↦ GoOn (block_frame b ∷ in_turn 2 0 f ∷ fs) s
      | false ↦ GoOn (behind f ∷ fs) (set_status (status_of_loop shell f.place.last s.memory.status) s)
    ]

-- a block of an `if` has ended, or its condition, or a block of a loop; `last` says whether the command is over
abbrev pub if_moves : Shell → (last : ℕ) → Arms → ℕ → RunningFrame → List RunningFrame → State → PlaceNext
if_moves shell zero arms a f fs s = condition_ends shell (drop_arms a arms) a f fs s
if_moves shell (suc last) arms a f fs s = GoOn (behind f ∷ fs) s

abbrev pub loop_moves : (last : ℕ) → (cond : Script) → RunningFrame → List RunningFrame → State → PlaceNext
loop_moves zero c f fs s = GoOn (block_frame c ∷ in_turn 1 s.memory.status f ∷ fs) s
loop_moves (suc last) c f fs s = GoOn (behind f ∷ fs) s

-- a block of a command has ended
abbrev pub phase_move : Shell → Option Command → ℕ → RunningFrame → List RunningFrame → State → PlaceNext
phase_move shell None a f fs s = GoOn (moved_to (place f.place.list f.place.command 0 0) f ∷ fs) s
phase_move shell (Some (tree.If arms)) a f fs s = if_moves shell f.place.last arms a f fs s
phase_move shell (Some (tree.Loop until c b)) zero f fs s = loop_ends shell until b f fs s
phase_move shell (Some (tree.Loop until c b)) (suc a) f fs s = loop_moves f.place.last c f fs s
phase_move shell o a f fs s = GoOn (behind f ∷ fs) s

abbrev pub place_fitting : List Text → (List Text → State → PlaceNext) → State → PlaceNext
place_fitting fs next s = elim (nat_le (size fs) most_bytes) [ true ↦ next fs s | false ↦ StopOn Size s ]

-- a `for` that has begun finds its words
abbrev pub place_words : Shell → (name : Text) → List tree.Word → RunningFrame → List RunningFrame → State → PlaceNext
place_words shell name words f fs s =
    place_fitting (turns_in shell (parameters_in s.memory) words) (λ found. place_turns shell name found f fs) s

abbrev pub place_for : Shell → (name : Text) → List tree.Word → RunningFrame → List RunningFrame → State → PlaceNext
place_for shell name words f fs s = place_words shell name words f fs (for_begun shell s)

module _ (limits : Limits) where
  abbrev pub place_ask : Request → List RunningFrame → State → PlaceNext
  place_ask request ps s =
      elim (nat_lt (length s.log) limits.device_bound) [
        | true ↦ place_tell_or_ask (told request s.log) request ps s
        | false ↦ StopOn CutDevices s
      ]

  -- what a name calls, in a script; `again` says whether the command is read again; the frames go on after the command
  abbrev pub place_called : (again : Bool) → Called → Text → List Text → Script → List RunningFrame → State → PlaceNext
  place_called again (BuiltIn (ChangesVariables change)) name words script ps s = GoOn ps (remember (variables_changed change words) s)
  place_called again (BuiltIn RunsTexts) name [] script ps s = GoOn ps (set_status 1 s)
  place_called again (BuiltIn RunsTexts) name (w ∷ ws) script ps s = GoOn (names_frame script (w ∷ ws) ∷ ps) s
  place_called again (BuiltIn Tests) name words script ps s =
      elim (asks_in limits.shell words) [
        | true ↦ place_ask (test_request limits name words) ps s
        | false ↦ GoOn ps (set_status (status_when (truth_in limits.shell words)) s)
      ]
  place_called again (BuiltIn (WritesText written)) name words script ps s = GoOn ps (remember (text_written written words) s)
  place_called again (BuiltIn Exits) name words script ps s =
      place_exit limits.shell (leaves_in limits.shell again words) (status_of_exit limits.shell words) ps s
  place_called again (Device effect) name words script ps s =
      place_ask (request_of name words (effect_now limits.room s effect)) ps s
  place_called again NoCommand name words script ps s = StopOn (Unknown name) s

  abbrev pub place_simple_call : (again : Bool) → List Text → Script → List RunningFrame → State → PlaceNext
  place_simple_call again [] script ps s = GoOn ps (set_status (status_of_nothing limits.shell s.memory.status) s)
  place_simple_call again (name ∷ ws) script ps s =
      elim (follows limits.shell limits.devices name ws) [
        | true ↦ place_called again (called_by limits.devices name ws) name ws script ps s
        | false ↦ StopOn (Unsupported name) s
      ]

  abbrev pub place_fields : (again : Bool) → List Text → Script → List RunningFrame → State → PlaceNext
  place_fields again found script ps s = place_simple_call again (call_in limits.shell found) script ps s

  abbrev pub place_counted : (State → PlaceNext) → State → PlaceNext
  place_counted next s =
      elim (nat_lt s.steps limits.step_bound) [
        | true ↦ next (record s { steps = suc s.steps })
        | false ↦ StopOn CutSteps s
      ]

  abbrev pub place_command : Command → RunningFrame → List RunningFrame → State → PlaceNext
  place_command (tree.Simple words) f fs s =
      place_counted (λ t.
      place_fitting (fields_in limits.shell (parameters_in t.memory) words)
      (λ found. place_fields (reads_again words) found f.script (behind f ∷ fs)) t) s
  place_command (tree.Assign pairs) f fs s = place_counted (place_assign limits.shell pairs (behind f ∷ fs)) s
  place_command (tree.If arms) f fs s = place_arms limits.shell arms 0 f fs s
  place_command (tree.Loop until c b) f fs s = GoOn (block_frame c ∷ in_turn 1 0 f ∷ fs) s
  place_command (tree.For name words body) f fs s =
      place_counted (place_for limits.shell name words f fs) s

  -- a command that is skipped: the next one follows, or the next list
  abbrev pub place_skipped : RunningFrame → List RunningFrame → State → PlaceNext
  place_skipped f fs s =
      elim (skips_rest limits.shell) [
        | true ↦ GoOn (moved_to (place (suc f.place.list) 0 0 0) f ∷ fs) s
        | false ↦ GoOn (behind f ∷ fs) s
      ]

  -- a command after `&&` or `||`, or the end of the list
  abbrev pub place_joined : Option (Op × Command) → RunningFrame → List RunningFrame → State → PlaceNext
  place_joined None f fs s = GoOn (moved_to (place (suc f.place.list) 0 0 0) f ∷ fs) s
  place_joined (Some pair) f fs s =
      elim (goes pair.0 s.memory.status) [ true ↦ place_command pair.1 f fs s | false ↦ place_skipped f fs s ]

  abbrev pub place_begins : AndOr → ℕ → RunningFrame → List RunningFrame → State → PlaceNext
  place_begins (tree.Starts c joins) zero f fs s = place_command c f fs s
  place_begins (tree.Starts c joins) (suc j) f fs s = place_joined (joined_at joins j) f fs s

  abbrev pub place_turn : AndOr → ℕ → RunningFrame → List RunningFrame → State → PlaceNext
  place_turn list zero f fs s = place_begins list f.place.command f fs s
  place_turn list (suc a) f fs s = phase_move limits.shell (command_in list f.place.command) a f fs s

  abbrev pub place_list : Option AndOr → RunningFrame → List RunningFrame → State → PlaceNext
  place_list None f fs s = GoOn fs s
  place_list (Some list) f fs s = place_turn list f.place.turn f fs s

  -- the text of the first of these files with the status from before, or the question whether it is this one
  abbrev pub place_one : (file : ℕ) → (names : List Text) → RunningFrame → List RunningFrame → State → PlaceNext
  place_one file [] f fs s = GoOn fs s
  place_one file (name ∷ []) f fs s =
      place_sourced limits.shell (file_in limits.devices name) name (at_file file 0 f) fs (set_status f.place.last s)
  place_one file (name ∷ other ∷ others) f fs s =
      place_question limits.shell (started_in limits.shell (choice_text name)) name (at_file file 2 f) fs s

  -- after a success the text of one of the files begins
  abbrev pub file_begins : (names : List Text) → RunningFrame → List RunningFrame → State → PlaceNext
  file_begins names f fs s =
      elim (nat_eq s.memory.status 0) [ true ↦ place_one f.place.command names f fs s | false ↦ GoOn fs s ]

  -- it was asked whether it is the first of these files
  abbrev pub file_asked : (names : List Text) → RunningFrame → List RunningFrame → State → PlaceNext
  file_asked [] f fs s = GoOn fs s
  file_asked (name ∷ []) f fs s = GoOn fs s
  file_asked (name ∷ other ∷ others) f fs s =
      elim (nat_eq s.memory.status 0) [
        | true ↦ place_one f.place.command (name ∷ []) f fs s
        | false ↦ place_one (suc f.place.command) (other ∷ others) f fs s
      ]

  -- it has ended, and so has the command that handed over
  abbrev pub file_ends : List RunningFrame → State → PlaceNext
  file_ends fs s = elim (nat_eq s.memory.status 0) [ true ↦ GoOn fs s | false ↦ GoOn fs (text_failed limits.shell s) ]

  abbrev pub file_move : RunningFrame → List RunningFrame → State → PlaceNext
  file_move f fs s =
      elim (nat_eq f.place.turn 0) [
        | true ↦ file_begins (drop f.place.command f.words) f fs s
        | false ↦ elim (nat_eq f.place.turn 1) [ true ↦ file_ends fs s | false ↦ file_asked (drop f.place.command f.words) f fs s ]
      ]

  abbrev pub place_by : FrameKind → RunningFrame → List RunningFrame → State → PlaceNext
  place_by kinds.Text f fs s = place_list (list_at f.script f.place.list) f fs s
  place_by kinds.Block f fs s = place_list (list_at f.script f.place.list) f fs s
  place_by kinds.For f fs s = for_move limits.shell (command_at (list_at f.script f.place.list) f.place.command) f fs s
  place_by kinds.Run f fs s = run_move limits.shell f fs s
  place_by kinds.File f fs s = file_move f fs s

  -- one move, at places
  abbrev pub place_move : List RunningFrame → State → PlaceNext
  place_move [] s = StopOn (End s.memory.status) s
  place_move (f ∷ fs) s = place_by f.kind f fs s
