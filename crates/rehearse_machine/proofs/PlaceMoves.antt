-- A move at places is the move of the frames that the places describe.
use Rattle.std.proofs.Common.{ℕ, zero, suc, Bool, true, false, List, [], ◌∷◌, ◌++◌, length, drop, Option, Some, None, refl, sym, ap, ◌∙◌, ◌≡◌, ◌<◌, arith, nat_lt, nat_le, nat_eq}
use Rattle.std.specs.Prelude.{slice_get}
use Rattle.std.proofs.Math.Dec.{eqb-suc-zero, eqb-suc-suc}
use Rattle.device_list.specs.declared.finish.BoardEnd.{BoardEnd}
use Rattle.hushlang.specs.Tree as tree
use Rattle.hushlang.specs.Tree.{Script, AndOr, Joined, Command, Arms}
use Rattle.hushlang.specs.Expansion.{size, most_bytes}
use Rattle.hushlang.specs.declared.tree.Op.{Op}
use Rattle.bootstore_state.specs.declared.frame.At.{At}
use Rattle.bootstore_state.specs.declared.frame.FrameKind.{FrameKind}
use Rattle.bootstore_state.specs.declared.frame.FrameKind.TheVariants as kinds
use Rattle.bootstore_state.specs.Moment.{RunningFrame}
use Rattle.bootstore_state.specs.Record.{without_first}
use Rattle.rehearse_terms.specs.Outcomes.{Outcome, Success, Failure}
use Rattle.hushlang_shells.specs.TreesByShell.{TextRead, Runs, Fails, Panics, Unread, started_in, sourced_in}
use Rattle.rehearse_terms.specs.State.{Text, get, State}
use Rattle.rehearse_rules.specs.Parameters.{parameters_in}
use Rattle.device_list.specs.DeviceList.{file_in}
use Rattle.device_list.specs.Called.{Called, BuiltIn, NoCommand, Device, called_by, sets_in}
use Rattle.commands.specs.BuiltInCommands.{ChangesVariables, WritesText, RunsTexts, Tests, Exits}
use Rattle.rehearse_rules.specs.Needs.{effect_now}
use Rattle.rehearse_rules.specs.Execution.{choice_text, begin_turn, Limits, End, CutDevices, CutSteps, Size, set_status, status_when, goes, holds, Request, outcome_when, told, told_again, logged, set_environment, Unsupported, assign_local, request_of, test_request, text_failed, for_begun, block_skipped}
use Rattle.rehearse_machine.specs.Frames.{ChosenFile, begin_one, begin_question, Frame, Lists, Linked, IfCondition, LoopCondition, LoopBody, ForBody, Next, Go, Stop, leave, finish_next, answered, tell_or_ask, begin_assign, begin_for, begin_arms, begun_text, begin_read, begin_text, begin_names, begin_exit, fitting, ask, begin_called, begin_fields, counted, begin_command, move, leave_run, begin_turns, begin_words, CommandEnd, leave_compound, behind_block, begin_simple_call, with_file, FileText, leave_file, begin_sourced, begin_file}
use Rattle.rehearse_machine.specs.Places.{asked_part, at_file, place_question, place_one, file_asked, list_at, drop_lists, joined_at, drop_joined, second, command_in, command_at, drop_arms, place, from_command, condition_frame, phase, from_turn, script_frames, for_frame, run_frame, frames_by, frames_of, PlaceNext, GoOn, StopOn, next_of, moved_to, behind, in_turn, text_frame, block_frame, left, place_exit, place_finish, place_answered, place_tell_or_ask, place_assign, place_read, place_text, place_name, run_move, for_turn, for_move, for_begins, place_arms, condition_ends, phase_move, place_fitting, place_ask, place_called, place_fields, place_counted, place_command, place_joined, place_skipped, place_begins, place_turn, place_list, place_by, place_move, place_skipped, place_turns, place_words, place_for, past_lists, over, command_over, with_block, left_compound, left_script, left_by, if_moves, loop_moves, place_simple_call, file_part, above_file, left_file, file_left, place_sourced, file_begins, file_ends, file_move}
use Rattle.rehearse_machine.proofs.Beginnings.{chosen, passed}
use Rattle.rehearse_terms.specs.declared.shell.Shell.{Shell}
use Rattle.rehearse_terms.specs.declared.shell.Shell.TheVariants.{Profile, Old2023, Old2025, Modern2025}
use Rattle.rehearse_rules.specs.ByShell.{reads_again, leaves_in, status_of_exit, asks_in, truth_in, fields_in, turns_in, skips_rest, status_of_no_block, status_of_loop, follows, assigned_in, follows_turns, call_in}

-- ---- parts by their numbers

drop_some : (script : Script) (i : ℕ) (l : AndOr) → list_at script i ≡ Some l → drop_lists i script ≡ tree.Runs l (drop_lists (suc i) script)
drop_some tree.Empty i l e = absurd (let f = e in cc)
drop_some (tree.Runs x ls) zero l e = let f : x ≡ l = (let g = e in cc) in ap (λ (y : AndOr). tree.Runs y ls) f
drop_some (tree.Runs x ls) (suc i) l e = drop_some ls i l e

drop_none : (script : Script) (i : ℕ) → list_at script i ≡ None → drop_lists i script ≡ tree.Empty
drop_none tree.Empty zero e = refl
drop_none tree.Empty (suc i) e = refl
drop_none (tree.Runs x ls) zero e = absurd (let f = e in cc)
drop_none (tree.Runs x ls) (suc i) e = drop_none ls i e

joined_some : (joins : Joined) (j : ℕ) (p : Op × Command) → joined_at joins j ≡ Some p → drop_joined j joins ≡ tree.Joins p.0 p.1 (drop_joined (suc j) joins)
joined_some tree.Alone j p e = absurd (let f = e in cc)
joined_some (tree.Joins o d rest) zero p e = let f : (o, d) ≡ p = (let g = e in cc) in ap (λ (x : Op × Command). tree.Joins x.0 x.1 rest) f
joined_some (tree.Joins o d rest) (suc j) p e = joined_some rest j p e

joined_none : (joins : Joined) (j : ℕ) → joined_at joins j ≡ None → drop_joined j joins ≡ tree.Alone
joined_none tree.Alone zero e = refl
joined_none tree.Alone (suc j) e = refl
joined_none (tree.Joins o d rest) zero e = absurd (let f = e in cc)
joined_none (tree.Joins o d rest) (suc j) e = joined_none rest j e

drop_more : (all : Arms) (a : ℕ) (c b : Script) (more : Arms) → drop_arms a all ≡ tree.Arm c b more → drop_arms (suc a) all ≡ more
drop_more (tree.Arm x y arms) zero c b more e = (let g = e in cc)
drop_more (tree.Arm x y arms) (suc a) c b more e = drop_more arms a c b more e
drop_more (tree.Else x) zero c b more e = absurd (let f = e in cc)
drop_more (tree.Else x) (suc a) c b more e = absurd (let f = e in cc)
drop_more tree.NoElse zero c b more e = absurd (let f = e in cc)
drop_more tree.NoElse (suc a) c b more e = absurd (let f = e in cc)

text_some : (names : List Text) (k : ℕ) (name : Text) → slice_get names k ≡ Some name → drop k names ≡ name ∷ drop (suc k) names
text_some [] k name e = absurd (let f = e in cc)
text_some (n ∷ names) zero name e = let f : n ≡ name = (let g = e in cc) in ap (λ (x : Text). x ∷ names) f
text_some (n ∷ names) (suc k) name e = text_some names k name e

text_none : (names : List Text) (k : ℕ) → slice_get names k ≡ None → drop k names ≡ []
text_none [] zero e = refl
text_none [] (suc k) e = refl
text_none (n ∷ names) zero e = absurd (let f = e in cc)
text_none (n ∷ names) (suc k) e = text_none names k e

-- ---- a script from its start, and one that ends

start-is : (c : Script) → frames_by kinds.Block (block_frame c) ≡ Lists c ∷ []
start-is tree.Empty = refl
start-is (tree.Runs l ls) = refl

text-start-is : (c : Script) → frames_by kinds.Text (text_frame c) ≡ Lists c ∷ []
text-start-is tree.Empty = refl
text-start-is (tree.Runs l ls) = refl

blocked : (c : Script) (fs : List RunningFrame) → frames_of (block_frame c ∷ fs) ≡ Lists c ∷ frames_of fs
blocked c fs = ap (λ (x : List Frame). x ++ frames_of fs) (start-is c)

texted : (c : Script) (fs : List RunningFrame) → frames_of (text_frame c ∷ fs) ≡ Lists c ∷ frames_of fs
texted c fs = ap (λ (x : List Frame). x ++ frames_of fs) (text-start-is c)

-- a list from its first command, if the script goes on with `rest`
from_start : (o : Option AndOr) (script : Script) (i : ℕ) → list_at script i ≡ o → script_frames o (place i 0 0 0) (drop_lists (suc i) script) ≡ Lists (drop_lists i script) ∷ []
from_start None script i e = ap (λ (x : Script). Lists x ∷ []) (sym (drop_none script i e))
from_start (Some l) script i e = ap (λ (x : Script). Lists x ∷ []) (sym (drop_some script i l e))

if_next : (b : Bool) (x y : PlaceNext) (u v : Next) → next_of x ≡ u → next_of y ≡ v → next_of (elim b [ true ↦ x | false ↦ y ]) ≡ elim b [ true ↦ u | false ↦ v ]
if_next true x y u v e f = e
if_next false x y u v e f = f

-- ---- `exit`

-- a command that is over
phase_over : (o : Option Command) → phase o 1 1 ≡ CommandEnd
phase_over None = refl
phase_over (Some (tree.Simple words)) = refl
phase_over (Some (tree.Assign pairs)) = refl
phase_over (Some (tree.If arms)) = refl
phase_over (Some (tree.Loop until c b)) = refl
phase_over (Some (tree.For name words body)) = refl

module _ (shell : Shell) where
  -- what `exit` does in a compound command with these frames below it
  abbrev out_of : List Frame → State → Next
  out_of rs s = leave_compound shell (CommandEnd ∷ rs) (leave shell rs s) s

  leave_phase : (o : Option Command) (a last : ℕ) (rs : List Frame) (s : State) → leave shell (phase o a last ∷ rs) s ≡ out_of rs s
  leave_phase None a last rs s = refl
  leave_phase (Some (tree.Simple words)) a last rs s = refl
  leave_phase (Some (tree.Assign pairs)) a last rs s = refl
  leave_phase (Some (tree.If arms)) a zero rs s = by (drop_arms a arms)
    where
      by : (arms : Arms) → leave shell (condition_frame arms ∷ rs) s ≡ out_of rs s
      by (tree.Arm c b more) = refl
      by (tree.Else b) = refl
      by tree.NoElse = refl
  leave_phase (Some (tree.If arms)) a (suc last) rs s = refl
  leave_phase (Some (tree.Loop until c b)) zero last rs s = refl
  leave_phase (Some (tree.Loop until c b)) (suc a) zero rs s = refl
  leave_phase (Some (tree.Loop until c b)) (suc a) (suc last) rs s = refl
  leave_phase (Some (tree.For name words body)) a last rs s = refl

  leave_command : (list : AndOr) (j : ℕ) (rest : Script) (rs : List Frame) (s : State) → leave shell (from_command list j rest ++ rs) s ≡ leave shell rs s
  leave_command list zero rest rs s = refl
  leave_command (tree.Starts c joins) (suc j) rest rs s = refl

  -- in no command of a script
  leave_first : (o : Option AndOr) (at : At) (rest : Script) (rs : List Frame) (s : State) → at.turn ≡ 0 → leave shell (script_frames o at rest ++ rs) s ≡ leave shell rs s
  leave_first None at rest rs s e = ap (λ (n : ℕ). leave shell (past_lists n ++ rs) s) e
  leave_first (Some list) at rest rs s e = ap (λ (n : ℕ). leave shell (from_turn list at n rest ++ rs) s) e ∙ leave_command list at.command rest rs s

  -- in a command of a script
  leave_within : (o : Option AndOr) (at : At) (a : ℕ) (rest : Script) (rs : List Frame) (s : State) → at.turn ≡ suc a
      → leave shell (script_frames o at rest ++ rs) s ≡ leave_compound shell (script_frames o (over at) rest ++ rs) (leave shell rs s) s
  leave_within None at a rest rs s e = ap (λ (n : ℕ). leave shell (past_lists n ++ rs) s) e
  leave_within (Some list) at a rest rs s e =
      let below : List Frame = from_command list (suc at.command) rest ++ rs in
      ap (λ (n : ℕ). leave shell (from_turn list at n rest ++ rs) s) e
      ∙ leave_phase (command_in list at.command) a at.last below s
      ∙ ap (λ (x : Next). leave_compound shell (CommandEnd ∷ below) x s) (leave_command list (suc at.command) rest rs s)
      ∙ ap (λ (x : Frame). leave_compound shell (x ∷ below) (leave shell rs s) s) (sym (phase_over (command_in list at.command)))

  leave_for : (o : Option Command) (turn : ℕ) (values : List Text) (rs : List Frame) (s : State) → leave shell (for_frame o turn values ∷ rs) s ≡ leave_compound shell rs (leave shell rs s) s
  leave_for None turn values rs s = refl
  leave_for (Some (tree.Simple words)) turn values rs s = refl
  leave_for (Some (tree.Assign pairs)) turn values rs s = refl
  leave_for (Some (tree.If arms)) turn values rs s = refl
  leave_for (Some (tree.Loop until c b)) turn values rs s = refl
  leave_for (Some (tree.For name words body)) turn values rs s = refl

  leave_names : (turn : ℕ) (names : List Text) (rs : List Frame) (s : State) → leave shell (run_frame turn names ∷ rs) s ≡ leave_run (run_frame turn names) rs s
  leave_names zero names rs s = refl
  leave_names (suc k) names rs s = refl

-- a file whose text has not begun
leave_waiting : (shell : Shell) (last : ℕ) (names : List Text) (rs : List Frame) (s : State) → leave shell (file_part zero last names ∷ rs) s ≡ leave shell rs s
leave_waiting shell last [] rs s = refl
leave_waiting shell last (name ∷ more) rs s = refl

-- and one of which it is asked whether it is the one
leave_asked : (shell : Shell) (last : ℕ) (names : List Text) (rs : List Frame) (s : State) → leave shell (asked_part last names ∷ rs) s ≡ leave shell rs s
leave_asked shell last [] rs s = refl
leave_asked shell last (name ∷ []) rs s = refl
leave_asked shell last (name ∷ other ∷ others) rs s = refl

left_compound-is : (shell : Shell) (ps : List RunningFrame) (outwards : PlaceNext) (s : State) → next_of (left_compound shell ps outwards s) ≡ leave_compound shell (frames_of ps) (next_of outwards) s
left_compound-is Profile ps outwards s = refl
left_compound-is Old2023 ps outwards s = refl
left_compound-is Old2025 ps outwards s = refl
left_compound-is Modern2025 ps outwards s = refl

file_left-is : (shell : Shell) (ps : List RunningFrame) (s : State) → next_of (file_left shell ps s) ≡ leave_file shell (frames_of ps) s
file_left-is Profile ps s = refl
file_left-is Old2023 ps s = refl
file_left-is Old2025 ps s = refl
file_left-is Modern2025 ps s = refl

module _ (shell : Shell) where
  module _ (f : RunningFrame) (fs : List RunningFrame) (s : State) (h : next_of (left shell fs s) ≡ leave shell (frames_of fs) s) where
    abbrev after_list : Script
    after_list = drop_lists (suc f.place.list) f.script

    left_script-is : (turn : ℕ) → f.place.turn ≡ turn → ((at : At) → frames_by f.kind (moved_to at f) ≡ script_frames (list_at f.script at.list) at (drop_lists (suc at.list) f.script))
        → next_of (left_script shell turn f fs (left shell fs s) s) ≡ leave shell (script_frames (list_at f.script f.place.list) f.place after_list ++ frames_of fs) s
    left_script-is zero e scripted = h ∙ sym (leave_first shell (list_at f.script f.place.list) f.place after_list (frames_of fs) s e)
    left_script-is (suc a) e scripted =
        left_compound-is shell (command_over f ∷ fs) (left shell fs s) s
        ∙ ap (λ (x : Next). leave_compound shell (frames_of (command_over f ∷ fs)) x s) h
        ∙ ap (λ (x : List Frame). leave_compound shell (x ++ frames_of fs) (leave shell (frames_of fs) s) s) (scripted (over f.place))
        ∙ sym (leave_within shell (list_at f.script f.place.list) f.place a after_list (frames_of fs) s e)

    left_file-is : (turn : ℕ) → next_of (left_file shell turn fs (left shell fs s) s) ≡ leave shell (file_part turn f.place.last (drop f.place.command f.words) ∷ frames_of fs) s
    left_file-is zero = h ∙ sym (leave_waiting shell f.place.last (drop f.place.command f.words) (frames_of fs) s)
    left_file-is (suc zero) = file_left-is shell fs s
    left_file-is (suc (suc k)) = h ∙ sym (leave_asked shell f.place.last (drop f.place.command f.words) (frames_of fs) s)

    left_by-is : (k : FrameKind) → f.kind ≡ k → next_of (left_by shell k f fs (left shell fs s) s) ≡ leave shell (frames_by k f ++ frames_of fs) s
    left_by-is kinds.Text e = left_script-is f.place.turn refl (λ at. ap (λ (x : FrameKind). frames_by x (moved_to at f)) e)
    left_by-is kinds.Block e = left_script-is f.place.turn refl (λ at. ap (λ (x : FrameKind). frames_by x (moved_to at f)) e)
    left_by-is kinds.For e =
        left_compound-is shell fs (left shell fs s) s ∙ ap (λ (x : Next). leave_compound shell (frames_of fs) x s) h
        ∙ sym (leave_for shell (command_at (list_at f.script f.place.list) f.place.command) f.place.turn f.words (frames_of fs) s)
    left_by-is kinds.Run e =
        if_next (nat_eq s.memory.status 0) (GoOn (f ∷ fs) s) (GoOn fs s) (Go (run_frame f.place.turn f.words ∷ frames_of fs) s) (Go (frames_of fs) s) (ap (λ (x : FrameKind). Go (frames_by x f ++ frames_of fs) s) e) refl
        ∙ sym (leave_names shell f.place.turn f.words (frames_of fs) s)
    left_by-is kinds.File e = left_file-is f.place.turn

  leave-is : (fs : List RunningFrame) (s : State) → next_of (left shell fs s) ≡ leave shell (frames_of fs) s
  leave-is [] s = refl
  leave-is (f ∷ fs) s = left_by-is f fs s (leave-is fs s) f.kind refl

  exit-is : (o : Option ℕ) (other : ℕ) (ps : List RunningFrame) (s : State) → next_of (place_exit shell o other ps s) ≡ begin_exit shell o other (frames_of ps) s
  exit-is (Some status) other ps s = leave-is ps (set_status status s)
  exit-is None other ps s = refl

-- ---- frames of a `run` and of a `for`

module _ (limits : Limits) (f : RunningFrame) (fs : List RunningFrame) (s : State) (k : f.kind ≡ kinds.Run) where
  ran : (turn last : ℕ) → frames_of (in_turn turn last f ∷ fs) ≡ run_frame turn f.words ∷ frames_of fs
  ran turn last = ap (λ (x : FrameKind). frames_by x (in_turn turn last f) ++ frames_of fs) k

  read-is : (found : TextRead) (name : Text) → next_of (place_read limits.shell found name f fs s) ≡ begin_read limits.shell found name (drop (suc f.place.turn) f.words) (frames_of fs) s
  read-is Fails name = refl
  read-is Panics name = refl
  read-is Unread name = refl
  read-is (Runs t) name = ap (λ (x : List Frame). Go x (begun_text t s)) (texted t (in_turn (suc f.place.turn) 0 f ∷ fs) ∙ ap (λ (x : List Frame). Lists t ∷ x) (ran (suc f.place.turn) 0))

  text-is : (o : Option Text) (name : Text) → next_of (place_text limits.shell o name f fs s) ≡ begin_text limits.shell o name (drop (suc f.place.turn) f.words) (frames_of fs) s
  text-is None name = refl
  text-is (Some text) name = read-is (started_in limits.shell text) name

  name-is : (o : Option Text) → slice_get f.words f.place.turn ≡ o → next_of (place_name limits.shell o f fs s) ≡ begin_names limits.shell (drop f.place.turn f.words) (frames_of fs) s
  name-is None e = ap (λ (x : List Text). begin_names limits.shell x (frames_of fs) s) (sym (text_none f.words f.place.turn e))
  name-is (Some name) e = text-is (get s.memory.environment name) name ∙ ap (λ (x : List Text). begin_names limits.shell x (frames_of fs) s) (sym (text_some f.words f.place.turn name e))

  abbrev named : PlaceNext
  named = place_name limits.shell (slice_get f.words f.place.turn) f fs s

  abbrev ended : PlaceNext
  ended = elim (nat_eq s.memory.status 0) [ true ↦ named | false ↦ GoOn fs (text_failed limits.shell s) ]

  run-turn-is : (turn : ℕ) → f.place.turn ≡ turn → next_of (run_move limits.shell f fs s) ≡ move limits (run_frame turn f.words ∷ frames_of fs) s
  run-turn-is zero e = ap next_of (sym (chosen (nat_eq f.place.turn 0) named ended (ap (λ (x : ℕ). nat_eq x 0) e))) ∙ (name-is (slice_get f.words f.place.turn) refl ∙ ap (λ (x : ℕ). begin_names limits.shell (drop x f.words) (frames_of fs) s) e)
  run-turn-is (suc j) e =
      ap next_of (sym (passed (nat_eq f.place.turn 0) named ended (ap (λ (x : ℕ). nat_eq x 0) e ∙ eqb-suc-zero j)))
      ∙ if_next (nat_eq s.memory.status 0) named (GoOn fs (text_failed limits.shell s)) (begin_names limits.shell (drop (suc j) f.words) (frames_of fs) s) (Go (frames_of fs) (text_failed limits.shell s))
      (name-is (slice_get f.words f.place.turn) refl ∙ ap (λ (x : ℕ). begin_names limits.shell (drop x f.words) (frames_of fs) s) e) refl

-- ---- the frame of a file

dropped : (names : List Text) (n : ℕ) (name : Text) (others : List Text) → drop n names ≡ name ∷ others → drop (suc n) names ≡ others
dropped [] zero name others e = absurd (let f = e in cc)
dropped [] (suc n) name others e = absurd (let f = e in cc)
dropped (x ∷ names) zero name others e = ap (drop 1) e
dropped (x ∷ names) (suc n) name others e = dropped names n name others e

module _ (limits : Limits) (f : RunningFrame) (fs : List RunningFrame) (s : State) (k : f.kind ≡ kinds.File) where
  -- the text of one of its files begins, in a state with the status from before
  module _ (file : ℕ) (u : State) where
    abbrev here : RunningFrame
    here = at_file file 0 f

    file_ran : frames_of (in_turn 1 0 here ∷ fs) ≡ FileText ∷ frames_of fs
    file_ran = ap (λ (x : FrameKind). frames_by x (in_turn 1 0 here) ++ frames_of fs) k

    file_read-is : (found : TextRead) (name : Text) → next_of (place_read limits.shell found name here fs u) ≡ begin_sourced limits.shell found name (frames_of fs) u
    file_read-is Fails name = refl
    file_read-is Panics name = refl
    file_read-is Unread name = refl
    file_read-is (Runs t) name = ap (λ (x : List Frame). Go x (begun_text t u)) (texted t (in_turn 1 0 here ∷ fs) ∙ ap (λ (x : List Frame). Lists t ∷ x) file_ran)

    file_text-is : (o : Option Text) (name : Text) → next_of (place_sourced limits.shell o name here fs u) ≡ begin_file limits.shell o name (frames_of fs) u
    file_text-is None name = refl
    file_text-is (Some text) name = file_read-is (sourced_in limits.shell text) name

  -- it is asked whether it is this one
  question-is : (found : TextRead) (file : ℕ) (name other : Text) (others : List Text) → drop file f.words ≡ name ∷ other ∷ others → next_of (place_question limits.shell found name (at_file file 2 f) fs s) ≡ begin_question limits.shell found name (ChosenFile name other others f.place.last) (frames_of fs) s
  question-is found file name other others e = by found
    where
      asked : frames_of (at_file file 2 f ∷ fs) ≡ ChosenFile name other others f.place.last ∷ frames_of fs
      asked = ap (λ (x : FrameKind). frames_by x (at_file file 2 f) ++ frames_of fs) k ∙ ap (λ (x : List Text). asked_part f.place.last x ∷ frames_of fs) e

      by : (found : TextRead) → next_of (place_question limits.shell found name (at_file file 2 f) fs s) ≡ begin_question limits.shell found name (ChosenFile name other others f.place.last) (frames_of fs) s
      by (Runs t) = ap (λ (x : List Frame). Go x (begun_text t s)) (texted t (at_file file 2 f ∷ fs) ∙ ap (λ (x : List Frame). Lists t ∷ x) asked)
      by Fails = ap (λ (x : List Frame). Go x (set_status 1 s)) asked
      by Panics = refl
      by Unread = refl

  alone-is : (file : ℕ) (name : Text) → next_of (place_one limits file (name ∷ []) f fs s) ≡ begin_one limits name [] f.place.last (frames_of fs) s
  alone-is file name = file_text-is file (set_status f.place.last s) (file_in limits.devices name) name

  one-is : (file : ℕ) (name : Text) (others : List Text) → drop file f.words ≡ name ∷ others → next_of (place_one limits file (name ∷ others) f fs s) ≡ begin_one limits name others f.place.last (frames_of fs) s
  one-is file name [] e = alone-is file name
  one-is file name (other ∷ others) e = question-is (started_in limits.shell (choice_text name)) file name other others e

  -- it waits for a success
  file_waits-is : (names : List Text) → drop f.place.command f.words ≡ names → next_of (file_begins limits names f fs s) ≡ move limits (file_part zero f.place.last names ∷ frames_of fs) s
  file_waits-is [] e = by (nat_eq s.memory.status 0)
    where
      by : (b : Bool) → next_of (elim b [ true ↦ GoOn fs s | false ↦ GoOn fs s ]) ≡ Go (frames_of fs) s
      by true = refl
      by false = refl
  file_waits-is (name ∷ others) e =
      if_next (nat_eq s.memory.status 0) (place_one limits f.place.command (name ∷ others) f fs s) (GoOn fs s) (begin_one limits name others f.place.last (frames_of fs) s) (Go (frames_of fs) s) (one-is f.place.command name others e) refl

  -- or for the answer
  file_asked-is : (names : List Text) → drop f.place.command f.words ≡ names → next_of (file_asked limits names f fs s) ≡ move limits (asked_part f.place.last names ∷ frames_of fs) s
  file_asked-is [] e = refl
  file_asked-is (name ∷ []) e = refl
  file_asked-is (name ∷ other ∷ others) e =
      if_next (nat_eq s.memory.status 0) (place_one limits f.place.command (name ∷ []) f fs s) (place_one limits (suc f.place.command) (other ∷ others) f fs s) (begin_one limits name [] f.place.last (frames_of fs) s) (begin_one limits other others f.place.last (frames_of fs) s)
      (alone-is f.place.command name) (one-is (suc f.place.command) other others (dropped f.words f.place.command name (other ∷ others) e))

  abbrev names_left : List Text
  names_left = drop f.place.command f.words

  abbrev waits : PlaceNext
  waits = file_begins limits names_left f fs s

  abbrev asked : PlaceNext
  asked = file_asked limits names_left f fs s

  abbrev later : PlaceNext
  later = elim (nat_eq f.place.turn 1) [ true ↦ file_ends limits fs s | false ↦ asked ]

  file_turn-is : (turn : ℕ) → f.place.turn ≡ turn → next_of (file_move limits f fs s) ≡ move limits (file_part turn f.place.last names_left ∷ frames_of fs) s
  file_turn-is zero e = ap next_of (sym (chosen (nat_eq f.place.turn 0) waits later (ap (λ (x : ℕ). nat_eq x 0) e))) ∙ file_waits-is names_left refl
  file_turn-is (suc zero) e =
      ap next_of (sym (passed (nat_eq f.place.turn 0) waits later (ap (λ (x : ℕ). nat_eq x 0) e ∙ eqb-suc-zero 0)))
      ∙ ap next_of (sym (chosen (nat_eq f.place.turn 1) (file_ends limits fs s) asked (ap (λ (x : ℕ). nat_eq x 1) e)))
      ∙ if_next (nat_eq s.memory.status 0) (GoOn fs s) (GoOn fs (text_failed limits.shell s)) (Go (frames_of fs) s) (Go (frames_of fs) (text_failed limits.shell s)) refl refl
  file_turn-is (suc (suc j)) e =
      ap next_of (sym (passed (nat_eq f.place.turn 0) waits later (ap (λ (x : ℕ). nat_eq x 0) e ∙ eqb-suc-zero (suc j))))
      ∙ ap next_of (sym (passed (nat_eq f.place.turn 1) (file_ends limits fs s) asked (ap (λ (x : ℕ). nat_eq x 1) e ∙ (eqb-suc-suc (suc j) 0 ∙ eqb-suc-zero j))))
      ∙ file_asked-is names_left refl

module _ (f : RunningFrame) (fs : List RunningFrame) (s : State) (k : f.kind ≡ kinds.For) where
  abbrev looped : ℕ → ℕ → RunningFrame
  looped turn last = in_turn turn last f

  went : (o : Option Command) → command_at (list_at f.script f.place.list) f.place.command ≡ o → (turn last : ℕ) → frames_of (in_turn turn last f ∷ fs) ≡ for_frame o turn f.words ∷ frames_of fs
  went o e turn last = ap (λ (x : FrameKind). frames_by x (in_turn turn last f) ++ frames_of fs) k ∙ ap (λ (x : Option Command). for_frame x turn f.words ∷ frames_of fs) e

  for-turn-is : (limits : Limits) (name : Text) (words : List tree.Word) (body : Script) (o : Option Text) → command_at (list_at f.script f.place.list) f.place.command ≡ Some (tree.For name words body) → slice_get f.words f.place.turn ≡ o → next_of (for_turn limits.shell o name body f fs s) ≡ move limits (ForBody name (drop f.place.turn f.words) body ∷ frames_of fs) s
  for-turn-is limits name words body None c e = ap (λ (x : List Text). move limits (ForBody name x body ∷ frames_of fs) s) (sym (text_none f.words f.place.turn e))
  for-turn-is limits name words body (Some value) c e =
      ap (λ (x : List Frame). Go x (begin_turn limits.shell name value s)) (blocked body (in_turn (suc f.place.turn) 0 f ∷ fs) ∙ ap (λ (x : List Frame). Lists body ∷ x) (went (Some (tree.For name words body)) c (suc f.place.turn) 0))
      ∙ ap (λ (x : List Text). move limits (ForBody name x body ∷ frames_of fs) s) (sym (text_some f.words f.place.turn value e))

  for-is : (limits : Limits) (o : Option Command) → command_at (list_at f.script f.place.list) f.place.command ≡ o → next_of (for_move limits.shell o f fs s) ≡ move limits (for_frame o f.place.turn f.words ∷ frames_of fs) s
  for-is limits None e = refl
  for-is limits (Some (tree.Simple words)) e = refl
  for-is limits (Some (tree.Assign pairs)) e = refl
  for-is limits (Some (tree.If arms)) e = refl
  for-is limits (Some (tree.Loop until c b)) e = refl
  for-is limits (Some (tree.For name words body)) e = for-turn-is limits name words body (slice_get f.words f.place.turn) e refl

-- ---- commands; `below` is what the frame of their script describes after them

assign-is : (shell : Shell) (pairs : List (Text × tree.Word)) (ps : List RunningFrame) (s : State) → next_of (place_assign shell pairs ps s) ≡ begin_assign shell pairs (frames_of ps) s
assign-is shell [] ps s = refl
assign-is shell (pair ∷ pairs) ps s =
    let value : Text = assigned_in shell (parameters_in s.memory) pair.1 in
    if_next (nat_le (length value) most_bytes) (place_assign shell pairs ps (assign_local shell pair.0 value s)) (StopOn Size s) (begin_assign shell pairs (frames_of ps) (assign_local shell pair.0 value s)) (Stop Size s) (assign-is shell pairs ps (assign_local shell pair.0 value s)) refl

fitting-is : (ws : List Text) (n : List Text → State → PlaceNext) (m : List Text → State → Next) (s : State) → next_of (n ws s) ≡ m ws s → next_of (place_fitting ws n s) ≡ fitting ws m s
fitting-is ws n m s e = if_next (nat_le (size ws) most_bytes) (n ws s) (StopOn Size s) (m ws s) (Stop Size s) e refl

-- after the last command there is nothing more
past_joined : (joins : Joined) (j : ℕ) → joined_at joins j ≡ None → drop_joined j joins ≡ drop_joined (suc j) joins
past_joined tree.Alone zero e = refl
past_joined tree.Alone (suc j) e = refl
past_joined (tree.Joins op c joins) zero e = absurd (let k = e in cc)
past_joined (tree.Joins op c joins) (suc j) e = past_joined joins j e

no_second : (o : Option (Op × Command)) → second o ≡ None → o ≡ None
no_second None e = refl
no_second (Some pair) e = absurd (let k = e in cc)

past_command : (list : AndOr) (n : ℕ) (rest : Script) → command_in list n ≡ None → from_command list n rest ≡ from_command list (suc n) rest
past_command (tree.Starts c joins) zero rest e = absurd (let k = e in cc)
past_command (tree.Starts c joins) (suc j) rest e = ap (λ (x : Joined). Linked x ∷ Lists rest ∷ []) (past_joined joins j (no_second (joined_at joins j) e))

finish-is : (b : Option BoardEnd) (name : Text) (ps : List RunningFrame) (s : State) → next_of (place_finish b name ps s) ≡ finish_next b name (frames_of ps) s
finish-is (Some finish) name ps s = refl
finish-is None name ps s = refl

-- a file that a command hands over to
pub file-is : (before : ℕ) (runs : List Text) (ps : List RunningFrame) → frames_of (above_file before runs ps) ≡ with_file before runs (frames_of ps)
file-is before [] ps = refl
file-is before (name ∷ others) ps = refl

-- and so is the outcome of the command that asks
pub place_answered-is : (outcome : Outcome) (r : Request) (ps : List RunningFrame) (s : State) → next_of (place_answered outcome r ps s) ≡ answered outcome r (frames_of ps) s
place_answered-is Success r ps s =
    let t : State = set_environment (sets_in r.words r.effect.sets) (logged Success r s) in
    finish-is r.effect.ends r.name (above_file s.memory.status r.effect.runs ps) t ∙ ap (λ (fs : List Frame). finish_next r.effect.ends r.name fs t) (file-is s.memory.status r.effect.runs ps)
place_answered-is Failure r ps s = ap (λ (fs : List Frame). Go fs (logged Failure r s)) (file-is s.memory.status r.effect.runs ps)

tell-is : (o : Option Bool) (r : Request) (ps : List RunningFrame) (s : State) → next_of (place_tell_or_ask o r ps s) ≡ tell_or_ask o r (frames_of ps) s
tell-is None r ps s = refl
tell-is (Some success) r ps s = place_answered-is (outcome_when success) (told_again r) ps s

module _ (limits : Limits) where
  counted-is : (n : State → PlaceNext) (m : State → Next) (s : State) → ((t : State) → next_of (n t) ≡ m t) → next_of (place_counted limits n s) ≡ counted limits m s
  counted-is n m s e = let t : State = record s { steps = suc s.steps } in if_next (nat_lt s.steps limits.step_bound) (n t) (StopOn CutSteps s) (m t) (Stop CutSteps s) (e t) refl

  ask-is : (r : Request) (ps : List RunningFrame) (s : State) → next_of (place_ask limits r ps s) ≡ ask limits r (frames_of ps) s
  ask-is r ps s = if_next (nat_lt (length s.log) limits.device_bound) (place_tell_or_ask (told r s.log) r ps s) (StopOn CutDevices s) (tell_or_ask (told r s.log) r (frames_of ps) s) (Stop CutDevices s) (tell-is (told r s.log) r ps s) refl

  builtin-is : (again : Bool) (b : Called) (name : Text) (ws : List Text) (script : Script) (ps : List RunningFrame) (s : State) → next_of (place_called limits again b name ws script ps s) ≡ begin_called limits again b name ws (frames_of ps) s
  builtin-is again (BuiltIn (ChangesVariables change)) name ws script ps s = refl
  builtin-is again (BuiltIn RunsTexts) name [] script ps s = refl
  builtin-is again (BuiltIn RunsTexts) name (w ∷ ws) script ps s = refl
  builtin-is again (BuiltIn Tests) name ws script ps s =
      let r : Request = test_request limits name ws in
      let t : State = set_status (status_when (truth_in limits.shell ws)) s in
      if_next (asks_in limits.shell ws) (place_ask limits r ps s) (GoOn ps t) (ask limits r (frames_of ps) s) (Go (frames_of ps) t) (ask-is r ps s) refl
  builtin-is again (BuiltIn (WritesText written)) name ws script ps s = refl
  builtin-is again (BuiltIn Exits) name ws script ps s = exit-is limits.shell (leaves_in limits.shell again ws) (status_of_exit limits.shell ws) ps s
  builtin-is again (Device effect) name ws script ps s = ask-is (request_of name ws (effect_now limits.room s effect)) ps s
  builtin-is again NoCommand name ws script ps s = refl

  call-is : (again : Bool) (ws : List Text) (script : Script) (ps : List RunningFrame) (s : State) → next_of (place_simple_call limits again ws script ps s) ≡ begin_simple_call limits again ws (frames_of ps) s
  call-is again [] script ps s = refl
  call-is again (name ∷ ws) script ps s = if_next (follows limits.shell limits.devices name ws) (place_called limits again (called_by limits.devices name ws) name ws script ps s) (StopOn (Unsupported name) s) (begin_called limits again (called_by limits.devices name ws) name ws (frames_of ps) s) (Stop (Unsupported name) s) (builtin-is again (called_by limits.devices name ws) name ws script ps s) refl

  fields-is : (again : Bool) (ws : List Text) (script : Script) (ps : List RunningFrame) (s : State) → next_of (place_fields limits again ws script ps s) ≡ begin_fields limits again ws (frames_of ps) s
  fields-is again ws = call-is again (call_in limits.shell ws)

  -- at a list of a script that is running
  module _ (f : RunningFrame) (fs : List RunningFrame) (list : AndOr) (at_list : list_at f.script f.place.list ≡ Some list) (scripted : (p : At) → frames_by f.kind (moved_to p f) ≡ script_frames (list_at f.script p.list) p (drop_lists (suc p.list) f.script)) where
    abbrev rest : Script
    rest = drop_lists (suc f.place.list) f.script

    turned : (command turn last : ℕ) → frames_of (moved_to (place f.place.list command turn last) f ∷ fs) ≡ from_turn list (place f.place.list command turn last) turn rest ++ frames_of fs
    turned command turn last = ap (λ (x : List Frame). x ++ frames_of fs) (scripted (place f.place.list command turn last) ∙ ap (λ (x : Option AndOr). script_frames x (place f.place.list command turn last) rest) at_list)

    abbrev below : List Frame
    below = from_command list (suc f.place.command) rest ++ frames_of fs

    behind-is : frames_of (behind f ∷ fs) ≡ below
    behind-is = turned (suc f.place.command) 0 0

    went_on : (s : State) → next_of (GoOn (behind f ∷ fs) s) ≡ Go below s
    went_on s = ap (λ (x : List Frame). Go x s) behind-is

    -- under a block of an `if`
    with_block-is : (shell : Shell) (all : Arms) → command_in list f.place.command ≡ Some (tree.If all) → frames_of (with_block shell f ∷ fs) ≡ behind_block shell below
    with_block-is Profile all e = behind-is
    with_block-is Old2023 all e = behind-is
    with_block-is Old2025 all e = behind-is
    with_block-is Modern2025 all e = turned f.place.command 2 1 ∙ ap (λ (x : Frame). x ∷ below) (phase_over (command_in list f.place.command))

    entered : (b : Script) (all : Arms) → command_in list f.place.command ≡ Some (tree.If all) → (s : State) → next_of (GoOn (block_frame b ∷ with_block limits.shell f ∷ fs) s) ≡ Go (Lists b ∷ behind_block limits.shell below) s
    entered b all e s = ap (λ (x : List Frame). Go x s) (blocked b (with_block limits.shell f ∷ fs) ∙ ap (λ (x : List Frame). Lists b ∷ x) (with_block-is limits.shell all e))

    arms-is : (all arms : Arms) (a : ℕ) → command_in list f.place.command ≡ Some (tree.If all) → drop_arms a all ≡ arms → (s : State) → next_of (place_arms limits.shell arms a f fs s) ≡ begin_arms limits.shell arms below s
    arms-is all (tree.Arm c b more) a e d s =
        let one : frames_of (in_turn (suc a) 0 f ∷ fs) ≡ phase (command_in list f.place.command) a 0 ∷ below = turned f.place.command (suc a) 0 in
        let two : phase (command_in list f.place.command) a 0 ≡ IfCondition b more = ap (λ (x : Option Command). phase x a 0) e ∙ ap condition_frame d in
        ap (λ (x : List Frame). Go x s) (blocked c (in_turn (suc a) 0 f ∷ fs) ∙ ap (λ (x : List Frame). Lists c ∷ x) (one ∙ ap (λ (x : Frame). x ∷ below) two))
    arms-is all (tree.Else b) a e d s = entered b all e s
    arms-is all tree.NoElse a e d s = went_on (set_status (status_of_no_block limits.shell s.memory.status) s)

    begins-for-is : (name : Text) (words : List tree.Word) (body : Script) → command_in list f.place.command ≡ Some (tree.For name words body) → (values : List Text) (s : State) → next_of (for_begins values f fs s) ≡ begin_for name values body below s
    begins-for-is name words body e [] s = went_on (set_status 0 s)
    begins-for-is name words body e (v ∷ vs) s =
        let found : command_at (list_at f.script f.place.list) f.place.command ≡ Some (tree.For name words body) = ap (λ (x : Option AndOr). command_at x f.place.command) at_list ∙ e in
        ap (λ (x : Option Command). Go (for_frame x 0 (v ∷ vs) ∷ frames_of (behind f ∷ fs)) s) found ∙ ap (λ (x : List Frame). Go (ForBody name (v ∷ vs) body ∷ x) s) behind-is

    turns-is : (name : Text) (words : List tree.Word) (body : Script) → command_in list f.place.command ≡ Some (tree.For name words body) → (values : List Text) (s : State) → next_of (place_turns limits.shell name values f fs s) ≡ begin_turns limits.shell name values body below s
    turns-is name words body e values s = if_next (follows_turns limits.shell name values) (for_begins values f fs s) (StopOn (Unsupported name) s) (begin_for name values body below s) (Stop (Unsupported name) s) (begins-for-is name words body e values s) refl

    words-is : (name : Text) (words : List tree.Word) (body : Script) → command_in list f.place.command ≡ Some (tree.For name words body) → (s : State) → next_of (place_words limits.shell name words f fs s) ≡ begin_words limits.shell name words body below s
    words-is name words body e s = fitting-is (turns_in limits.shell (parameters_in s.memory) words) (λ found. place_turns limits.shell name found f fs) (λ found. begin_turns limits.shell name found body below) s (turns-is name words body e (turns_in limits.shell (parameters_in s.memory) words) s)

    looped-is : (until : Bool) (c b : Script) → command_in list f.place.command ≡ Some (tree.Loop until c b) → (last : ℕ) (s : State) → next_of (GoOn (block_frame c ∷ in_turn 1 last f ∷ fs) s) ≡ Go (Lists c ∷ LoopCondition until c b last ∷ below) s
    looped-is until c b e last s = ap (λ (x : List Frame). Go x s) (blocked c (in_turn 1 last f ∷ fs) ∙ ap (λ (x : List Frame). Lists c ∷ x) (turned f.place.command 1 last ∙ ap (λ (x : Option Command). phase x 0 last ∷ below) e))

    command-is : (c : Command) → command_in list f.place.command ≡ Some c → (s : State) → next_of (place_command limits c f fs s) ≡ begin_command limits c below s
    command-is (tree.Simple words) e s = counted-is (λ t. place_fitting (fields_in limits.shell (parameters_in t.memory) words) (λ found. place_fields limits (reads_again words) found f.script (behind f ∷ fs)) t) (λ t. fitting (fields_in limits.shell (parameters_in t.memory) words) (λ found. begin_fields limits (reads_again words) found below) t) s
        (λ t. fitting-is (fields_in limits.shell (parameters_in t.memory) words) (λ found. place_fields limits (reads_again words) found f.script (behind f ∷ fs)) (λ found. begin_fields limits (reads_again words) found below) t (fields-is (reads_again words) (fields_in limits.shell (parameters_in t.memory) words) f.script (behind f ∷ fs) t ∙ ap (λ (x : List Frame). begin_fields limits (reads_again words) (fields_in limits.shell (parameters_in t.memory) words) x t) behind-is))
    command-is (tree.Assign pairs) e s = counted-is (place_assign limits.shell pairs (behind f ∷ fs)) (begin_assign limits.shell pairs below) s (λ t. assign-is limits.shell pairs (behind f ∷ fs) t ∙ ap (λ (x : List Frame). begin_assign limits.shell pairs x t) behind-is)
    command-is (tree.If arms) e s = arms-is arms arms 0 e refl s
    command-is (tree.Loop until c b) e s = looped-is until c b e 0 s
    command-is (tree.For name words body) e s = counted-is (place_for limits.shell name words f fs) (λ t. begin_words limits.shell name words body below (for_begun limits.shell t)) s (λ t. words-is name words body e (for_begun limits.shell t))

    condition-is : (all arms : Arms) (a : ℕ) → command_in list f.place.command ≡ Some (tree.If all) → drop_arms a all ≡ arms → (s : State) → next_of (condition_ends limits.shell arms a f fs s) ≡ move limits (condition_frame arms ∷ below) s
    condition-is all (tree.Arm c b more) a e d s =
        if_next (nat_eq s.memory.status 0) (GoOn (block_frame b ∷ with_block limits.shell f ∷ fs) s) (place_arms limits.shell more (suc a) f fs (block_skipped limits.shell b s)) (Go (Lists b ∷ behind_block limits.shell below) s) (begin_arms limits.shell more below (block_skipped limits.shell b s))
        (entered b all e s)
        (arms-is all more (suc a) e (drop_more all a c b more d) (block_skipped limits.shell b s))
    condition-is all (tree.Else b) a e d s = went_on s
    condition-is all tree.NoElse a e d s = went_on s

    -- a command that may be over
    if_moves-is : (arms : Arms) (a last : ℕ) → command_in list f.place.command ≡ Some (tree.If arms) → (s : State) → next_of (if_moves limits.shell last arms a f fs s) ≡ move limits (phase (Some (tree.If arms)) a last ∷ below) s
    if_moves-is arms a zero e s = condition-is arms (drop_arms a arms) a e refl s
    if_moves-is arms a (suc last) e s = went_on s

    loop_moves-is : (until : Bool) (c b : Script) (a last : ℕ) → command_in list f.place.command ≡ Some (tree.Loop until c b) → (s : State) → next_of (loop_moves last c f fs s) ≡ move limits (phase (Some (tree.Loop until c b)) (suc a) last ∷ below) s
    loop_moves-is until c b a zero e s = looped-is until c b e s.memory.status s
    loop_moves-is until c b a (suc last) e s = went_on s

    phase-is : (o : Option Command) (a : ℕ) → command_in list f.place.command ≡ o → (s : State) → next_of (phase_move limits.shell o a f fs s) ≡ move limits (phase o a f.place.last ∷ below) s
    phase-is None a e s = ap (λ (x : List Frame). Go x s) (turned f.place.command 0 0 ∙ ap (λ (x : List Frame). x ++ frames_of fs) (past_command list f.place.command rest e))
    phase-is (Some (tree.Simple words)) a e s = went_on s
    phase-is (Some (tree.Assign pairs)) a e s = went_on s
    phase-is (Some (tree.If arms)) a e s = if_moves-is arms a f.place.last e s
    phase-is (Some (tree.Loop until c b)) zero e s =
        if_next (holds until s.memory.status) (GoOn (block_frame b ∷ in_turn 2 0 f ∷ fs) s) (GoOn (behind f ∷ fs) (set_status (status_of_loop limits.shell f.place.last s.memory.status) s)) (Go (Lists b ∷ LoopBody until c b ∷ below) s) (Go below (set_status (status_of_loop limits.shell f.place.last s.memory.status) s))
        (ap (λ (x : List Frame). Go x s) (blocked b (in_turn 2 0 f ∷ fs) ∙ ap (λ (x : List Frame). Lists b ∷ x) (turned f.place.command 2 0 ∙ ap (λ (x : Option Command). phase x 1 0 ∷ below) e)))
        (went_on (set_status (status_of_loop limits.shell f.place.last s.memory.status) s))
    phase-is (Some (tree.Loop until c b)) (suc a) e s = loop_moves-is until c b a f.place.last e s
    phase-is (Some (tree.For name words body)) a e s = went_on s

    next_list-is : (s : State) → next_of (GoOn (moved_to (place (suc f.place.list) 0 0 0) f ∷ fs) s) ≡ Go (Lists rest ∷ frames_of fs) s
    next_list-is s = ap (λ (x : List Frame). Go (x ++ frames_of fs) s) (scripted (place (suc f.place.list) 0 0 0) ∙ from_start (list_at f.script (suc f.place.list)) f.script (suc f.place.list) refl)

    -- what follows a command that is skipped
    abbrev skipped_move : Frame → State → Next
    skipped_move joins s = elim (skips_rest limits.shell) [ true ↦ Go (Lists rest ∷ frames_of fs) s | false ↦ Go (joins ∷ Lists rest ∷ frames_of fs) s ]

    joined-is : (c : Command) (joins : Joined) (j : ℕ) (o : Option (Op × Command)) → list ≡ tree.Starts c joins → f.place.command ≡ suc j → joined_at joins j ≡ o → (s : State) → next_of (place_joined limits o f fs s) ≡ move limits (Linked (drop_joined j joins) ∷ Lists rest ∷ frames_of fs) s
    joined-is c joins j None l p e s = next_list-is s ∙ ap (λ (x : Joined). move limits (Linked x ∷ Lists rest ∷ frames_of fs) s) (sym (joined_none joins j e))
    joined-is c joins j (Some pair) l p e s =
        let known : command_in list f.place.command ≡ Some pair.1 = ap (λ (x : AndOr). command_in x f.place.command) l ∙ ap (λ (x : ℕ). command_in (tree.Starts c joins) x) p ∙ ap second e in
        let there : below ≡ Linked (drop_joined (suc j) joins) ∷ Lists rest ∷ frames_of fs = ap (λ (x : AndOr). from_command x (suc f.place.command) rest ++ frames_of fs) l ∙ ap (λ (x : ℕ). Linked (drop_joined x joins) ∷ Lists rest ∷ frames_of fs) p in
        if_next (goes pair.0 s.memory.status) (place_command limits pair.1 f fs s) (place_skipped limits f fs s) (begin_command limits pair.1 (Linked (drop_joined (suc j) joins) ∷ Lists rest ∷ frames_of fs) s) (skipped_move (Linked (drop_joined (suc j) joins)) s)
        (command-is pair.1 known s ∙ ap (λ (x : List Frame). begin_command limits pair.1 x s) there)
        (if_next (skips_rest limits.shell) (GoOn (moved_to (place (suc f.place.list) 0 0 0) f ∷ fs) s) (GoOn (behind f ∷ fs) s) (Go (Lists rest ∷ frames_of fs) s) (Go (Linked (drop_joined (suc j) joins) ∷ Lists rest ∷ frames_of fs) s) (next_list-is s) (went_on s ∙ ap (λ (x : List Frame). Go x s) there))
        ∙ ap (λ (x : Joined). move limits (Linked x ∷ Lists rest ∷ frames_of fs) s) (sym (joined_some joins j pair e))

    begins-is : (c : Command) (joins : Joined) (n : ℕ) → list ≡ tree.Starts c joins → f.place.command ≡ n → (s : State) → next_of (place_begins limits (tree.Starts c joins) n f fs s) ≡ move limits (from_command (tree.Starts c joins) n rest ++ frames_of fs) s
    begins-is c joins zero l p s =
        let known : command_in list f.place.command ≡ Some c = ap (λ (x : AndOr). command_in x f.place.command) l ∙ ap (λ (x : ℕ). command_in (tree.Starts c joins) x) p in
        let there : below ≡ Linked joins ∷ Lists rest ∷ frames_of fs = ap (λ (x : AndOr). from_command x (suc f.place.command) rest ++ frames_of fs) l ∙ ap (λ (x : ℕ). Linked (drop_joined x joins) ∷ Lists rest ∷ frames_of fs) p in
        command-is c known s ∙ ap (λ (x : List Frame). begin_command limits c x s) there
    begins-is c joins (suc j) l p s = joined-is c joins j (joined_at joins j) l p refl s

    begins-any : (l : AndOr) → list ≡ l → (s : State) → next_of (place_begins limits l f.place.command f fs s) ≡ move limits (from_command l f.place.command rest ++ frames_of fs) s
    begins-any (tree.Starts c joins) l s = begins-is c joins f.place.command l refl s

    turn-is : (turn : ℕ) (s : State) → f.place.turn ≡ turn → next_of (place_turn limits list turn f fs s) ≡ move limits (from_turn list f.place turn rest ++ frames_of fs) s
    turn-is zero s e = begins-any list refl s
    turn-is (suc a) s e = phase-is (command_in list f.place.command) a refl s

  script-is : (f : RunningFrame) (fs : List RunningFrame) (o : Option AndOr) → list_at f.script f.place.list ≡ o → ((p : At) → frames_by f.kind (moved_to p f) ≡ script_frames (list_at f.script p.list) p (drop_lists (suc p.list) f.script)) → (s : State) → next_of (place_list limits o f fs s) ≡ move limits (script_frames o f.place (drop_lists (suc f.place.list) f.script) ++ frames_of fs) s
  script-is f fs None e h s = by f.place.turn
    where
      by : (turn : ℕ) → Go (frames_of fs) s ≡ move limits (past_lists turn ++ frames_of fs) s
      by zero = refl
      by (suc a) = refl
  script-is f fs (Some list) e h s = turn-is f fs list e h f.place.turn s refl

  by-is : (k : FrameKind) (f : RunningFrame) (fs : List RunningFrame) (s : State) → f.kind ≡ k → next_of (place_by limits k f fs s) ≡ move limits (frames_by k f ++ frames_of fs) s
  by-is kinds.Text f fs s e = script-is f fs (list_at f.script f.place.list) refl (λ p. ap (λ (x : FrameKind). frames_by x (moved_to p f)) e) s
  by-is kinds.Block f fs s e = script-is f fs (list_at f.script f.place.list) refl (λ p. ap (λ (x : FrameKind). frames_by x (moved_to p f)) e) s
  by-is kinds.For f fs s e = for-is f fs s e limits (command_at (list_at f.script f.place.list) f.place.command) refl
  by-is kinds.Run f fs s e = run-turn-is limits f fs s e f.place.turn refl
  by-is kinds.File f fs s e = file_turn-is limits f fs s e f.place.turn refl

  -- each move at places is the move of their frames
  pub place_move-is : (ps : List RunningFrame) (s : State) → next_of (place_move limits ps s) ≡ move limits (frames_of ps) s
  place_move-is [] s = refl
  place_move-is (f ∷ fs) s = by-is f.kind f fs s refl

-- the start of the text of a variable
pub text_begins : (script : Script) → frames_of (text_frame script ∷ []) ≡ Lists script ∷ []
text_begins script = texted script []

-- ---- what `exit` removes

module _ (shell : Shell) where
  -- what `exit` does at some frames, it does at others
  abbrev pub LeavesAs : (frames all : List RunningFrame) → Type 0
  LeavesAs frames all = (s : State) → left shell frames s ≡ left shell all s

  pub leaves_at : (frames all : List RunningFrame) (f : RunningFrame) (next : PlaceNext) (s : State) → Some f ≡ slice_get frames 0 → LeavesAs frames all
      → next ≡ left_by shell f.kind f (without_first frames) (left shell (without_first frames) s) s → next ≡ left shell all s
  leaves_at [] all f next s e t n = absurd (let g = e in cc)
  leaves_at (x ∷ xs) all f next s e t n =
      let same : f ≡ x = (let g = e in cc) in
      n ∙ ap (λ (y : RunningFrame). left_by shell y.kind y xs (left shell xs s) s) same ∙ t s

  pub goes_below : (frames all : List RunningFrame) (f : RunningFrame) → Some f ≡ slice_get frames 0 → LeavesAs frames all
      → ((s : State) → left shell (without_first frames) s ≡ left_by shell f.kind f (without_first frames) (left shell (without_first frames) s) s) → LeavesAs (without_first frames) all
  goes_below frames all f e t n s = leaves_at frames all f (left shell (without_first frames) s) s e t (n s)

  pub ends_at_none : (frames all : List RunningFrame) (s : State) → None ≡ slice_get frames 0 → LeavesAs frames all → StopOn (End s.memory.status) s ≡ left shell all s
  ends_at_none [] all s e t = t s
  ends_at_none (x ∷ xs) all s e t = absurd (let g = e in cc)

pub shorter_below : (frames : List RunningFrame) (f : RunningFrame) → Some f ≡ slice_get frames 0 → length (without_first frames) < length frames
shorter_below [] f e = absurd (let g = e in cc)
shorter_below (x ∷ xs) f e = omega arith
