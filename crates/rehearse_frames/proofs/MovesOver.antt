-- A move of frames with others below them: it is the same move, or it comes back to the others.
use Rattle.std.proofs.Common.{ℕ, zero, suc, Bool, true, false, List, [], ◌∷◌, ◌++◌, length, Option, Some, None, refl, ap, ◌≡◌, ◌∙◌, ◌≤◌, ◌⊎◌, inl, inr, arith, nat_lt, nat_le, nat_eq, drop}
use Rattle.std.specs.Prelude.{slice_get}
use Rattle.device_list.specs.declared.finish.BoardEnd.{BoardEnd}
use Rattle.device_list.specs.Called.{Called, BuiltIn, NoCommand, Device, called_by, sets_in}
use Rattle.hushlang.specs.Tree as tree
use Rattle.hushlang.specs.Tree.{Script, AndOr, Command, Arms}
use Rattle.hushlang.specs.Expansion.{size, most_bytes}
use Rattle.hushlang.specs.declared.tree.Op.{Op}
use Rattle.hushlang_shells.specs.TreesByShell.{TextRead, Runs, Fails, Panics, Unread, started_in, sourced_in}
use Rattle.bootstore_state.specs.Moment.{RunningFrame}
use Rattle.bootstore_state.specs.declared.frame.FrameKind.{FrameKind}
use Rattle.bootstore_state.specs.declared.frame.FrameKind.TheVariants as kinds
use Rattle.commands.specs.BuiltInCommands.{ChangesVariables, WritesText, RunsTexts, Tests, Exits}
use Rattle.rehearse_terms.specs.Outcomes.{Outcome, Success, Failure}
use Rattle.rehearse_terms.specs.State.{Text, get, State}
use Rattle.rehearse_terms.specs.declared.shell.Shell.{Shell}
use Rattle.rehearse_terms.specs.declared.shell.Shell.TheVariants.{Profile, Old2023, Old2025, Modern2025}
use Rattle.rehearse_rules.specs.ByShell.{reads_again, leaves_in, status_of_exit, asks_in, truth_in, fields_in, turns_in, skips_rest, status_of_loop, follows, assigned_in, follows_turns, call_in}
use Rattle.rehearse_rules.specs.Execution.{Limits, End, CutDevices, CutSteps, Size, set_status, status_when, goes, holds, Request, outcome_when, told, told_again, logged, set_environment, Unsupported, assign_local, request_of, test_request, text_failed, for_begun, block_skipped, choice_text}
use Rattle.rehearse_rules.specs.Needs.{effect_now}
use Rattle.rehearse_rules.specs.Parameters.{parameters_in}
use Rattle.rehearse_machine.specs.AskingCommand.{fields_again, found_again, words_in_front}
use Rattle.rehearse_machine.specs.Places.{at_file, place_one, place_question, file_asked, left_file, file_left, place_sourced, file_begins, file_ends, file_move, list_at, joined_at, command_in, command_at, drop_arms, place, PlaceNext, GoOn, AskOn, StopOn, moved_to, behind, in_turn, block_frame, with_block, command_over, left, left_by, left_script, left_compound, place_exit, place_finish, above_file, place_taken, place_answered, place_tell_or_ask, place_assign, place_read, place_text, place_name, run_move, for_turn, for_move, for_begins, place_turns, place_arms, condition_ends, loop_ends, if_moves, loop_moves, phase_move, place_fitting, place_words, place_for, place_ask, place_called, place_simple_call, place_fields, place_counted, place_command, place_skipped, place_joined, place_begins, place_turn, place_list, place_by, place_move}
use Rattle.device_list.specs.DeviceList.{file_in}

-- with these frames below
abbrev pub under : List RunningFrame → PlaceNext → PlaceNext
under qs (GoOn ps s) = GoOn (ps ++ qs) s
under qs (AskOn request ps s) = AskOn request (ps ++ qs) s
under qs (StopOn ending s) = StopOn ending s

-- a move that has come back to these frames, or to the end of the text
abbrev pub ComesBack : List RunningFrame → PlaceNext → Type 0
ComesBack qs (GoOn ps s) = length ps ≤ length qs
ComesBack qs (AskOn request ps s) = ⊥
ComesBack qs (StopOn ending s) = (status : ℕ) × (ending ≡ End status)

module _ (qs : List RunningFrame) where
  abbrev pub IsOver : (without whole : PlaceNext) → Type 0
  IsOver x y = (y ≡ under qs x) ⊎ ComesBack qs y

  over_if : (b : Bool) (x y u v : PlaceNext) → IsOver x u → IsOver y v → IsOver (elim b [ true ↦ x | false ↦ y ]) (elim b [ true ↦ u | false ↦ v ])
  over_if true x y u v e f = e
  over_if false x y u v e f = f

  -- ---- `exit`

  back_if : (b : Bool) (x y : PlaceNext) → ComesBack qs x → ComesBack qs y → ComesBack qs (elim b [ true ↦ x | false ↦ y ])
  back_if true x y e f = e
  back_if false x y e f = f

  compound_over : (shell : Shell) (fs : List RunningFrame) (x y : PlaceNext) (s : State) → IsOver x y → IsOver (left_compound shell fs x s) (left_compound shell (fs ++ qs) y s)
  compound_over Profile fs x y s h = h
  compound_over Old2023 fs x y s h = h
  compound_over Old2025 fs x y s h = h
  compound_over Modern2025 fs x y s h = inl refl

  script_over : (shell : Shell) (turn : ℕ) (f : RunningFrame) (fs : List RunningFrame) (x y : PlaceNext) (s : State) → IsOver x y → IsOver (left_script shell turn f fs x s) (left_script shell turn f (fs ++ qs) y s)
  script_over shell zero f fs x y s h = h
  script_over shell (suc a) f fs x y s h = compound_over shell (command_over f ∷ fs) x y s h

  text_over_left : (shell : Shell) (fs : List RunningFrame) (s : State) → IsOver (file_left shell fs s) (file_left shell (fs ++ qs) s)
  text_over_left Profile fs s = inl refl
  text_over_left Old2023 fs s = inl refl
  text_over_left Old2025 fs s = inl refl
  text_over_left Modern2025 fs s = inl refl

  file_over : (shell : Shell) (turn : ℕ) (fs : List RunningFrame) (x y : PlaceNext) (s : State) → IsOver x y → IsOver (left_file shell turn fs x s) (left_file shell turn (fs ++ qs) y s)
  file_over shell zero fs x y s h = h
  file_over shell (suc zero) fs x y s h = text_over_left shell fs s
  file_over shell (suc (suc k)) fs x y s h = h

  left_by_over : (shell : Shell) (kind : FrameKind) (f : RunningFrame) (fs : List RunningFrame) (x y : PlaceNext) (s : State) → IsOver x y → IsOver (left_by shell kind f fs x s) (left_by shell kind f (fs ++ qs) y s)
  left_by_over shell kinds.Text f fs x y s h = script_over shell f.place.turn f fs x y s h
  left_by_over shell kinds.Block f fs x y s h = script_over shell f.place.turn f fs x y s h
  left_by_over shell kinds.For f fs x y s h = compound_over shell fs x y s h
  left_by_over shell kinds.Run f fs x y s h = over_if (nat_eq s.memory.status 0) (GoOn (f ∷ fs) s) (GoOn fs s) (GoOn (f ∷ fs ++ qs) s) (GoOn (fs ++ qs) s) (inl refl) (inl refl)
  left_by_over shell kinds.File f fs x y s h = file_over shell f.place.turn fs x y s h

-- what is left of frames is no more than they are
module _ (shell : Shell) (qs : List RunningFrame) where
  compound_back : (shell : Shell) (fs : List RunningFrame) (x : PlaceNext) (s : State) → length fs ≤ length qs → ComesBack qs x → ComesBack qs (left_compound shell fs x s)
  compound_back Profile fs x s l h = h
  compound_back Old2023 fs x s l h = h
  compound_back Old2025 fs x s l h = h
  compound_back Modern2025 fs x s l h = l

  script_back : (turn : ℕ) (f : RunningFrame) (fs : List RunningFrame) (x : PlaceNext) (s : State) → length (f ∷ fs) ≤ length qs → ComesBack qs x → ComesBack qs (left_script shell turn f fs x s)
  script_back zero f fs x s l h = h
  script_back (suc a) f fs x s l h = compound_back shell (command_over f ∷ fs) x s l h

  text_back : (own : Shell) (fs : List RunningFrame) (s : State) → length fs ≤ length qs → ComesBack qs (file_left own fs s)
  text_back Profile fs s l = l
  text_back Old2023 fs s l = l
  text_back Old2025 fs s l = l
  text_back Modern2025 fs s l = (s.memory.status, refl)

  file_back : (turn : ℕ) (fs : List RunningFrame) (x : PlaceNext) (s : State) → length fs ≤ length qs → ComesBack qs x → ComesBack qs (left_file shell turn fs x s)
  file_back zero fs x s l h = h
  file_back (suc zero) fs x s l h = text_back shell fs s l
  file_back (suc (suc k)) fs x s l h = h

  left_by_back : (kind : FrameKind) (f : RunningFrame) (fs : List RunningFrame) (x : PlaceNext) (s : State) → length (f ∷ fs) ≤ length qs → ComesBack qs x → ComesBack qs (left_by shell kind f fs x s)
  left_by_back kinds.Text f fs x s l h = script_back f.place.turn f fs x s l h
  left_by_back kinds.Block f fs x s l h = script_back f.place.turn f fs x s l h
  left_by_back kinds.For f fs x s l h = compound_back shell fs x s (omega arith) h
  left_by_back kinds.Run f fs x s l h = back_if qs (nat_eq s.memory.status 0) (GoOn (f ∷ fs) s) (GoOn fs s) l (omega arith)
  left_by_back kinds.File f fs x s l h = file_back f.place.turn fs x s (omega arith) h

  left_back : (fs : List RunningFrame) (s : State) → length fs ≤ length qs → ComesBack qs (left shell fs s)
  left_back [] s l = (s.memory.status, refl)
  left_back (f ∷ fs) s l = left_by_back f.kind f fs (left shell fs s) s l (left_back fs s (omega arith))

  left_over : (fs : List RunningFrame) (s : State) → IsOver qs (left shell fs s) (left shell (fs ++ qs) s)
  left_over [] s = inr (left_back qs s (omega arith))
  left_over (f ∷ fs) s = left_by_over qs shell f.kind f fs (left shell fs s) (left shell (fs ++ qs) s) s (left_over fs s)

module _ (limits : Limits) (qs : List RunningFrame) where
  exit_over : (o : Option ℕ) (other : ℕ) (ps : List RunningFrame) (s : State) → IsOver qs (place_exit limits.shell o other ps s) (place_exit limits.shell o other (ps ++ qs) s)
  exit_over (Some status) other ps s = left_over limits.shell qs ps (set_status status s)
  exit_over None other ps s = inl refl

  -- ---- device commands

  finish_over : (o : Option BoardEnd) (name : Text) (ps : List RunningFrame) (s : State) → place_finish o name (ps ++ qs) s ≡ under qs (place_finish o name ps s)
  finish_over (Some finish) name ps s = refl
  finish_over None name ps s = refl

  taken_over : (outcome : Outcome) (r : Request) (ps : List RunningFrame) (s : State) → place_taken outcome r (ps ++ qs) s ≡ under qs (place_taken outcome r ps s)
  taken_over Success r ps s = finish_over r.effect.ends r.name ps (set_environment (sets_in r.words r.effect.sets) (logged Success r s))
  taken_over Failure r ps s = refl

  file_above : (before : ℕ) (runs : List Text) (ps : List RunningFrame) → above_file before runs (ps ++ qs) ≡ above_file before runs ps ++ qs
  file_above before [] ps = refl
  file_above before (name ∷ others) ps = refl

  pub answered_over : (outcome : Outcome) (r : Request) (ps : List RunningFrame) (s : State) → place_answered outcome r (ps ++ qs) s ≡ under qs (place_answered outcome r ps s)
  answered_over outcome r ps s =
      ap (λ (fs : List RunningFrame). place_taken outcome r fs s) (file_above s.memory.status r.effect.runs ps) ∙ taken_over outcome r (above_file s.memory.status r.effect.runs ps) s

  tell_over : (o : Option Bool) (r : Request) (ps : List RunningFrame) (s : State) → IsOver qs (place_tell_or_ask o r ps s) (place_tell_or_ask o r (ps ++ qs) s)
  tell_over (Some success) r ps s = inl (answered_over (outcome_when success) (told_again r) ps s)
  tell_over None r ps s = inl refl

  ask_over : (r : Request) (ps : List RunningFrame) (s : State) → IsOver qs (place_ask limits r ps s) (place_ask limits r (ps ++ qs) s)
  ask_over r ps s =
      over_if qs (nat_lt (length s.log) limits.device_bound) (place_tell_or_ask (told r s.log) r ps s) (StopOn CutDevices s) (place_tell_or_ask (told r s.log) r (ps ++ qs) s) (StopOn CutDevices s) (tell_over (told r s.log) r ps s) (inl refl)

  -- ---- commands

  assign_over : (pairs : List (Text × tree.Word)) (ps : List RunningFrame) (s : State) → IsOver qs (place_assign limits.shell pairs ps s) (place_assign limits.shell pairs (ps ++ qs) s)
  assign_over [] ps s = inl refl
  assign_over (pair ∷ pairs) ps s =
      let value : Text = assigned_in limits.shell (parameters_in s.memory) pair.1 in
      let t : State = assign_local limits.shell pair.0 value s in
      over_if qs (nat_le (length value) most_bytes) (place_assign limits.shell pairs ps t) (StopOn Size s) (place_assign limits.shell pairs (ps ++ qs) t) (StopOn Size s) (assign_over pairs ps t) (inl refl)

  called_over : (again : Bool) (called : Called) (name : Text) (ws : List Text) (script : Script) (ps : List RunningFrame) (s : State) → IsOver qs (place_called limits again called name ws script ps s) (place_called limits again called name ws script (ps ++ qs) s)
  called_over again (BuiltIn (ChangesVariables change)) name ws script ps s = inl refl
  called_over again (BuiltIn RunsTexts) name [] script ps s = inl refl
  called_over again (BuiltIn RunsTexts) name (w ∷ ws) script ps s = inl refl
  called_over again (BuiltIn Tests) name ws script ps s =
      let r : Request = test_request limits name ws in
      let t : State = set_status (status_when (truth_in limits.shell ws)) s in
      over_if qs (asks_in limits.shell ws) (place_ask limits r ps s) (GoOn ps t) (place_ask limits r (ps ++ qs) s) (GoOn (ps ++ qs) t) (ask_over r ps s) (inl refl)
  called_over again (BuiltIn (WritesText written)) name ws script ps s = inl refl
  called_over again (BuiltIn Exits) name ws script ps s = exit_over (leaves_in limits.shell again ws) (status_of_exit limits.shell ws) ps s
  called_over again (Device effect) name ws script ps s = ask_over (request_of name ws (effect_now limits.room s effect)) ps s
  called_over again NoCommand name ws script ps s = inl refl

  call_over : (again : Bool) (ws : List Text) (script : Script) (ps : List RunningFrame) (s : State) → IsOver qs (place_simple_call limits again ws script ps s) (place_simple_call limits again ws script (ps ++ qs) s)
  call_over again [] script ps s = inl refl
  call_over again (name ∷ ws) script ps s =
      over_if qs (follows limits.shell limits.devices name ws) (place_called limits again (called_by limits.devices name ws) name ws script ps s) (StopOn (Unsupported name) s)
      (place_called limits again (called_by limits.devices name ws) name ws script (ps ++ qs) s) (StopOn (Unsupported name) s) (called_over again (called_by limits.devices name ws) name ws script ps s) (inl refl)

  fields_over : (again : Bool) (ws : List Text) (script : Script) (ps : List RunningFrame) (s : State) → IsOver qs (place_fields limits again ws script ps s) (place_fields limits again ws script (ps ++ qs) s)
  fields_over again ws = call_over again (call_in limits.shell ws)

  fitting_over : (ws : List Text) (n m : List Text → State → PlaceNext) (s : State) → IsOver qs (n ws s) (m ws s) → IsOver qs (place_fitting ws n s) (place_fitting ws m s)
  fitting_over ws n m s h = over_if qs (nat_le (size ws) most_bytes) (n ws s) (StopOn Size s) (m ws s) (StopOn Size s) h (inl refl)

  counted_over : (n m : State → PlaceNext) (s : State) → ((t : State) → IsOver qs (n t) (m t)) → IsOver qs (place_counted limits n s) (place_counted limits m s)
  counted_over n m s h =
      let t : State = record s { steps = suc s.steps } in
      over_if qs (nat_lt s.steps limits.step_bound) (n t) (StopOn CutSteps s) (m t) (StopOn CutSteps s) (h t) (inl refl)

  -- ---- a frame, with others below it

  read_over : (f : RunningFrame) (fs : List RunningFrame) (found : TextRead) (name : Text) (s : State) → IsOver qs (place_read limits.shell found name f fs s) (place_read limits.shell found name f (fs ++ qs) s)
  read_over f fs (Runs t) name s = inl refl
  read_over f fs Fails name s = inl refl
  read_over f fs Panics name s = inl refl
  read_over f fs Unread name s = inl refl

  sourced_over : (f : RunningFrame) (fs : List RunningFrame) (o : Option Text) (name : Text) (s : State) → IsOver qs (place_sourced limits.shell o name f fs s) (place_sourced limits.shell o name f (fs ++ qs) s)
  sourced_over f fs None name s = inl refl
  sourced_over f fs (Some text) name s = read_over f fs (sourced_in limits.shell text) name s

  question_over : (f : RunningFrame) (fs : List RunningFrame) (found : TextRead) (name : Text) (s : State) → IsOver qs (place_question limits.shell found name f fs s) (place_question limits.shell found name f (fs ++ qs) s)
  question_over f fs (Runs t) name s = inl refl
  question_over f fs Fails name s = inl refl
  question_over f fs Panics name s = inl refl
  question_over f fs Unread name s = inl refl

  one_over : (file : ℕ) (names : List Text) (f : RunningFrame) (fs : List RunningFrame) (s : State) → IsOver qs (place_one limits file names f fs s) (place_one limits file names f (fs ++ qs) s)
  one_over file [] f fs s = inl refl
  one_over file (name ∷ []) f fs s = sourced_over (at_file file 0 f) fs (file_in limits.devices name) name (set_status f.place.last s)
  one_over file (name ∷ other ∷ others) f fs s = question_over (at_file file 2 f) fs (started_in limits.shell (choice_text name)) name s

  module _ (f : RunningFrame) (fs : List RunningFrame) where
    text_over : (o : Option Text) (name : Text) (s : State) → IsOver qs (place_text limits.shell o name f fs s) (place_text limits.shell o name f (fs ++ qs) s)
    text_over None name s = inl refl
    text_over (Some text) name s = read_over f fs (started_in limits.shell text) name s

    name_over : (o : Option Text) (s : State) → IsOver qs (place_name limits.shell o f fs s) (place_name limits.shell o f (fs ++ qs) s)
    name_over None s = inl refl
    name_over (Some name) s = text_over (get s.memory.environment name) name s

    run_over : (s : State) → IsOver qs (run_move limits.shell f fs s) (run_move limits.shell f (fs ++ qs) s)
    run_over s =
        let o : Option Text = slice_get f.words f.place.turn in
        let x : PlaceNext = place_name limits.shell o f fs s in
        let y : PlaceNext = place_name limits.shell o f (fs ++ qs) s in
        let t : State = text_failed limits.shell s in
        over_if qs (nat_eq f.place.turn 0) x (elim (nat_eq s.memory.status 0) [ true ↦ x | false ↦ GoOn fs t ]) y (elim (nat_eq s.memory.status 0) [ true ↦ y | false ↦ GoOn (fs ++ qs) t ]) (name_over o s)
        (over_if qs (nat_eq s.memory.status 0) x (GoOn fs t) y (GoOn (fs ++ qs) t) (name_over o s) (inl refl))

    file_begins_over : (names : List Text) (s : State) → IsOver qs (file_begins limits names f fs s) (file_begins limits names f (fs ++ qs) s)
    file_begins_over names s =
        let at : ℕ = f.place.command in
        over_if qs (nat_eq s.memory.status 0) (place_one limits at names f fs s) (GoOn fs s) (place_one limits at names f (fs ++ qs) s) (GoOn (fs ++ qs) s) (one_over at names f fs s) (inl refl)

    file_asked_over : (names : List Text) (s : State) → IsOver qs (file_asked limits names f fs s) (file_asked limits names f (fs ++ qs) s)
    file_asked_over [] s = inl refl
    file_asked_over (name ∷ []) s = inl refl
    file_asked_over (name ∷ other ∷ others) s =
        let at : ℕ = f.place.command in
        over_if qs (nat_eq s.memory.status 0) (place_one limits at (name ∷ []) f fs s) (place_one limits (suc at) (other ∷ others) f fs s) (place_one limits at (name ∷ []) f (fs ++ qs) s) (place_one limits (suc at) (other ∷ others) f (fs ++ qs) s)
        (one_over at (name ∷ []) f fs s) (one_over (suc at) (other ∷ others) f fs s)

    file_ends_over : (s : State) → IsOver qs (file_ends limits fs s) (file_ends limits (fs ++ qs) s)
    file_ends_over s =
        let t : State = text_failed limits.shell s in
        over_if qs (nat_eq s.memory.status 0) (GoOn fs s) (GoOn fs t) (GoOn (fs ++ qs) s) (GoOn (fs ++ qs) t) (inl refl) (inl refl)

    file_moves_over : (s : State) → IsOver qs (file_move limits f fs s) (file_move limits f (fs ++ qs) s)
    file_moves_over s =
        let names : List Text = drop f.place.command f.words in
        over_if qs (nat_eq f.place.turn 0) (file_begins limits names f fs s) (elim (nat_eq f.place.turn 1) [ true ↦ file_ends limits fs s | false ↦ file_asked limits names f fs s ])
        (file_begins limits names f (fs ++ qs) s) (elim (nat_eq f.place.turn 1) [ true ↦ file_ends limits (fs ++ qs) s | false ↦ file_asked limits names f (fs ++ qs) s ]) (file_begins_over names s)
        (over_if qs (nat_eq f.place.turn 1) (file_ends limits fs s) (file_asked limits names f fs s) (file_ends limits (fs ++ qs) s) (file_asked limits names f (fs ++ qs) s) (file_ends_over s) (file_asked_over names s))

    value_over : (o : Option Text) (name : Text) (body : Script) (s : State) → IsOver qs (for_turn limits.shell o name body f fs s) (for_turn limits.shell o name body f (fs ++ qs) s)
    value_over None name body s = inl refl
    value_over (Some value) name body s = inl refl

    for_over : (o : Option Command) (s : State) → IsOver qs (for_move limits.shell o f fs s) (for_move limits.shell o f (fs ++ qs) s)
    for_over None s = inl refl
    for_over (Some (tree.Simple words)) s = inl refl
    for_over (Some (tree.Assign pairs)) s = inl refl
    for_over (Some (tree.If arms)) s = inl refl
    for_over (Some (tree.Loop until c b)) s = inl refl
    for_over (Some (tree.For name words body)) s = value_over (slice_get f.words f.place.turn) name body s

    values_over : (values : List Text) (s : State) → IsOver qs (for_begins values f fs s) (for_begins values f (fs ++ qs) s)
    values_over [] s = inl refl
    values_over (v ∷ vs) s = inl refl

    turns_over : (name : Text) (values : List Text) (s : State) → IsOver qs (place_turns limits.shell name values f fs s) (place_turns limits.shell name values f (fs ++ qs) s)
    turns_over name values s =
        over_if qs (follows_turns limits.shell name values) (for_begins values f fs s) (StopOn (Unsupported name) s) (for_begins values f (fs ++ qs) s) (StopOn (Unsupported name) s) (values_over values s) (inl refl)

    arms_over : (arms : Arms) (a : ℕ) (s : State) → IsOver qs (place_arms limits.shell arms a f fs s) (place_arms limits.shell arms a f (fs ++ qs) s)
    arms_over (tree.Arm c b more) a s = inl refl
    arms_over (tree.Else b) a s = inl refl
    arms_over tree.NoElse a s = inl refl

    condition_over : (arms : Arms) (a : ℕ) (s : State) → IsOver qs (condition_ends limits.shell arms a f fs s) (condition_ends limits.shell arms a f (fs ++ qs) s)
    condition_over (tree.Arm c b more) a s =
        let t : State = block_skipped limits.shell b s in
        over_if qs (nat_eq s.memory.status 0) (GoOn (block_frame b ∷ with_block limits.shell f ∷ fs) s) (place_arms limits.shell more (suc a) f fs t)
        (GoOn (block_frame b ∷ with_block limits.shell f ∷ fs ++ qs) s) (place_arms limits.shell more (suc a) f (fs ++ qs) t) (inl refl) (arms_over more (suc a) t)
    condition_over (tree.Else b) a s = inl refl
    condition_over tree.NoElse a s = inl refl

    loop_over : (until : Bool) (b : Script) (s : State) → IsOver qs (loop_ends limits.shell until b f fs s) (loop_ends limits.shell until b f (fs ++ qs) s)
    loop_over until b s =
        let t : State = set_status (status_of_loop limits.shell f.place.last s.memory.status) s in
        over_if qs (holds until s.memory.status) (GoOn (block_frame b ∷ in_turn 2 0 f ∷ fs) s) (GoOn (behind f ∷ fs) t) (GoOn (block_frame b ∷ in_turn 2 0 f ∷ fs ++ qs) s) (GoOn (behind f ∷ fs ++ qs) t) (inl refl) (inl refl)

    if_over : (last : ℕ) (arms : Arms) (a : ℕ) (s : State) → IsOver qs (if_moves limits.shell last arms a f fs s) (if_moves limits.shell last arms a f (fs ++ qs) s)
    if_over zero arms a s = condition_over (drop_arms a arms) a s
    if_over (suc last) arms a s = inl refl

    again_over : (last : ℕ) (c : Script) (s : State) → IsOver qs (loop_moves last c f fs s) (loop_moves last c f (fs ++ qs) s)
    again_over zero c s = inl refl
    again_over (suc last) c s = inl refl

    phase_over : (o : Option Command) (a : ℕ) (s : State) → IsOver qs (phase_move limits.shell o a f fs s) (phase_move limits.shell o a f (fs ++ qs) s)
    phase_over None a s = inl refl
    phase_over (Some (tree.Simple words)) a s = inl refl
    phase_over (Some (tree.Assign pairs)) a s = inl refl
    phase_over (Some (tree.If arms)) a s = if_over f.place.last arms a s
    phase_over (Some (tree.Loop until c b)) zero s = loop_over until b s
    phase_over (Some (tree.Loop until c b)) (suc a) s = again_over f.place.last c s
    phase_over (Some (tree.For name words body)) a s = inl refl

    words_over : (name : Text) (words : List tree.Word) (s : State) → IsOver qs (place_words limits.shell name words f fs s) (place_words limits.shell name words f (fs ++ qs) s)
    words_over name words s =
        let values : List Text = turns_in limits.shell (parameters_in s.memory) words in
        fitting_over values (λ found. place_turns limits.shell name found f fs) (λ found. place_turns limits.shell name found f (fs ++ qs)) s (turns_over name values s)

    command_over_others : (c : Command) (s : State) → IsOver qs (place_command limits c f fs s) (place_command limits c f (fs ++ qs) s)
    command_over_others (tree.Simple words) s =
        counted_over (λ t. place_fitting (fields_in limits.shell (parameters_in t.memory) words) (λ found. place_fields limits (reads_again words) found f.script (behind f ∷ fs)) t)
        (λ t. place_fitting (fields_in limits.shell (parameters_in t.memory) words) (λ found. place_fields limits (reads_again words) found f.script (behind f ∷ fs ++ qs)) t) s
        (λ t. fitting_over (fields_in limits.shell (parameters_in t.memory) words) (λ found. place_fields limits (reads_again words) found f.script (behind f ∷ fs))
        (λ found. place_fields limits (reads_again words) found f.script (behind f ∷ fs ++ qs)) t (fields_over (reads_again words) (fields_in limits.shell (parameters_in t.memory) words) f.script (behind f ∷ fs) t))
    command_over_others (tree.Assign pairs) s = counted_over (place_assign limits.shell pairs (behind f ∷ fs)) (place_assign limits.shell pairs (behind f ∷ fs ++ qs)) s (λ t. assign_over pairs (behind f ∷ fs) t)
    command_over_others (tree.If arms) s = arms_over arms 0 s
    command_over_others (tree.Loop until c b) s = inl refl
    command_over_others (tree.For name words body) s =
        counted_over (place_for limits.shell name words f fs) (place_for limits.shell name words f (fs ++ qs)) s (λ t. words_over name words (for_begun limits.shell t))

    skipped_over : (s : State) → IsOver qs (place_skipped limits f fs s) (place_skipped limits f (fs ++ qs) s)
    skipped_over s =
        let next : RunningFrame = moved_to (place (suc f.place.list) 0 0 0) f in
        over_if qs (skips_rest limits.shell) (GoOn (next ∷ fs) s) (GoOn (behind f ∷ fs) s) (GoOn (next ∷ fs ++ qs) s) (GoOn (behind f ∷ fs ++ qs) s) (inl refl) (inl refl)

    joined_over : (o : Option (Op × Command)) (s : State) → IsOver qs (place_joined limits o f fs s) (place_joined limits o f (fs ++ qs) s)
    joined_over None s = inl refl
    joined_over (Some pair) s =
        over_if qs (goes pair.0 s.memory.status) (place_command limits pair.1 f fs s) (place_skipped limits f fs s) (place_command limits pair.1 f (fs ++ qs) s) (place_skipped limits f (fs ++ qs) s) (command_over_others pair.1 s) (skipped_over s)

    begins_over : (list : AndOr) (n : ℕ) (s : State) → IsOver qs (place_begins limits list n f fs s) (place_begins limits list n f (fs ++ qs) s)
    begins_over (tree.Starts c joins) zero s = command_over_others c s
    begins_over (tree.Starts c joins) (suc j) s = joined_over (joined_at joins j) s

    turn_over : (list : AndOr) (turn : ℕ) (s : State) → IsOver qs (place_turn limits list turn f fs s) (place_turn limits list turn f (fs ++ qs) s)
    turn_over list zero s = begins_over list f.place.command s
    turn_over list (suc a) s = phase_over (command_in list f.place.command) a s

    list_over : (o : Option AndOr) (s : State) → IsOver qs (place_list limits o f fs s) (place_list limits o f (fs ++ qs) s)
    list_over None s = inl refl
    list_over (Some list) s = turn_over list f.place.turn s

    by_over : (kind : FrameKind) (s : State) → IsOver qs (place_by limits kind f fs s) (place_by limits kind f (fs ++ qs) s)
    by_over kinds.Text s = list_over (list_at f.script f.place.list) s
    by_over kinds.Block s = list_over (list_at f.script f.place.list) s
    by_over kinds.For s = for_over (command_at (list_at f.script f.place.list) f.place.command) s
    by_over kinds.Run s = run_over s
    by_over kinds.File s = file_moves_over s

    -- ---- and the command before the place, found again

    again_found_over : (o : Option (List tree.Word)) (s : State) → IsOver qs (fields_again limits o f fs s) (fields_again limits o f (fs ++ qs) s)
    again_found_over None s = inl refl
    again_found_over (Some words) s =
        let found : List Text = fields_in limits.shell (parameters_in s.memory) words in
        fitting_over found (λ ws. place_fields limits (reads_again words) ws f.script (f ∷ fs)) (λ ws. place_fields limits (reads_again words) ws f.script (f ∷ fs ++ qs)) s (fields_over (reads_again words) found f.script (f ∷ fs) s)

    pub move_over : (s : State) → IsOver qs (place_move limits (f ∷ fs) s) (place_move limits (f ∷ fs ++ qs) s)
    move_over s = by_over f.kind s

    pub found_over : (s : State) → IsOver qs (found_again limits (f ∷ fs) s) (found_again limits (f ∷ fs ++ qs) s)
    found_over s = again_found_over (words_in_front f) s
