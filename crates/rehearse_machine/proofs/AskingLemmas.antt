-- A device command that asks can be found again.
use Rattle.std.proofs.Common.{ℕ, zero, suc, Bool, true, false, List, [], ◌∷◌, length, drop, Option, Some, None, refl, ap, ◌∙◌, ◌≡◌, nat_lt, nat_le, nat_eq}
use Rattle.device_list.specs.declared.finish.BoardEnd.{BoardEnd}
use Rattle.hushlang.specs.Tree as tree
use Rattle.hushlang.specs.Tree.{Script, AndOr, Command, Arms}
use Rattle.hushlang.specs.Expansion.{size, most_bytes}
use Rattle.hushlang.specs.declared.tree.Op.{Op}
use Rattle.bootstore_state.specs.Moment.{RunningFrame}
use Rattle.bootstore_state.specs.declared.frame.FrameKind.{FrameKind}
use Rattle.bootstore_state.specs.declared.frame.FrameKind.TheVariants as kinds
use Rattle.std.specs.Prelude.{slice_get}
use Rattle.hushlang_shells.specs.TreesByShell.{TextRead, Runs, Fails, Panics, Unread, started_in, sourced_in}
use Rattle.rehearse_terms.specs.State.{Text, get, State}
use Rattle.rehearse_rules.specs.Parameters.{parameters_in}
use Rattle.device_list.specs.DeviceList.{file_in}
use Rattle.device_list.specs.Called.{Called, BuiltIn, NoCommand, Device, called_by, sets_in}
use Rattle.commands.specs.BuiltInCommands.{ChangesVariables, WritesText, RunsTexts, Tests, Exits}
use Rattle.rehearse_rules.specs.Needs.{effect_now}
use Rattle.rehearse_terms.specs.declared.shell.Shell.{Shell}
use Rattle.rehearse_terms.specs.declared.shell.Shell.TheVariants.{Profile, Old2023, Old2025, Modern2025}
use Rattle.rehearse_rules.specs.Execution.{choice_text, Limits, CutDevices, CutSteps, Size, set_status, status_when, goes, holds, Request, told, told_again, logged, set_environment, Unsupported, assign_local, request_of, test_request, text_failed, for_begun, block_skipped}
use Rattle.rehearse_terms.specs.Outcomes.{Success}
use Rattle.rehearse_machine.specs.Places.{at_file, place_question, place_one, file_asked, PlaceNext, GoOn, AskOn, StopOn, list_at, joined_at, second, command_in, command_at, drop_arms, block_frame, behind, in_turn, left, place_exit, place_finish, place_tell_or_ask, place_assign, place_read, place_text, place_name, run_move, for_turn, for_move, for_begins, place_arms, condition_ends, phase_move, place_fitting, place_ask, place_called, place_fields, place_counted, place_command, place_joined, place_begins, place_turn, place_list, place_by, place_move, place_skipped, moved_to, place, place_turns, place_for, left_compound, left_script, left_by, command_over, with_block, if_moves, loop_moves, place_simple_call, above_file, left_file, file_left, place_sourced, file_begins, file_ends, file_move}
use Rattle.rehearse_machine.specs.AskingCommand.{words_of, fields_again, found_again, AsksAgain}
use Rattle.rehearse_rules.specs.ByShell.{reads_again, leaves_in, status_of_exit, asks_in, truth_in, fields_in, turns_in, status_of_loop, skips_rest, follows, assigned_in, follows_turns, call_in}

-- a command that asks does so with these frames, in this state
abbrev AsksHere : List RunningFrame → State → PlaceNext → Type 0
AsksHere ps s (GoOn qs t) = Unit {0}
AsksHere ps s (AskOn request qs t) = (qs ≡ ps) × (t ≡ s)
AsksHere ps s (StopOn ending t) = Unit {0}

-- no command asks
abbrev NeverAsks : PlaceNext → Type 0
NeverAsks (GoOn qs t) = Unit {0}
NeverAsks (AskOn request qs t) = ⊥
NeverAsks (StopOn ending t) = Unit {0}

module _ (limits : Limits) where
  never_again : (next : PlaceNext) → NeverAsks next → AsksAgain limits next
  never_again (GoOn qs t) h = tt
  never_again (AskOn request qs t) h = absurd h
  never_again (StopOn ending t) h = tt

  found : (ps : List RunningFrame) (s : State) (next : PlaceNext) → found_again limits ps s ≡ next → AsksHere ps s next → AsksAgain limits next
  found ps s (GoOn qs t) e h = tt
  found ps s (AskOn request qs t) e h = ap (λ (rs : List RunningFrame). found_again limits rs t) h.0 ∙ ap (λ (u : State). found_again limits ps u) h.1 ∙ e
  found ps s (StopOn ending t) e h = tt

  either_here : (ps : List RunningFrame) (s : State) (b : Bool) (x y : PlaceNext) → AsksHere ps s x → AsksHere ps s y → AsksHere ps s (elim b [ true ↦ x | false ↦ y ])
  either_here ps s true x y h k = h
  either_here ps s false x y h k = k

  either_never : (b : Bool) (x y : PlaceNext) → NeverAsks x → NeverAsks y → NeverAsks (elim b [ true ↦ x | false ↦ y ])
  either_never true x y h k = h
  either_never false x y h k = k

  either_again : (b : Bool) (x y : PlaceNext) → AsksAgain limits x → AsksAgain limits y → AsksAgain limits (elim b [ true ↦ x | false ↦ y ])
  either_again true x y h k = h
  either_again false x y h k = k

  -- ---- the fields of a command

  compound_here : (shell : Shell) (ps rs : List RunningFrame) (outwards : PlaceNext) (s t : State) → AsksHere ps s outwards → AsksHere ps s (left_compound shell rs outwards t)
  compound_here Profile ps rs outwards s t h = h
  compound_here Old2023 ps rs outwards s t h = h
  compound_here Old2025 ps rs outwards s t h = h
  compound_here Modern2025 ps rs outwards s t h = tt

  script_here : (turn : ℕ) (ps : List RunningFrame) (q : RunningFrame) (qs : List RunningFrame) (outwards : PlaceNext) (s t : State) → AsksHere ps s outwards → AsksHere ps s (left_script limits.shell turn q qs outwards t)
  script_here zero ps q qs outwards s t h = h
  script_here (suc a) ps q qs outwards s t h = compound_here limits.shell ps (command_over q ∷ qs) outwards s t h

  file_here : (shell : Shell) (ps qs : List RunningFrame) (s t : State) → AsksHere ps s (file_left shell qs t)
  file_here Profile ps qs s t = tt
  file_here Old2023 ps qs s t = tt
  file_here Old2025 ps qs s t = tt
  file_here Modern2025 ps qs s t = tt

  kind_here : (kind : FrameKind) (ps : List RunningFrame) (q : RunningFrame) (qs : List RunningFrame) (outwards : PlaceNext) (s t : State) → AsksHere ps s outwards → AsksHere ps s (left_by limits.shell kind q qs outwards t)
  kind_here kinds.Text ps q qs outwards s t h = script_here q.place.turn ps q qs outwards s t h
  kind_here kinds.Block ps q qs outwards s t h = script_here q.place.turn ps q qs outwards s t h
  kind_here kinds.For ps q qs outwards s t h = compound_here limits.shell ps qs outwards s t h
  kind_here kinds.Run ps q qs outwards s t h = either_here ps s (nat_eq t.memory.status 0) (GoOn (q ∷ qs) t) (GoOn qs t) tt tt
  kind_here kinds.File ps q qs outwards s t h = by q.place.turn
    where
      by : (turn : ℕ) → AsksHere ps s (left_file limits.shell turn qs outwards t)
      by zero = h
      by (suc zero) = file_here limits.shell ps qs s t
      by (suc (suc k)) = h

  left_here : (ps qs : List RunningFrame) (s t : State) → AsksHere ps s (left limits.shell qs t)
  left_here ps [] s t = tt
  left_here ps (q ∷ qs) s t = kind_here q.kind ps q qs (left limits.shell qs t) s t (left_here ps qs s t)

  exit_here : (ps : List RunningFrame) (s : State) (o : Option ℕ) (other : ℕ) → AsksHere ps s (place_exit limits.shell o other ps s)
  exit_here ps s None other = tt
  exit_here ps s (Some status) other = left_here ps ps s (set_status status s)

  finish_here : (ps qs : List RunningFrame) (ends : Option BoardEnd) (name : Text) (s t : State) → AsksHere ps s (place_finish ends name qs t)
  finish_here ps qs (Some finish) name s t = tt
  finish_here ps qs None name s t = tt

  tell_here : (o : Option Bool) (r : Request) (ps : List RunningFrame) (s : State) → AsksHere ps s (place_tell_or_ask o r ps s)
  tell_here None r ps s = (refl, refl)
  tell_here (Some true) r ps s = finish_here ps (above_file s.memory.status r.effect.runs ps) r.effect.ends r.name s (set_environment (sets_in r.words r.effect.sets) (logged Success (told_again r) s))
  tell_here (Some false) r ps s = tt

  ask_here : (r : Request) (ps : List RunningFrame) (s : State) → AsksHere ps s (place_ask limits r ps s)
  ask_here r ps s = either_here ps s (nat_lt (length s.log) limits.device_bound) (place_tell_or_ask (told r s.log) r ps s) (StopOn CutDevices s) (tell_here (told r s.log) r ps s) tt

  builtin_here : (again : Bool) (b : Called) (name : Text) (ws : List Text) (script : Script) (ps : List RunningFrame) (s : State) → AsksHere ps s (place_called limits again b name ws script ps s)
  builtin_here again (BuiltIn (ChangesVariables change)) name ws script ps s = tt
  builtin_here again (BuiltIn RunsTexts) name [] script ps s = tt
  builtin_here again (BuiltIn RunsTexts) name (w ∷ ws) script ps s = tt
  builtin_here again (BuiltIn Tests) name ws script ps s =
      let r : Request = test_request limits name ws in
      either_here ps s (asks_in limits.shell ws) (place_ask limits r ps s) (GoOn ps (set_status (status_when (truth_in limits.shell ws)) s)) (ask_here r ps s) tt
  builtin_here again (BuiltIn (WritesText written)) name ws script ps s = tt
  builtin_here again (BuiltIn Exits) name ws script ps s = exit_here ps s (leaves_in limits.shell again ws) (status_of_exit limits.shell ws)
  builtin_here again (Device effect) name ws script ps s = ask_here (request_of name ws (effect_now limits.room s effect)) ps s
  builtin_here again NoCommand name ws script ps s = tt

  call_here : (again : Bool) (fs : List Text) (script : Script) (ps : List RunningFrame) (s : State) → AsksHere ps s (place_simple_call limits again fs script ps s)
  call_here again [] script ps s = tt
  call_here again (name ∷ ws) script ps s = either_here ps s (follows limits.shell limits.devices name ws) (place_called limits again (called_by limits.devices name ws) name ws script ps s) (StopOn (Unsupported name) s) (builtin_here again (called_by limits.devices name ws) name ws script ps s) tt

  fields_here : (again : Bool) (fs : List Text) (script : Script) (ps : List RunningFrame) (s : State) → AsksHere ps s (place_fields limits again fs script ps s)
  fields_here again fs = call_here again (call_in limits.shell fs)

  -- ---- what never asks

  assign_never : (pairs : List (Text × tree.Word)) (ps : List RunningFrame) (s : State) → NeverAsks (place_assign limits.shell pairs ps s)
  assign_never [] ps s = tt
  assign_never (pair ∷ pairs) ps s =
      let value : Text = assigned_in limits.shell (parameters_in s.memory) pair.1 in
      either_never (nat_le (length value) most_bytes) (place_assign limits.shell pairs ps (assign_local limits.shell pair.0 value s)) (StopOn Size s) (assign_never pairs ps (assign_local limits.shell pair.0 value s)) tt

  for_never : (fs : List Text) (f : RunningFrame) (ps : List RunningFrame) (s : State) → NeverAsks (for_begins fs f ps s)
  for_never [] f ps s = tt
  for_never (v ∷ vs) f ps s = tt

  turns_never : (name : Text) (fs : List Text) (f : RunningFrame) (ps : List RunningFrame) (s : State) → NeverAsks (place_turns limits.shell name fs f ps s)
  turns_never name fs f ps s = either_never (follows_turns limits.shell name fs) (for_begins fs f ps s) (StopOn (Unsupported name) s) (for_never fs f ps s) tt

  fitting_never : (fs : List Text) (next : List Text → State → PlaceNext) (s : State) → NeverAsks (next fs s) → NeverAsks (place_fitting fs next s)
  fitting_never fs next s h = either_never (nat_le (size fs) most_bytes) (next fs s) (StopOn Size s) h tt

  counted_never : (next : State → PlaceNext) (s : State) → NeverAsks (next (record s { steps = suc s.steps })) → NeverAsks (place_counted limits next s)
  counted_never next s h = either_never (nat_lt s.steps limits.step_bound) (next (record s { steps = suc s.steps })) (StopOn CutSteps s) h tt

  arms_never : (arms : Arms) (a : ℕ) (f : RunningFrame) (ps : List RunningFrame) (s : State) → NeverAsks (place_arms limits.shell arms a f ps s)
  arms_never (tree.Arm c b more) a f ps s = tt
  arms_never (tree.Else b) a f ps s = tt
  arms_never tree.NoElse a f ps s = tt

  condition_never : (arms : Arms) (a : ℕ) (f : RunningFrame) (ps : List RunningFrame) (s : State) → NeverAsks (condition_ends limits.shell arms a f ps s)
  condition_never (tree.Arm c b more) a f ps s = either_never (nat_eq s.memory.status 0) (GoOn (block_frame b ∷ with_block limits.shell f ∷ ps) s) (place_arms limits.shell more (suc a) f ps (block_skipped limits.shell b s)) tt (arms_never more (suc a) f ps (block_skipped limits.shell b s))
  condition_never (tree.Else b) a f ps s = tt
  condition_never tree.NoElse a f ps s = tt

  if_never : (last : ℕ) (arms : Arms) (a : ℕ) (f : RunningFrame) (ps : List RunningFrame) (s : State) → NeverAsks (if_moves limits.shell last arms a f ps s)
  if_never zero arms a f ps s = condition_never (drop_arms a arms) a f ps s
  if_never (suc last) arms a f ps s = tt

  loop_never : (last : ℕ) (c : Script) (f : RunningFrame) (ps : List RunningFrame) (s : State) → NeverAsks (loop_moves last c f ps s)
  loop_never zero c f ps s = tt
  loop_never (suc last) c f ps s = tt

  phase_never : (o : Option Command) (a : ℕ) (f : RunningFrame) (ps : List RunningFrame) (s : State) → NeverAsks (phase_move limits.shell o a f ps s)
  phase_never None a f ps s = tt
  phase_never (Some (tree.Simple words)) a f ps s = tt
  phase_never (Some (tree.Assign pairs)) a f ps s = tt
  phase_never (Some (tree.If arms)) a f ps s = if_never f.place.last arms a f ps s
  phase_never (Some (tree.Loop until c b)) zero f ps s = either_never (holds until s.memory.status) (GoOn (block_frame b ∷ in_turn 2 0 f ∷ ps) s) (GoOn (behind f ∷ ps) (set_status (status_of_loop limits.shell f.place.last s.memory.status) s)) tt tt
  phase_never (Some (tree.Loop until c b)) (suc a) f ps s = loop_never f.place.last c f ps s
  phase_never (Some (tree.For name words body)) a f ps s = tt

  turn_never : (o : Option Text) (name : Text) (body : Script) (f : RunningFrame) (ps : List RunningFrame) (s : State) → NeverAsks (for_turn limits.shell o name body f ps s)
  turn_never None name body f ps s = tt
  turn_never (Some value) name body f ps s = tt

  values_never : (o : Option Command) (f : RunningFrame) (ps : List RunningFrame) (s : State) → NeverAsks (for_move limits.shell o f ps s)
  values_never None f ps s = tt
  values_never (Some (tree.Simple words)) f ps s = tt
  values_never (Some (tree.Assign pairs)) f ps s = tt
  values_never (Some (tree.If arms)) f ps s = tt
  values_never (Some (tree.Loop until c b)) f ps s = tt
  values_never (Some (tree.For name words body)) f ps s = turn_never (slice_get f.words f.place.turn) name body f ps s

  read_never : (found : TextRead) (name : Text) (f : RunningFrame) (ps : List RunningFrame) (s : State) → NeverAsks (place_read limits.shell found name f ps s)
  read_never (Runs t) name f ps s = tt
  read_never Fails name f ps s = tt
  read_never Panics name f ps s = tt
  read_never Unread name f ps s = tt

  text_never : (o : Option Text) (name : Text) (f : RunningFrame) (ps : List RunningFrame) (s : State) → NeverAsks (place_text limits.shell o name f ps s)
  text_never None name f ps s = tt
  text_never (Some text) name f ps s = read_never (started_in limits.shell text) name f ps s

  name_never : (o : Option Text) (f : RunningFrame) (ps : List RunningFrame) (s : State) → NeverAsks (place_name limits.shell o f ps s)
  name_never None f ps s = tt
  name_never (Some name) f ps s = text_never (get s.memory.environment name) name f ps s

  run_never : (f : RunningFrame) (ps : List RunningFrame) (s : State) → NeverAsks (run_move limits.shell f ps s)
  run_never f ps s =
      let named : PlaceNext = place_name limits.shell (slice_get f.words f.place.turn) f ps s in
      let h : NeverAsks named = name_never (slice_get f.words f.place.turn) f ps s in
      either_never (nat_eq f.place.turn 0) named (elim (nat_eq s.memory.status 0) [ true ↦ named | false ↦ GoOn ps (text_failed limits.shell s) ]) h (either_never (nat_eq s.memory.status 0) named (GoOn ps (text_failed limits.shell s)) h tt)

  sourced_never : (o : Option Text) (name : Text) (f : RunningFrame) (ps : List RunningFrame) (s : State) → NeverAsks (place_sourced limits.shell o name f ps s)
  sourced_never None name f ps s = tt
  sourced_never (Some text) name f ps s = read_never (sourced_in limits.shell text) name f ps s

  question_never : (found : TextRead) (name : Text) (f : RunningFrame) (ps : List RunningFrame) (s : State) → NeverAsks (place_question limits.shell found name f ps s)
  question_never (Runs t) name f ps s = tt
  question_never Fails name f ps s = tt
  question_never Panics name f ps s = tt
  question_never Unread name f ps s = tt

  one_never : (file : ℕ) (names : List Text) (f : RunningFrame) (ps : List RunningFrame) (s : State) → NeverAsks (place_one limits file names f ps s)
  one_never file [] f ps s = tt
  one_never file (name ∷ []) f ps s = sourced_never (file_in limits.devices name) name (at_file file 0 f) ps (set_status f.place.last s)
  one_never file (name ∷ other ∷ others) f ps s = question_never (started_in limits.shell (choice_text name)) name (at_file file 2 f) ps s

  asked_never : (names : List Text) (f : RunningFrame) (ps : List RunningFrame) (s : State) → NeverAsks (file_asked limits names f ps s)
  asked_never [] f ps s = tt
  asked_never (name ∷ []) f ps s = tt
  asked_never (name ∷ other ∷ others) f ps s =
      either_never (nat_eq s.memory.status 0) (place_one limits f.place.command (name ∷ []) f ps s) (place_one limits (suc f.place.command) (other ∷ others) f ps s) (one_never f.place.command (name ∷ []) f ps s) (one_never (suc f.place.command) (other ∷ others) f ps s)

  file_never : (f : RunningFrame) (ps : List RunningFrame) (s : State) → NeverAsks (file_move limits f ps s)
  file_never f ps s =
      let names : List Text = drop f.place.command f.words in
      either_never (nat_eq f.place.turn 0) (file_begins limits names f ps s) (elim (nat_eq f.place.turn 1) [ true ↦ file_ends limits ps s | false ↦ file_asked limits names f ps s ])
      (either_never (nat_eq s.memory.status 0) (place_one limits f.place.command names f ps s) (GoOn ps s) (one_never f.place.command names f ps s) tt)
      (either_never (nat_eq f.place.turn 1) (file_ends limits ps s) (file_asked limits names f ps s) (either_never (nat_eq s.memory.status 0) (GoOn ps s) (GoOn ps (text_failed limits.shell s)) tt tt) (asked_never names f ps s))

  -- ---- a move

  module _ (f : RunningFrame) (fs : List RunningFrame) where
    simple_again : (words : List tree.Word) (s : State) → command_at (list_at f.script f.place.list) f.place.command ≡ Some (tree.Simple words) → AsksAgain limits (place_command limits (tree.Simple words) f fs s)
    simple_again words s e =
        let t : State = record s { steps = suc s.steps } in
        let found_fields : List Text = fields_in limits.shell (parameters_in t.memory) words in
        let ps : List RunningFrame = behind f ∷ fs in
        let next : PlaceNext = place_fields limits (reads_again words) found_fields f.script ps t in
        let whole : PlaceNext = place_fitting found_fields (λ fs'. place_fields limits (reads_again words) fs' f.script ps) t in
        let same : found_again limits ps t ≡ whole = ap (λ (o : Option Command). fields_again limits (words_of o) (behind f) fs t) e in
        let here : AsksHere ps t whole = either_here ps t (nat_le (size found_fields) most_bytes) next (StopOn Size t) (fields_here (reads_again words) found_fields f.script ps t) tt in
        either_again (nat_lt s.steps limits.step_bound) whole (StopOn CutSteps s) (found ps t whole same here) tt

    command_again : (c : Command) (s : State) → command_at (list_at f.script f.place.list) f.place.command ≡ Some c → AsksAgain limits (place_command limits c f fs s)
    command_again (tree.Simple words) s e = simple_again words s e
    command_again (tree.Assign pairs) s e = never_again (place_command limits (tree.Assign pairs) f fs s) (counted_never (place_assign limits.shell pairs (behind f ∷ fs)) s (assign_never pairs (behind f ∷ fs) (record s { steps = suc s.steps })))
    command_again (tree.If arms) s e = never_again (place_arms limits.shell arms 0 f fs s) (arms_never arms 0 f fs s)
    command_again (tree.Loop until c b) s e = tt
    command_again (tree.For name words body) s e =
        let t : State = for_begun limits.shell (record s { steps = suc s.steps }) in
        let found_fields : List Text = turns_in limits.shell (parameters_in t.memory) words in
        never_again (place_command limits (tree.For name words body) f fs s)
        (counted_never (place_for limits.shell name words f fs) s (fitting_never found_fields (λ fs'. place_turns limits.shell name fs' f fs) t (turns_never name found_fields f fs t)))

    joined_again : (o : Option (Op × Command)) (s : State) → ((pair : Op × Command) → o ≡ Some pair → command_at (list_at f.script f.place.list) f.place.command ≡ Some pair.1) → AsksAgain limits (place_joined limits o f fs s)
    joined_again None s e = tt
    joined_again (Some pair) s e = either_again (goes pair.0 s.memory.status) (place_command limits pair.1 f fs s) (place_skipped limits f fs s) (command_again pair.1 s (e pair refl))
        (either_again (skips_rest limits.shell) (GoOn (moved_to (place (suc f.place.list) 0 0 0) f ∷ fs) s) (GoOn (behind f ∷ fs) s) tt tt)

    begins_again : (list : AndOr) (n : ℕ) (s : State) → f.place.command ≡ n → list_at f.script f.place.list ≡ Some list → AsksAgain limits (place_begins limits list n f fs s)
    begins_again (tree.Starts c joins) zero s n e = command_again c s (ap (λ (o : Option AndOr). command_at o f.place.command) e ∙ ap (command_in (tree.Starts c joins)) n)
    begins_again (tree.Starts c joins) (suc j) s n e =
        joined_again (joined_at joins j) s (λ pair k. ap (λ (o : Option AndOr). command_at o f.place.command) e ∙ ap (command_in (tree.Starts c joins)) n ∙ ap second k)

    turn_again : (list : AndOr) (turn : ℕ) (s : State) → list_at f.script f.place.list ≡ Some list → AsksAgain limits (place_turn limits list turn f fs s)
    turn_again list zero s e = begins_again list f.place.command s refl e
    turn_again list (suc a) s e = never_again (phase_move limits.shell (command_in list f.place.command) a f fs s) (phase_never (command_in list f.place.command) a f fs s)

    list_again : (o : Option AndOr) (s : State) → list_at f.script f.place.list ≡ o → AsksAgain limits (place_list limits o f fs s)
    list_again None s e = tt
    list_again (Some list) s e = turn_again list f.place.turn s e

    by_again : (kind : FrameKind) (s : State) → AsksAgain limits (place_by limits kind f fs s)
    by_again kinds.Text s = list_again (list_at f.script f.place.list) s refl
    by_again kinds.Block s = list_again (list_at f.script f.place.list) s refl
    by_again kinds.For s = never_again (place_by limits kinds.For f fs s) (values_never (command_at (list_at f.script f.place.list) f.place.command) f fs s)
    by_again kinds.Run s = never_again (run_move limits.shell f fs s) (run_never f fs s)
    by_again kinds.File s = never_again (file_move limits f fs s) (file_never f fs s)

  -- a move to a command that asks leaves the frames in which it is found again
  pub asks_again : (ps : List RunningFrame) (s : State) → AsksAgain limits (place_move limits ps s)
  asks_again [] s = tt
  asks_again (f ∷ fs) s = by_again f fs f.kind s
