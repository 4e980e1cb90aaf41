-- The machine ends. Each move begins a step, or comes closer to the next step or the end; the bound limits the steps.
use Rattle.std.proofs.Common.{ℕ, suc, Bool, true, false, List, [], ◌∷◌, length, Option, Some, None, refl, ◌≡◌, ◌<◌, ◌≤◌, ◌⊎◌, inl, inr, arith, ◌+◌, nat_lt, nat_le, nat_eq, ltb-true}
use Rattle.device_list.specs.declared.finish.BoardEnd.{BoardEnd}
use Rattle.hushlang.specs.Tree as tree
use Rattle.hushlang.specs.Tree.{Script, Joined, Command, Arms, IsProperCommand, AreProperArms, HoldsCommand}
use Rattle.hushlang.specs.Expansion.{size, most_bytes}
use Rattle.hushlang_shells.specs.TreesByShell.{TextRead, Runs, Fails, Panics, Unread, started_in, sourced_in}
use Rattle.rehearse_terms.specs.State.{Text, get, State, Variables}
use Rattle.rehearse_rules.specs.Parameters.{parameters_in}
use Rattle.device_list.specs.DeviceList.{file_in}
use Rattle.device_list.specs.Called.{Called, BuiltIn, NoCommand, Device, called_by, sets_in}
use Rattle.commands.specs.BuiltInCommands.{ChangesVariables, WritesText, RunsTexts, Tests, Exits}
use Rattle.rehearse_rules.specs.Needs.{effect_now}
use Rattle.rehearse_terms.specs.declared.shell.Shell.{Shell}
use Rattle.rehearse_terms.specs.declared.shell.Shell.TheVariants.{Profile, Old2023, Old2025, Modern2025}
use Rattle.rehearse_rules.specs.Execution.{choice_text, Limits, CutDevices, CutSteps, Size, set_status, status_when, goes, holds, Request, told, told_again, logged, set_environment, Unsupported, assign_local, request_of, test_request, text_failed, for_begun, block_skipped}
use Rattle.rehearse_terms.specs.Outcomes.{Success}
use Rattle.rehearse_machine.specs.Frames.{ChosenFile, begin_one, begin_question, Frame, Lists, Linked, IfCondition, LoopCondition, LoopBody, ForBody, RunNames, RunText, Next, Go, Ask, Stop, tell_or_ask, finish_next, leave, begin_assign, begin_for, begin_arms, begin_read, begin_text, begin_names, begin_exit, fitting, ask, begin_called, begin_fields, begin_command, move, begin_turns, begin_words, CommandEnd, leave_compound, behind_block, begin_simple_call, RunFile, FileText, with_file, leave_file, begin_sourced, begin_file}
use Rattle.rehearse_machine.specs.MoveCounts.{one_weight, command_depth, arms_depth, script_depth, block_weight, links_weight, arms_weight, read_weight, text_weight, file_weight, names_weight, weight}
use Rattle.rehearse_machine.specs.Meaning.{AreProperFrames}
use Rattle.rehearse_rules.specs.ByShell.{reads_again, leaves_in, status_of_exit, asks_in, truth_in, fields_in, turns_in, skips_rest, status_of_loop, follows, assigned_in, follows_turns, call_in}

module _ (limits : Limits) where
  -- no step was begun since t
  abbrev pub IsQuiet : State → Next → Type 0
  IsQuiet t (Go fs u) = u.steps ≡ t.steps
  IsQuiet t (Ask r fs u) = u.steps ≡ t.steps
  IsQuiet t (Stop ending u) = u.steps ≡ t.steps

  -- no step was begun, the environment is still the one of s, and less than n is left; or the end is reached
  abbrev pub IsCloser : State → ℕ → Next → Type 0
  IsCloser s n (Go fs t) = (t.steps ≡ s.steps) × (t.memory.environment ≡ s.memory.environment) × (weight limits s.memory.environment fs < n)
  IsCloser s n (Ask r fs t) = ⊥
  IsCloser s n (Stop ending u) = u.steps ≡ s.steps

  -- a step was begun, or the end is reached
  abbrev pub IsFurther : State → Next → Type 0
  IsFurther s (Go fs t) = (s.steps < t.steps) × (t.steps ≤ limits.step_bound)
  IsFurther s (Ask r fs t) = (s.steps < t.steps) × (t.steps ≤ limits.step_bound)
  IsFurther s (Stop ending u) = (s.steps ≤ u.steps) × (s.steps ≤ limits.step_bound → u.steps ≤ limits.step_bound)

  pub either-quiet : (t : State) (b : Bool) (x y : Next) → IsQuiet t x → IsQuiet t y → IsQuiet t (elim b [ true ↦ x | false ↦ y ])
  either-quiet t true x y h k = h
  either-quiet t false x y h k = k

  compound-quiet : (shell : Shell) (ps : List Frame) (outwards : Next) (s : State) → IsQuiet s outwards → IsQuiet s (leave_compound shell ps outwards s)
  compound-quiet Profile ps outwards s h = h
  compound-quiet Old2023 ps outwards s h = h
  compound-quiet Old2025 ps outwards s h = h
  compound-quiet Modern2025 ps outwards s h = refl

  file-quiet : (shell : Shell) (fs : List Frame) (s : State) → IsQuiet s (leave_file shell fs s)
  file-quiet Profile fs s = refl
  file-quiet Old2023 fs s = refl
  file-quiet Old2025 fs s = refl
  file-quiet Modern2025 fs s = refl

  leave-quiet : (shell : Shell) (fs : List Frame) (s : State) → IsQuiet s (leave shell fs s)
  leave-quiet shell [] s = refl
  leave-quiet shell (RunNames names ∷ fs) s = either-quiet s (nat_eq s.memory.status 0) (Go (RunNames names ∷ fs) s) (Go fs s) refl refl
  leave-quiet shell (RunText names ∷ fs) s = either-quiet s (nat_eq s.memory.status 0) (Go (RunText names ∷ fs) s) (Go fs s) refl refl
  leave-quiet shell (Lists ls ∷ fs) s = leave-quiet shell fs s
  leave-quiet shell (Linked ls ∷ fs) s = leave-quiet shell fs s
  leave-quiet shell (IfCondition b arms ∷ fs) s = compound-quiet shell (CommandEnd ∷ fs) (leave shell fs s) s (leave-quiet shell fs s)
  leave-quiet shell (LoopCondition until c b last ∷ fs) s = compound-quiet shell (CommandEnd ∷ fs) (leave shell fs s) s (leave-quiet shell fs s)
  leave-quiet shell (LoopBody until c b ∷ fs) s = compound-quiet shell (CommandEnd ∷ fs) (leave shell fs s) s (leave-quiet shell fs s)
  leave-quiet shell (ForBody name values body ∷ fs) s = compound-quiet shell fs (leave shell fs s) s (leave-quiet shell fs s)
  leave-quiet shell (RunFile name others before ∷ fs) s = leave-quiet shell fs s
  leave-quiet shell (ChosenFile name other others before ∷ fs) s = leave-quiet shell fs s
  leave-quiet shell (FileText ∷ fs) s = file-quiet shell fs s
  leave-quiet shell (CommandEnd ∷ fs) s = compound-quiet shell (CommandEnd ∷ fs) (leave shell fs s) s (leave-quiet shell fs s)

  pub assign-quiet : (pairs : List (Text × tree.Word)) (fs : List Frame) (t s : State) → s.steps ≡ t.steps → IsQuiet t (begin_assign limits.shell pairs fs s)
  assign-quiet [] fs t s e = e
  assign-quiet (pair ∷ pairs) fs t s e = let value : Text = assigned_in limits.shell (parameters_in s.memory) pair.1 in either-quiet t (nat_le (length value) most_bytes) (begin_assign limits.shell pairs fs (assign_local limits.shell pair.0 value s)) (Stop Size s) (assign-quiet pairs fs t (assign_local limits.shell pair.0 value s) e) e

  read-quiet : (found : TextRead) (name : Text) (names : List Text) (fs : List Frame) (s : State) → IsQuiet s (begin_read limits.shell found name names fs s)
  read-quiet (Runs tree.Empty) name names fs s = refl
  read-quiet (Runs (tree.Runs l ls)) name names fs s = refl
  read-quiet Fails name names fs s = refl
  read-quiet Panics name names fs s = refl
  read-quiet Unread name names fs s = refl

  text-quiet : (o : Option Text) (name : Text) (names : List Text) (fs : List Frame) (s : State) → IsQuiet s (begin_text limits.shell o name names fs s)
  text-quiet None name names fs s = refl
  text-quiet (Some text) name names fs s = read-quiet (started_in limits.shell text) name names fs s

  names-quiet : (names : List Text) (fs : List Frame) (s : State) → IsQuiet s (begin_names limits.shell names fs s)
  names-quiet [] fs s = refl
  names-quiet (name ∷ names) fs s = text-quiet (get s.memory.environment name) name names fs s

  finish-quiet : (ends : Option BoardEnd) (name : Text) (fs : List Frame) (t s : State) → s.steps ≡ t.steps → IsQuiet t (finish_next ends name fs s)
  finish-quiet (Some finish) name fs t s e = e
  finish-quiet None name fs t s e = e

  tell-quiet : (o : Option Bool) (r : Request) (fs : List Frame) (s : State) → IsQuiet s (tell_or_ask o r fs s)
  tell-quiet None r fs s = refl
  tell-quiet (Some true) r fs s = finish-quiet r.effect.ends r.name (with_file s.memory.status r.effect.runs fs) s (set_environment (sets_in r.words r.effect.sets) (logged Success (told_again r) s)) refl
  tell-quiet (Some false) r fs s = refl

  ask-quiet : (r : Request) (fs : List Frame) (s : State) → IsQuiet s (ask limits r fs s)
  ask-quiet r fs s = either-quiet s (nat_lt (length s.log) limits.device_bound) (tell_or_ask (told r s.log) r fs s) (Stop CutDevices s) (tell-quiet (told r s.log) r fs s) refl

  exit-quiet : (o : Option ℕ) (other : ℕ) (fs : List Frame) (s : State) → IsQuiet s (begin_exit limits.shell o other fs s)
  exit-quiet (Some n) other fs s = leave-quiet limits.shell fs (set_status n s)
  exit-quiet None other fs s = refl

  builtin-quiet : (again : Bool) (b : Called) (name : Text) (ws : List Text) (fs : List Frame) (s : State) → IsQuiet s (begin_called limits again b name ws fs s)
  builtin-quiet again (BuiltIn (ChangesVariables change)) name ws fs s = refl
  builtin-quiet again (BuiltIn RunsTexts) name [] fs s = refl
  builtin-quiet again (BuiltIn RunsTexts) name (w ∷ ws) fs s = refl
  builtin-quiet again (BuiltIn Tests) name ws fs s = either-quiet s (asks_in limits.shell ws) (ask limits (test_request limits name ws) fs s) (Go fs (set_status (status_when (truth_in limits.shell ws)) s)) (ask-quiet (test_request limits name ws) fs s) refl
  builtin-quiet again (BuiltIn (WritesText written)) name ws fs s = refl
  builtin-quiet again (BuiltIn Exits) name ws fs s = exit-quiet (leaves_in limits.shell again ws) (status_of_exit limits.shell ws) fs s
  builtin-quiet again (Device effect) name ws fs s = ask-quiet (request_of name ws (effect_now limits.room s effect)) fs s
  builtin-quiet again NoCommand name ws fs s = refl

  call-quiet : (again : Bool) (ws : List Text) (fs : List Frame) (s : State) → IsQuiet s (begin_simple_call limits again ws fs s)
  call-quiet again [] fs s = refl
  call-quiet again (name ∷ ws) fs s = either-quiet s (follows limits.shell limits.devices name ws) (begin_called limits again (called_by limits.devices name ws) name ws fs s) (Stop (Unsupported name) s) (builtin-quiet again (called_by limits.devices name ws) name ws fs s) refl

  pub fields-quiet : (again : Bool) (ws : List Text) (fs : List Frame) (s : State) → IsQuiet s (begin_fields limits again ws fs s)
  fields-quiet again ws = call-quiet again (call_in limits.shell ws)

  pub for-quiet : (name : Text) (values : List Text) (body : Script) (fs : List Frame) (s : State) → IsQuiet s (begin_for name values body fs s)
  for-quiet name [] body fs s = refl
  for-quiet name (f ∷ values) body fs s = refl

  values-quiet : (name : Text) (values : List Text) (body : Script) (fs : List Frame) (t s : State) → s.steps ≡ t.steps → IsQuiet t (begin_for name values body fs s)
  values-quiet name [] body fs t s e = e
  values-quiet name (f ∷ values) body fs t s e = e

  turns-quiet : (name : Text) (values : List Text) (body : Script) (fs : List Frame) (t s : State) → s.steps ≡ t.steps → IsQuiet t (begin_turns limits.shell name values body fs s)
  turns-quiet name values body fs t s e = either-quiet t (follows_turns limits.shell name values) (begin_for name values body fs s) (Stop (Unsupported name) s) (values-quiet name values body fs t s e) e

  pub words-quiet : (name : Text) (words : List tree.Word) (body : Script) (fs : List Frame) (t s : State) → s.steps ≡ t.steps → IsQuiet t (begin_words limits.shell name words body fs s)
  words-quiet name words body fs t s e =
      let found : List Text = turns_in limits.shell (parameters_in s.memory) words in
      either-quiet t (nat_le (size found) most_bytes) (begin_turns limits.shell name found body fs s) (Stop Size s) (turns-quiet name found body fs t s e) e

  -- the result of a step that was begun
  counted_further : (s : State) (next : Next) → s.steps < limits.step_bound → IsQuiet (record s { steps = suc s.steps }) next → IsFurther s next
  counted_further s (Go fs u) l q = (omega arith, omega arith)
  counted_further s (Ask r fs u) l q = (omega arith, omega arith)
  counted_further s (Stop ending u) l q = (omega arith, λ h. omega arith)

  counted_at : (b : Bool) (s : State) (next : Next) → nat_lt s.steps limits.step_bound ≡ b → IsQuiet (record s { steps = suc s.steps }) next → IsFurther s (elim b [ true ↦ next | false ↦ Stop CutSteps s ])
  counted_at true s next e q = counted_further s next (ltb-true s.steps limits.step_bound e) q
  counted_at false s next e q = (omega arith, λ h. h)

  -- a move begins a step, or comes closer to one
  abbrev pub Progress : State → ℕ → Next → Type 0
  Progress s n next = IsFurther s next ⊎ IsCloser s n next

  -- what is closer than n is closer than m
  closer_more : (s : State) (n m : ℕ) (next : Next) → n ≤ m → IsCloser s n next → IsCloser s m next
  closer_more s n m (Go fs t) l h = let k = h.2 in (h.0, h.1, omega arith)
  closer_more s n m (Ask r fs t) l h = h
  closer_more s n m (Stop ending u) l h = h

  pub progress_more : (s : State) (n m : ℕ) (next : Next) → n ≤ m → Progress s n next → Progress s m next
  progress_more s n m next l (inl h) = inl h
  progress_more s n m next l (inr h) = inr (closer_more s n m next l h)

  either_progress : (s : State) (n : ℕ) (b : Bool) (x y : Next) → Progress s n x → Progress s n y → Progress s n (elim b [ true ↦ x | false ↦ y ])
  either_progress s n true x y h k = h
  either_progress s n false x y h k = k

  -- a block of an `if`, with what is left to do after it
  block_lighter : (b : Script) (n m : ℕ) → n ≤ m → block_weight b n ≤ block_weight b m
  block_lighter tree.Empty n m l = omega arith
  block_lighter (tree.Runs l ls) n m h = omega arith

  behind_weight : (shell : Shell) (environment : Variables) (fs : List Frame) → weight limits environment (behind_block shell fs) ≤ suc (weight limits environment fs)
  behind_weight Profile environment fs = omega arith
  behind_weight Old2023 environment fs = omega arith
  behind_weight Old2025 environment fs = omega arith
  behind_weight Modern2025 environment fs = omega arith

  block_weight-is : (b : Script) (environment : Variables) (fs : List Frame) → weight limits environment (Lists b ∷ behind_block limits.shell fs) ≤ block_weight b (suc (weight limits environment fs))
  block_weight-is b environment fs = block_lighter b (weight limits environment (behind_block limits.shell fs)) (suc (weight limits environment fs)) (behind_weight limits.shell environment fs)

  arms_progress : (arms : Arms) (fs : List Frame) (s : State) → AreProperArms arms → Progress s (suc (arms_weight arms (weight limits s.memory.environment fs))) (begin_arms limits.shell arms fs s)
  arms_progress (tree.Arm tree.Empty b arms) fs s p = absurd p.0
  arms_progress (tree.Arm (tree.Runs l ls) b arms) fs s p = inr (refl, refl, omega arith)
  arms_progress (tree.Else b) fs s p = let l = block_weight-is b s.memory.environment fs in inr (refl, refl, omega arith)
  arms_progress tree.NoElse fs s p = inr (refl, refl, omega arith)

  if_progress : (arms : Arms) (fs : List Frame) (s : State) → IsProperCommand (tree.If arms) → Progress s (suc (arms_depth arms)) (begin_arms limits.shell arms fs s)
  if_progress (tree.Arm tree.Empty b arms) fs s p = absurd p.0
  if_progress (tree.Arm (tree.Runs l ls) b arms) fs s p = inr (refl, refl, omega arith)
  if_progress (tree.Else b) fs s p = absurd p
  if_progress tree.NoElse fs s p = absurd p

  loop_progress : (until : Bool) (c b : Script) (last : ℕ) (fs : List Frame) (s : State) → HoldsCommand c → Progress s (suc (script_depth c)) (Go (Lists c ∷ LoopCondition until c b last ∷ fs) s)
  loop_progress until tree.Empty b last fs s p = absurd p
  loop_progress until (tree.Runs l ls) b last fs s p = inr (refl, refl, omega arith)

  command_progress : (c : Command) (fs : List Frame) (s : State) → IsProperCommand c → Progress s (suc (command_depth c)) (begin_command limits c fs s)
  command_progress (tree.Simple words) fs s p = let t : State = record s { steps = suc s.steps } in inl (counted_at (nat_lt s.steps limits.step_bound) s (fitting (fields_in limits.shell (parameters_in t.memory) words) (λ f. begin_fields limits (reads_again words) f fs) t) refl (either-quiet t (nat_le (size (fields_in limits.shell (parameters_in t.memory) words)) most_bytes) (begin_fields limits (reads_again words) (fields_in limits.shell (parameters_in t.memory) words) fs t) (Stop Size t) (fields-quiet (reads_again words) (fields_in limits.shell (parameters_in t.memory) words) fs t) refl))
  command_progress (tree.Assign pairs) fs s p = let t : State = record s { steps = suc s.steps } in inl (counted_at (nat_lt s.steps limits.step_bound) s (begin_assign limits.shell pairs fs t) refl (assign-quiet pairs fs t t refl))
  command_progress (tree.If arms) fs s p = if_progress arms fs s p
  command_progress (tree.Loop until c b) fs s p = loop_progress until c b 0 fs s p.0
  command_progress (tree.For name words body) fs s p = let t : State = record s { steps = suc s.steps } in inl (counted_at (nat_lt s.steps limits.step_bound) s (begin_words limits.shell name words body fs (for_begun limits.shell t)) refl (words-quiet name words body fs t (for_begun limits.shell t) refl))

  read_progress : (found : TextRead) (name : Text) (names : List Text) (fs : List Frame) (s : State) → Progress s (suc (read_weight found (suc (names_weight limits.shell s.memory.environment names (weight limits s.memory.environment fs) + weight limits s.memory.environment fs)) (weight limits s.memory.environment fs))) (begin_read limits.shell found name names fs s)
  read_progress (Runs tree.Empty) name names fs s = inr (refl, refl, omega arith)
  read_progress (Runs (tree.Runs l ls)) name names fs s = inr (refl, refl, omega arith)
  read_progress Fails name names fs s = inr (refl, refl, omega arith)
  read_progress Panics name names fs s = inr refl
  read_progress Unread name names fs s = inr refl

  text_progress : (o : Option Text) (name : Text) (names : List Text) (fs : List Frame) (s : State) → Progress s (suc (text_weight limits.shell o (suc (names_weight limits.shell s.memory.environment names (weight limits s.memory.environment fs) + weight limits s.memory.environment fs)) (weight limits s.memory.environment fs))) (begin_text limits.shell o name names fs s)
  text_progress None name names fs s = inr (refl, refl, omega arith)
  text_progress (Some text) name names fs s = read_progress (started_in limits.shell text) name names fs s

  sourced_progress : (found : TextRead) (name : Text) (fs : List Frame) (s : State) → let m = weight limits s.memory.environment fs in Progress s (suc (read_weight found (suc m) m)) (begin_sourced limits.shell found name fs s)
  sourced_progress (Runs tree.Empty) name fs s = inr (refl, refl, omega arith)
  sourced_progress (Runs (tree.Runs l ls)) name fs s = inr (refl, refl, omega arith)
  sourced_progress Fails name fs s = inr (refl, refl, omega arith)
  sourced_progress Panics name fs s = inr refl
  sourced_progress Unread name fs s = inr refl

  file_progress : (o : Option Text) (name : Text) (fs : List Frame) (s : State) → Progress s (suc (file_weight limits.shell o (weight limits s.memory.environment fs))) (begin_file limits.shell o name fs s)
  file_progress None name fs s = inr (refl, refl, omega arith)
  file_progress (Some text) name fs s = sourced_progress (sourced_in limits.shell text) name fs s

  question_progress : (found : TextRead) (name : Text) (after : Frame) (fs : List Frame) (s : State) → let x = weight limits s.memory.environment (after ∷ fs) in Progress s (suc (read_weight found x x)) (begin_question limits.shell found name after fs s)
  question_progress (Runs tree.Empty) name after fs s = inr (refl, refl, omega arith)
  question_progress (Runs (tree.Runs l ls)) name after fs s = inr (refl, refl, omega arith)
  question_progress Fails name after fs s = inr (refl, refl, omega arith)
  question_progress Panics name after fs s = inr refl
  question_progress Unread name after fs s = inr refl

  one_progress : (name : Text) (others : List Text) (before : ℕ) (fs : List Frame) (s : State) → Progress s (suc (one_weight limits name others (weight limits s.memory.environment fs))) (begin_one limits name others before fs s)
  one_progress name [] before fs s = file_progress (file_in limits.devices name) name fs (set_status before s)
  one_progress name (other ∷ others) before fs s = question_progress (started_in limits.shell (choice_text name)) name (ChosenFile name other others before) fs s

  names_progress : (names : List Text) (fs : List Frame) (s : State) → Progress s (suc (names_weight limits.shell s.memory.environment names (weight limits s.memory.environment fs))) (begin_names limits.shell names fs s)
  names_progress [] fs s = inr (refl, refl, omega arith)
  names_progress (name ∷ names) fs s = text_progress (get s.memory.environment name) name names fs s

  looped : (c : Script) (until : Bool) (b : Script) (fs : List Frame) (s : State) → HoldsCommand c → Progress s (suc (block_weight c (weight limits s.memory.environment fs))) (Go (Lists c ∷ LoopCondition until c b s.memory.status ∷ fs) s)
  looped tree.Empty until b fs s p = absurd p
  looped (tree.Runs l ls) until b fs s p = inr (refl, refl, omega arith)

  -- what is left of a list weighs more than what comes after it
  links_heavy : (links : Joined) (m : ℕ) → m < links_weight links m
  links_heavy tree.Alone m = omega arith
  links_heavy (tree.Joins op c links) m = let more = links_heavy links m in omega arith

  -- THE MEASURE: each move begins a step, or leaves fewer moves to the next step
  pub move_progress : (fs : List Frame) (s : State) → AreProperFrames fs → Progress s (weight limits s.memory.environment fs) (move limits fs s)
  move_progress [] s p = inl (omega arith, λ h. h)
  move_progress (Lists tree.Empty ∷ fs) s p = inr (refl, refl, omega arith)
  move_progress (Lists (tree.Runs (tree.Starts c links) lists) ∷ fs) s p = command_progress c (Linked links ∷ Lists lists ∷ fs) s p.0.0.0
  move_progress (Linked tree.Alone ∷ fs) s p = inr (refl, refl, omega arith)
  move_progress (Linked (tree.Joins op c links) ∷ fs) s p =
      let m = weight limits s.memory.environment fs in
      either_progress s (suc (command_depth c + links_weight links m)) (goes op s.memory.status) (begin_command limits c (Linked links ∷ fs) s) (elim (skips_rest limits.shell) [ true ↦ Go fs s | false ↦ Go (Linked links ∷ fs) s ])
      (progress_more s (suc (command_depth c)) (suc (command_depth c + links_weight links m)) (begin_command limits c (Linked links ∷ fs) s) (omega arith) (command_progress c (Linked links ∷ fs) s p.0.0))
      (either_progress s (suc (command_depth c + links_weight links m)) (skips_rest limits.shell) (Go fs s) (Go (Linked links ∷ fs) s) (let more = links_heavy links m in inr (refl, refl, omega arith)) (inr (refl, refl, omega arith)))
  move_progress (IfCondition b arms ∷ fs) s p =
      let m = weight limits s.memory.environment fs in
      let x = block_weight b (suc m) in
      let l = block_weight-is b s.memory.environment fs in
      either_progress s (suc (x + arms_weight arms m)) (nat_eq s.memory.status 0) (Go (Lists b ∷ behind_block limits.shell fs) s) (begin_arms limits.shell arms fs (block_skipped limits.shell b s))
      (progress_more s (suc x) (suc (x + arms_weight arms m)) (Go (Lists b ∷ behind_block limits.shell fs) s) (omega arith) (inr (refl, refl, omega arith)))
      (progress_more s (suc (arms_weight arms m)) (suc (x + arms_weight arms m)) (begin_arms limits.shell arms fs (block_skipped limits.shell b s)) (omega arith) (arms_progress arms fs (block_skipped limits.shell b s) p.0.1))
  move_progress (LoopCondition until c b last ∷ fs) s p =
      let m = weight limits s.memory.environment fs in
      let x = block_weight b (suc (block_weight c m)) in
      either_progress s (suc (x + m)) (holds until s.memory.status) (Go (Lists b ∷ LoopBody until c b ∷ fs) s) (Go fs (set_status (status_of_loop limits.shell last s.memory.status) s))
      (inr (refl, refl, omega arith))
      (inr (refl, refl, omega arith))
  move_progress (LoopBody until c b ∷ fs) s p = looped c until b fs s p.0.0
  move_progress (ForBody name [] body ∷ fs) s p = inr (refl, refl, omega arith)
  move_progress (ForBody name (f ∷ values) body ∷ fs) s p = inr (refl, refl, omega arith)
  move_progress (RunNames names ∷ fs) s p = names_progress names fs s
  move_progress (RunText names ∷ fs) s p =
      let m = weight limits s.memory.environment fs in
      let x = names_weight limits.shell s.memory.environment names m in
      either_progress s (suc (x + m)) (nat_eq s.memory.status 0) (begin_names limits.shell names fs s) (Go fs (text_failed limits.shell s))
      (progress_more s (suc x) (suc (x + m)) (begin_names limits.shell names fs s) (omega arith) (names_progress names fs s))
      (inr (refl, refl, omega arith))
  move_progress (RunFile name others before ∷ fs) s p =
      let m = weight limits s.memory.environment fs in
      let x = one_weight limits name others m in
      either_progress s (suc (x + m)) (nat_eq s.memory.status 0) (begin_one limits name others before fs s) (Go fs s)
      (progress_more s (suc x) (suc (x + m)) (begin_one limits name others before fs s) (omega arith) (one_progress name others before fs s))
      (inr (refl, refl, omega arith))
  move_progress (ChosenFile name other others before ∷ fs) s p =
      let m = weight limits s.memory.environment fs in
      let x = file_weight limits.shell (file_in limits.devices name) m in
      let y = one_weight limits other others m in
      either_progress s (suc (x + y)) (nat_eq s.memory.status 0) (begin_one limits name [] before fs s) (begin_one limits other others before fs s)
      (progress_more s (suc x) (suc (x + y)) (begin_one limits name [] before fs s) (omega arith) (one_progress name [] before fs s))
      (progress_more s (suc y) (suc (x + y)) (begin_one limits other others before fs s) (omega arith) (one_progress other others before fs s))
  move_progress (FileText ∷ fs) s p =
      either_progress s (suc (weight limits s.memory.environment fs)) (nat_eq s.memory.status 0) (Go fs s) (Go fs (text_failed limits.shell s))
      (inr (refl, refl, omega arith))
      (inr (refl, refl, omega arith))
  move_progress (CommandEnd ∷ fs) s p = inr (refl, refl, omega arith)
