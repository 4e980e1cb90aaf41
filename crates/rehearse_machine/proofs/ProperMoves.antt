-- The machine's frames hold proper scripts, move after move.
use Rattle.std.proofs.Common.{ℕ, suc, Bool, true, false, List, [], ◌∷◌, length, Option, Some, None, refl, ◌≡◌, nat_lt, nat_le, nat_eq}
use Rattle.device_list.specs.declared.finish.BoardEnd.{BoardEnd}
use Rattle.hushlang.specs.Tree as tree
use Rattle.hushlang.specs.Tree.{Script, Command, Arms, IsProper, IsProperCommand, AreProperArms, HoldsCommand}
use Rattle.hushlang.specs.Expansion.{fields, size, most_bytes}
use Rattle.hushlang_shells.specs.TreesByShell.{TextRead, Runs, Fails, Panics, Unread, started_in, sourced_in}
use Rattle.rehearse_terms.specs.State.{Text, get, State}
use Rattle.rehearse_rules.specs.Parameters.{parameters_in}
use Rattle.device_list.specs.DeviceList.{file_in}
use Rattle.device_list.specs.Called.{Called, BuiltIn, NoCommand, Device, called_by, sets_in}
use Rattle.commands.specs.BuiltInCommands.{ChangesVariables, WritesText, RunsTexts, Tests, Exits}
use Rattle.rehearse_rules.specs.Needs.{effect_now}
use Rattle.rehearse_terms.specs.declared.shell.Shell.{Shell}
use Rattle.rehearse_terms.specs.declared.shell.Shell.TheVariants.{Profile, Old2023, Old2025, Modern2025}
use Rattle.rehearse_rules.specs.Execution.{choice_text, Limits, CutDevices, CutSteps, Size, set_status, status_when, goes, holds, Request, told, told_again, logged, set_environment, Unsupported, assign_local, request_of, test_request, text_failed, for_begun, block_skipped}
use Rattle.rehearse_terms.specs.Outcomes.{Success}
use Rattle.rehearse_machine.specs.Frames.{ChosenFile, begin_one, begin_question, Frame, Lists, Linked, IfCondition, LoopCondition, LoopBody, ForBody, RunNames, RunText, Next, Go, Stop, tell_or_ask, finish_next, leave, begin_assign, begin_for, begin_arms, begin_read, begin_text, begin_names, begin_exit, fitting, ask, begin_called, begin_fields, begin_command, move, begin_turns, begin_words, CommandEnd, leave_compound, behind_block, begin_simple_call, RunFile, FileText, with_file, leave_file, begin_sourced, begin_file}
use Rattle.hushlang_shells.proofs.TreeByShellLemmas.{started_texts_are_proper, sourced_texts_are_proper}
use Rattle.rehearse_machine.proofs.StepBoundLemmas.{block_proper}
use Rattle.rehearse_machine.specs.Meaning.{AreProperFrames, IsProperNext}
use Rattle.rehearse_rules.specs.ByShell.{reads_again, leaves_in, status_of_exit, asks_in, truth_in, fields_in, turns_in, skips_rest, status_of_loop, follows, assigned_in, follows_turns, call_in}

module _ (limits : Limits) where
  either : (b : Bool) (x y : Next) → IsProperNext x → IsProperNext y → IsProperNext (elim b [ true ↦ x | false ↦ y ])
  either true x y h k = h
  either false x y h k = k

  compound-proper : (shell : Shell) (ps : List Frame) (outwards : Next) (s : State) → AreProperFrames ps → IsProperNext outwards → IsProperNext (leave_compound shell ps outwards s)
  compound-proper Profile ps outwards s p h = h
  compound-proper Old2023 ps outwards s p h = h
  compound-proper Old2025 ps outwards s p h = h
  compound-proper Modern2025 ps outwards s p h = p

  file_left-proper : (shell : Shell) (fs : List Frame) (s : State) → AreProperFrames fs → IsProperNext (leave_file shell fs s)
  file_left-proper Profile fs s p = p
  file_left-proper Old2023 fs s p = p
  file_left-proper Old2025 fs s p = p
  file_left-proper Modern2025 fs s p = tt

  leave-proper : (shell : Shell) (fs : List Frame) (s : State) → AreProperFrames fs → IsProperNext (leave shell fs s)
  leave-proper shell [] s p = tt
  leave-proper shell (RunNames names ∷ fs) s p = either (nat_eq s.memory.status 0) (Go (RunNames names ∷ fs) s) (Go fs s) p p.1
  leave-proper shell (RunText names ∷ fs) s p = either (nat_eq s.memory.status 0) (Go (RunText names ∷ fs) s) (Go fs s) p p.1
  leave-proper shell (Lists ls ∷ fs) s p = leave-proper shell fs s p.1
  leave-proper shell (Linked ls ∷ fs) s p = leave-proper shell fs s p.1
  leave-proper shell (IfCondition b arms ∷ fs) s p = compound-proper shell (CommandEnd ∷ fs) (leave shell fs s) s (tt, p.1) (leave-proper shell fs s p.1)
  leave-proper shell (LoopCondition until c b last ∷ fs) s p = compound-proper shell (CommandEnd ∷ fs) (leave shell fs s) s (tt, p.1) (leave-proper shell fs s p.1)
  leave-proper shell (LoopBody until c b ∷ fs) s p = compound-proper shell (CommandEnd ∷ fs) (leave shell fs s) s (tt, p.1) (leave-proper shell fs s p.1)
  leave-proper shell (ForBody name fields body ∷ fs) s p = compound-proper shell fs (leave shell fs s) s p.1 (leave-proper shell fs s p.1)
  leave-proper shell (RunFile name others before ∷ fs) s p = leave-proper shell fs s p.1
  leave-proper shell (ChosenFile name other others before ∷ fs) s p = leave-proper shell fs s p.1
  leave-proper shell (FileText ∷ fs) s p = file_left-proper shell fs s p.1
  leave-proper shell (CommandEnd ∷ fs) s p = compound-proper shell (CommandEnd ∷ fs) (leave shell fs s) s p (leave-proper shell fs s p.1)

  behind-proper : (shell : Shell) (fs : List Frame) → AreProperFrames fs → AreProperFrames (behind_block shell fs)
  behind-proper Profile fs p = p
  behind-proper Old2023 fs p = p
  behind-proper Old2025 fs p = p
  behind-proper Modern2025 fs p = (tt, p)

  read-proper : (found : TextRead) (name : Text) (names : List Text) (fs : List Frame) (s : State) → ((tree : Script) → found ≡ Runs tree → IsProper tree) → AreProperFrames fs → IsProperNext (begin_read limits.shell found name names fs s)
  read-proper (Runs t) name names fs s r p = (r t refl, (tt, p))
  read-proper Fails name names fs s r p = p
  read-proper Panics name names fs s r p = tt
  read-proper Unread name names fs s r p = tt

  text-proper : (o : Option Text) (name : Text) (names : List Text) (fs : List Frame) (s : State) → AreProperFrames fs → IsProperNext (begin_text limits.shell o name names fs s)
  text-proper None name names fs s p = p
  text-proper (Some text) name names fs s p = read-proper (started_in limits.shell text) name names fs s (started_texts_are_proper limits.shell text) p

  sourced-proper : (found : TextRead) (name : Text) (fs : List Frame) (s : State) → ((tree : Script) → found ≡ Runs tree → IsProper tree) → AreProperFrames fs → IsProperNext (begin_sourced limits.shell found name fs s)
  sourced-proper (Runs t) name fs s r p = (r t refl, (tt, p))
  sourced-proper Fails name fs s r p = p
  sourced-proper Panics name fs s r p = tt
  sourced-proper Unread name fs s r p = tt

  begun-proper : (o : Option Text) (name : Text) (fs : List Frame) (s : State) → AreProperFrames fs → IsProperNext (begin_file limits.shell o name fs s)
  begun-proper None name fs s p = p
  begun-proper (Some text) name fs s p = sourced-proper (sourced_in limits.shell text) name fs s (sourced_texts_are_proper limits.shell text) p

  names-proper : (names : List Text) (fs : List Frame) (s : State) → AreProperFrames fs → IsProperNext (begin_names limits.shell names fs s)
  names-proper [] fs s p = p
  names-proper (name ∷ names) fs s p = text-proper (get s.memory.environment name) name names fs s p

  finish-proper : (ends : Option BoardEnd) (name : Text) (fs : List Frame) (s : State) → AreProperFrames fs → IsProperNext (finish_next ends name fs s)
  finish-proper (Some finish) name fs s p = tt
  finish-proper None name fs s p = p

  file-proper : (before : ℕ) (runs : List Text) (fs : List Frame) → AreProperFrames fs → AreProperFrames (with_file before runs fs)
  file-proper before [] fs p = p
  file-proper before (name ∷ others) fs p = (tt, p)

  tell-proper : (o : Option Bool) (request : Request) (fs : List Frame) (s : State) → AreProperFrames fs → IsProperNext (tell_or_ask o request fs s)
  tell-proper None request fs s p = p
  tell-proper (Some true) request fs s p = finish-proper request.effect.ends request.name (with_file s.memory.status request.effect.runs fs) (set_environment (sets_in request.words request.effect.sets) (logged Success (told_again request) s)) (file-proper s.memory.status request.effect.runs fs p)
  tell-proper (Some false) request fs s p = file-proper s.memory.status request.effect.runs fs p

  ask-proper : (request : Request) (fs : List Frame) (s : State) → AreProperFrames fs → IsProperNext (ask limits request fs s)
  ask-proper request fs s p = either (nat_lt (length s.log) limits.device_bound) (tell_or_ask (told request s.log) request fs s) (Stop CutDevices s) (tell-proper (told request s.log) request fs s p) tt

  exit-proper : (o : Option ℕ) (other : ℕ) (fs : List Frame) (s : State) → AreProperFrames fs → IsProperNext (begin_exit limits.shell o other fs s)
  exit-proper (Some n) other fs s p = leave-proper limits.shell fs (set_status n s) p
  exit-proper None other fs s p = p

  builtin-proper : (again : Bool) (b : Called) (name : Text) (ws : List Text) (fs : List Frame) (s : State) → AreProperFrames fs → IsProperNext (begin_called limits again b name ws fs s)
  builtin-proper again (BuiltIn (ChangesVariables change)) name ws fs s p = p
  builtin-proper again (BuiltIn RunsTexts) name [] fs s p = p
  builtin-proper again (BuiltIn RunsTexts) name (w ∷ ws) fs s p = (tt, p)
  builtin-proper again (BuiltIn Tests) name ws fs s p = either (asks_in limits.shell ws) (ask limits (test_request limits name ws) fs s) (Go fs (set_status (status_when (truth_in limits.shell ws)) s)) (ask-proper (test_request limits name ws) fs s p) p
  builtin-proper again (BuiltIn (WritesText written)) name ws fs s p = p
  builtin-proper again (BuiltIn Exits) name ws fs s p = exit-proper (leaves_in limits.shell again ws) (status_of_exit limits.shell ws) fs s p
  builtin-proper again (Device effect) name ws fs s p = ask-proper (request_of name ws (effect_now limits.room s effect)) fs s p
  builtin-proper again NoCommand name ws fs s p = tt

  call-proper : (again : Bool) (ws : List Text) (fs : List Frame) (s : State) → AreProperFrames fs → IsProperNext (begin_simple_call limits again ws fs s)
  call-proper again [] fs s p = p
  call-proper again (name ∷ ws) fs s p = either (follows limits.shell limits.devices name ws) (begin_called limits again (called_by limits.devices name ws) name ws fs s) (Stop (Unsupported name) s) (builtin-proper again (called_by limits.devices name ws) name ws fs s p) tt

  fields-proper : (again : Bool) (ws : List Text) (fs : List Frame) (s : State) → AreProperFrames fs → IsProperNext (begin_fields limits again ws fs s)
  fields-proper again ws = call-proper again (call_in limits.shell ws)

  for-proper : (name : Text) (values : List Text) (body : Script) (fs : List Frame) (s : State) → HoldsCommand body → AreProperFrames fs → IsProperNext (begin_for name values body fs s)
  for-proper name [] body fs s q p = p
  for-proper name (f ∷ values) body fs s q p = (block_proper body q, p)

  turns-proper : (name : Text) (values : List Text) (body : Script) (fs : List Frame) (s : State) → HoldsCommand body → AreProperFrames fs → IsProperNext (begin_turns limits.shell name values body fs s)
  turns-proper name values body fs s q p = either (follows_turns limits.shell name values) (begin_for name values body fs s) (Stop (Unsupported name) s) (for-proper name values body fs s q p) tt

  arms-proper : (arms : Arms) (fs : List Frame) (s : State) → AreProperArms arms → AreProperFrames fs → IsProperNext (begin_arms limits.shell arms fs s)
  arms-proper (tree.Arm c b arms) fs s q p = (block_proper c q.0, ((block_proper b q.1, q.2), p))
  arms-proper (tree.Else b) fs s q p = (block_proper b q, behind-proper limits.shell fs p)
  arms-proper tree.NoElse fs s q p = p

  if-proper : (arms : Arms) → IsProperCommand (tree.If arms) → AreProperArms arms
  if-proper (tree.Arm c b arms) q = q
  if-proper (tree.Else b) q = absurd q
  if-proper tree.NoElse q = absurd q

  assign-proper : (pairs : List (Text × tree.Word)) (fs : List Frame) (s : State) → AreProperFrames fs → IsProperNext (begin_assign limits.shell pairs fs s)
  assign-proper [] fs s p = p
  assign-proper (pair ∷ pairs) fs s p = let value : Text = assigned_in limits.shell (parameters_in s.memory) pair.1 in either (nat_le (length value) most_bytes) (begin_assign limits.shell pairs fs (assign_local limits.shell pair.0 value s)) (Stop Size s) (assign-proper pairs fs (assign_local limits.shell pair.0 value s) p) tt

  command-proper : (c : Command) (fs : List Frame) (s : State) → IsProperCommand c → AreProperFrames fs → IsProperNext (begin_command limits c fs s)
  command-proper (tree.Simple words) fs s q p = let t : State = record s { steps = suc s.steps } in either (nat_lt s.steps limits.step_bound) (fitting (fields_in limits.shell (parameters_in t.memory) words) (λ f. begin_fields limits (reads_again words) f fs) t) (Stop CutSteps s) (either (nat_le (size (fields_in limits.shell (parameters_in t.memory) words)) most_bytes) (begin_fields limits (reads_again words) (fields_in limits.shell (parameters_in t.memory) words) fs t) (Stop Size t) (fields-proper (reads_again words) (fields_in limits.shell (parameters_in t.memory) words) fs t p) tt) tt
  command-proper (tree.Assign pairs) fs s q p = let t : State = record s { steps = suc s.steps } in either (nat_lt s.steps limits.step_bound) (begin_assign limits.shell pairs fs t) (Stop CutSteps s) (assign-proper pairs fs t p) tt
  command-proper (tree.If arms) fs s q p = arms-proper arms fs s (if-proper arms q) p
  command-proper (tree.Loop until c b) fs s q p = (block_proper c q.0, (q, p))
  command-proper (tree.For name words body) fs s q p = let t : State = for_begun limits.shell (record s { steps = suc s.steps }) in let found : List Text = turns_in limits.shell (parameters_in t.memory) words in either (nat_lt s.steps limits.step_bound) (begin_words limits.shell name words body fs t) (Stop CutSteps s) (either (nat_le (size found) most_bytes) (begin_turns limits.shell name found body fs t) (Stop Size t) (turns-proper name found body fs t q p) tt) tt

  question-proper : (found : TextRead) → ((t : Script) → found ≡ Runs t → IsProper t) → (name : Text) (after : Frame) (fs : List Frame) (s : State) → AreProperFrames (after ∷ fs) → IsProperNext (begin_question limits.shell found name after fs s)
  question-proper (Runs t) proper name after fs s p = (proper t refl, p)
  question-proper Fails proper name after fs s p = p
  question-proper Panics proper name after fs s p = tt
  question-proper Unread proper name after fs s p = tt

  one-proper : (name : Text) (others : List Text) (before : ℕ) (fs : List Frame) (s : State) → AreProperFrames fs → IsProperNext (begin_one limits name others before fs s)
  one-proper name [] before fs s p = begun-proper (file_in limits.devices name) name fs (set_status before s) p
  one-proper name (other ∷ others) before fs s p =
      question-proper (started_in limits.shell (choice_text name)) (started_texts_are_proper limits.shell (choice_text name)) name (ChosenFile name other others before) fs s (tt, p)

  pub move-proper : (fs : List Frame) (s : State) → AreProperFrames fs → IsProperNext (move limits fs s)
  move-proper [] s p = tt
  move-proper (Lists tree.Empty ∷ fs) s p = p.1
  move-proper (Lists (tree.Runs (tree.Starts c links) lists) ∷ fs) s p = command-proper c (Linked links ∷ Lists lists ∷ fs) s p.0.0.0 (p.0.0.1, (p.0.1, p.1))
  move-proper (Linked tree.Alone ∷ fs) s p = p.1
  move-proper (Linked (tree.Joins op c links) ∷ fs) s p = either (goes op s.memory.status) (begin_command limits c (Linked links ∷ fs) s) (elim (skips_rest limits.shell) [ true ↦ Go fs s | false ↦ Go (Linked links ∷ fs) s ]) (command-proper c (Linked links ∷ fs) s p.0.0 (p.0.1, p.1)) (either (skips_rest limits.shell) (Go fs s) (Go (Linked links ∷ fs) s) p.1 (p.0.1, p.1))
  move-proper (IfCondition b arms ∷ fs) s p = either (nat_eq s.memory.status 0) (Go (Lists b ∷ behind_block limits.shell fs) s) (begin_arms limits.shell arms fs (block_skipped limits.shell b s)) (p.0.0, behind-proper limits.shell fs p.1) (arms-proper arms fs (block_skipped limits.shell b s) p.0.1 p.1)
  move-proper (LoopCondition until c b last ∷ fs) s p = either (holds until s.memory.status) (Go (Lists b ∷ LoopBody until c b ∷ fs) s) (Go fs (set_status (status_of_loop limits.shell last s.memory.status) s)) (block_proper b p.0.1, p) p.1
  move-proper (LoopBody until c b ∷ fs) s p = (block_proper c p.0.0, p)
  move-proper (ForBody name [] body ∷ fs) s p = p.1
  move-proper (ForBody name (f ∷ values) body ∷ fs) s p = (p.0, p)
  move-proper (RunNames names ∷ fs) s p = names-proper names fs s p.1
  move-proper (RunText names ∷ fs) s p = either (nat_eq s.memory.status 0) (begin_names limits.shell names fs s) (Go fs (text_failed limits.shell s)) (names-proper names fs s p.1) p.1
  move-proper (RunFile name others before ∷ fs) s p =
      either (nat_eq s.memory.status 0) (begin_one limits name others before fs s) (Go fs s) (one-proper name others before fs s p.1) p.1
  move-proper (ChosenFile name other others before ∷ fs) s p =
      either (nat_eq s.memory.status 0) (begin_one limits name [] before fs s) (begin_one limits other others before fs s) (one-proper name [] before fs s p.1) (one-proper other others before fs s p.1)
  move-proper (FileText ∷ fs) s p = either (nat_eq s.memory.status 0) (Go fs s) (Go fs (text_failed limits.shell s)) p.1 p.1
  move-proper (CommandEnd ∷ fs) s p = p.1
