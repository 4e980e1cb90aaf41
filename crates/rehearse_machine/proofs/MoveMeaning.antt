-- Each move of the machine keeps what is still to come.
use Rattle.std.proofs.Common.{ℕ, zero, suc, Bool, true, false, List, [], ◌∷◌, length, Option, Some, None, refl, sym, ap, ◌∙◌, ◌≡◌, ◌≤◌, arith, nat_lt, nat_le, nat_eq}
use Rattle.device_list.specs.declared.finish.BoardEnd.{BoardEnd}
use Rattle.hushlang.specs.Tree as tree
use Rattle.hushlang.specs.Tree.{Script, Command, Arms, IsProper, IsProperCommand, HoldsCommand}
use Rattle.hushlang.specs.Expansion.{fields, size, most_bytes}
use Rattle.hushlang_shells.specs.TreesByShell.{TextRead, Runs, Fails, Panics, Unread, started_in, sourced_in}
use Rattle.rehearse_terms.specs.Outcomes.{OutcomeWord, Success}
use Rattle.rehearse_terms.specs.State.{Text, get, State}
use Rattle.rehearse_rules.specs.Parameters.{parameters_in}
use Rattle.device_list.specs.DeviceList.{file_in}
use Rattle.device_list.specs.Called.{Called, BuiltIn, NoCommand, Device, called_by, sets_in}
use Rattle.commands.specs.BuiltInCommands.{ChangesVariables, WritesText, RunsTexts, Tests, Exits}
use Rattle.rehearse_rules.specs.Needs.{effect_now}
use Rattle.rehearse_rules.proofs.NeedsLemmas.{now_runs}
use Rattle.rehearse_rules.proofs.CompoundLemmas.{compound_normal, compound_ended, compound_dry, sourced_normal, sourced_ended, sourced_dry}
use Rattle.rehearse_rules.specs.Execution.{choice_text, run_one, chosen, Limits, Answer, Normal, Exit, Ended, Dry, Ending, End, CutDevices, CutSteps, Unknown, Size, go_on, set_status, status_when, goes, holds, begin, tell_or_take, told, told_again, logged, finish, set_environment, Finished, device, Request, text_end, run_read, run_all, command, simple, sized, assign, turns, for_each, Unsupported, Panic, assign_local, request_of, test_request, started_text, text_failed, turns_of, for_words, for_begun, block_skipped, compound, compound_left, simple_call, run_file, handed_over, sourced, sourced_text}
use Rattle.rehearse_machine.specs.Frames.{ChosenFile, begin_one, begin_question, Frame, Lists, Linked, IfCondition, LoopCondition, LoopBody, ForBody, RunNames, RunText, Next, Go, Stop, tell_or_ask, finish_next, leave, begin_assign, begin_for, begin_arms, begin_read, begin_text, begin_names, begin_exit, fitting, ask, begin_called, begin_fields, counted, begin_command, move, begin_turns, begin_words, CommandEnd, leave_compound, behind_block, begin_simple_call, RunFile, FileText, with_file, leave_file, begin_sourced, begin_file}
use Rattle.rehearse_machine.specs.Came.{Over, Wants}
use Rattle.rehearse_machine.specs.Meaning.{with, full, script, one, joined_of, arms_of, again, resume, continue, comes_to, AreProperFrames}
use Rattle.rehearse_rules.proofs.GrowingSteps.{Grew, AtLeast-track, Grew-block}
use Rattle.rehearse_rules.proofs.TakenOutcomes.{KeepsAll, after_condition, Keeps-script, Keeps-exec}
use Rattle.hushlang_shells.proofs.TreeByShellLemmas.{started_texts_are_proper, sourced_texts_are_proper}
use Rattle.rehearse_machine.proofs.BoundLemmas.{Cut-block}
use Rattle.rehearse_machine.proofs.StepBoundLemmas.{same_go_on, same_if, closed_exec, same_turns}
use Rattle.rehearse_terms.specs.declared.shell.Shell.{Shell}
use Rattle.rehearse_terms.specs.declared.shell.Shell.TheVariants.{Profile, Old2023, Old2025, Modern2025}
use Rattle.rehearse_rules.specs.ByShell.{unread, reads_again, leaves_in, status_of_exit, status_of_text, asks_in, truth_in, fields_in, turns_in, skips_rest, status_of_loop, follows, assigned_in, follows_turns, status_of_no_block, call_in}
use Rattle.rehearse_rules.proofs.TakenOutcomes.{skipped}

-- the status 1 of a text that is not run is that of its `run`
pub failed_with_1 : (shell : Shell) → status_of_text shell 1 ≡ 1
failed_with_1 Profile = refl
failed_with_1 Old2023 = refl
failed_with_1 Old2025 = refl
failed_with_1 Modern2025 = refl

module _ (limits : Limits) where
  -- an ending, and a command that found no outcome, pass every frame
  resume-ended : (f : Frame) (ending : Ending) (s : State) → resume limits f (Ended ending s) ≡ Ended ending s
  resume-ended (Lists lists) ending s = refl
  resume-ended (Linked links) ending s = refl
  resume-ended (IfCondition b arms) ending s = compound_ended limits.shell ending s
  resume-ended (LoopCondition until c b last) ending s = compound_ended limits.shell ending s
  resume-ended (LoopBody until c b) ending s = compound_ended limits.shell ending s
  resume-ended (ForBody name values body) ending s = compound_ended limits.shell ending s
  resume-ended (RunNames names) ending s = refl
  resume-ended (RunText names) ending s = refl
  resume-ended (RunFile name others before) ending s = refl
  resume-ended (ChosenFile name other others before) ending s = refl
  resume-ended FileText ending s = ap (λ (a : Answer). text_end limits.shell a Normal) (sourced_ended limits.shell ending s)
  resume-ended CommandEnd ending s = compound_ended limits.shell ending s

  resume-dry : (f : Frame) (s : State) → resume limits f (Dry s) ≡ Dry s
  resume-dry (Lists lists) s = refl
  resume-dry (Linked links) s = refl
  resume-dry (IfCondition b arms) s = compound_dry limits.shell s
  resume-dry (LoopCondition until c b last) s = compound_dry limits.shell s
  resume-dry (LoopBody until c b) s = compound_dry limits.shell s
  resume-dry (ForBody name values body) s = compound_dry limits.shell s
  resume-dry (RunNames names) s = refl
  resume-dry (RunText names) s = refl
  resume-dry (RunFile name others before) s = refl
  resume-dry (ChosenFile name other others before) s = refl
  resume-dry FileText s = ap (λ (a : Answer). text_end limits.shell a Normal) (sourced_dry limits.shell s)
  resume-dry CommandEnd s = compound_dry limits.shell s

  pub continue-ended : (fs : List Frame) (ending : Ending) (s : State) → continue limits fs (Ended ending s) ≡ Over ending s
  continue-ended [] ending s = refl
  continue-ended (f ∷ fs) ending s = ap (continue limits fs) (resume-ended f ending s) ∙ continue-ended fs ending s

  pub continue-dry : (fs : List Frame) (s : State) → continue limits fs (Dry s) ≡ Wants s
  continue-dry [] s = refl
  continue-dry (f ∷ fs) s = ap (continue limits fs) (resume-dry f s) ∙ continue-dry fs s

  module _ (w : OutcomeWord) where
    if-is : (b : Bool) (x y : Next) (fs : List Frame) (u v : Answer) → comes_to limits w x ≡ continue limits fs u → comes_to limits w y ≡ continue limits fs v → comes_to limits w (elim b [ true ↦ x | false ↦ y ]) ≡ continue limits fs (elim b [ true ↦ u | false ↦ v ])
    if-is true x y fs u v e k = e
    if-is false x y fs u v e k = k

    -- a `run` whose text has been left
    left-is : (b : Bool) (names : List Text) (fs : List Frame) (s : State) → nat_eq s.memory.status 0 ≡ b → comes_to limits w (elim b [ true ↦ Go (RunText names ∷ fs) s | false ↦ Go fs s ]) ≡ continue limits fs (elim b [ true ↦ run_all limits (full limits) names (with w s) | false ↦ Normal (with w s) ])
    left-is true names fs s e = ap (λ (x : Bool). continue limits fs (elim x [ true ↦ run_all limits (full limits) names (with w s) | false ↦ Normal (text_failed limits.shell (with w s)) ])) e
    left-is false names fs s e = refl

    -- a compound command that has ended
    over-is : (fs : List Frame) (s : State) → continue limits fs (Normal s) ≡ continue limits (CommandEnd ∷ fs) (Normal s)
    over-is fs s = ap (continue limits fs) (sym (compound_normal limits.shell s))

    -- `exit` in a compound command, and further outwards
    left_compound-is : (shell : Shell) → limits.shell ≡ shell → (ps fs : List Frame) (s : State) (outwards : Next) → ((t : State) → continue limits ps (Normal t) ≡ continue limits fs (Normal t)) → comes_to limits w outwards ≡ continue limits fs (Exit (with w s)) → comes_to limits w (leave_compound shell ps outwards s) ≡ continue limits fs (compound shell (Exit (with w s)))
    left_compound-is Profile own ps fs s outwards same e = e
    left_compound-is Old2023 own ps fs s outwards same e = e
    left_compound-is Old2025 own ps fs s outwards same e = e
    left_compound-is Modern2025 own ps fs s outwards same e = same (with w (compound_left s))

    -- a text that `exit` has left, and nothing follows in its command
    exit_ends : (s : State) (b : Bool) → elim b [ true ↦ Normal s | false ↦ Normal s ] ≡ Normal s
    exit_ends s true = refl
    exit_ends s false = refl

    left_file-is : (shell : Shell) → limits.shell ≡ shell → (fs : List Frame) (s : State) → comes_to limits w (leave_file shell fs s) ≡ continue limits fs (text_end limits.shell (sourced shell (Exit (with w s))) Normal)
    left_file-is Profile own fs s = ap (continue limits fs) (sym (exit_ends (with w s) (nat_eq s.memory.status 0)))
    left_file-is Old2023 own fs s = ap (continue limits fs) (sym (exit_ends (with w s) (nat_eq s.memory.status 0)))
    left_file-is Old2025 own fs s = ap (continue limits fs) (sym (exit_ends (with w s) (nat_eq s.memory.status 0)))
    left_file-is Modern2025 own fs s = sym (continue-ended fs (End s.memory.status) (with w s))

    leave-is : (fs : List Frame) (s : State) → comes_to limits w (leave limits.shell fs s) ≡ continue limits fs (Exit (with w s))
    leave-is [] s = refl
    leave-is (RunNames names ∷ fs) s = if-is (nat_eq s.memory.status 0) (Go (RunNames names ∷ fs) s) (Go fs s) fs (run_all limits (full limits) names (with w s)) (Normal (with w s)) refl refl
    leave-is (RunText names ∷ fs) s = left-is (nat_eq s.memory.status 0) names fs s refl
    leave-is (Lists ls ∷ fs) s = leave-is fs s
    leave-is (Linked ls ∷ fs) s = leave-is fs s
    leave-is (IfCondition b arms ∷ fs) s = left_compound-is limits.shell refl (CommandEnd ∷ fs) fs s (leave limits.shell fs s) (λ t. sym (over-is fs t)) (leave-is fs s)
    leave-is (LoopCondition until c b last ∷ fs) s = left_compound-is limits.shell refl (CommandEnd ∷ fs) fs s (leave limits.shell fs s) (λ t. sym (over-is fs t)) (leave-is fs s)
    leave-is (LoopBody until c b ∷ fs) s = left_compound-is limits.shell refl (CommandEnd ∷ fs) fs s (leave limits.shell fs s) (λ t. sym (over-is fs t)) (leave-is fs s)
    leave-is (ForBody name fields body ∷ fs) s = left_compound-is limits.shell refl fs fs s (leave limits.shell fs s) (λ t. refl) (leave-is fs s)
    leave-is (RunFile name others before ∷ fs) s = leave-is fs s
    leave-is (ChosenFile name other others before ∷ fs) s = leave-is fs s
    leave-is (FileText ∷ fs) s = left_file-is limits.shell refl fs s
    leave-is (CommandEnd ∷ fs) s = left_compound-is limits.shell refl (CommandEnd ∷ fs) fs s (leave limits.shell fs s) (λ t. sym (over-is fs t)) (leave-is fs s)

    assign-is : (pairs : List (Text × tree.Word)) (fs : List Frame) (s : State) → comes_to limits w (begin_assign limits.shell pairs fs s) ≡ continue limits fs (assign limits.shell pairs (with w s))
    assign-is [] fs s = refl
    assign-is (pair ∷ pairs) fs s =
        let value : Text = assigned_in limits.shell (parameters_in s.memory) pair.1 in
        if-is (nat_le (length value) most_bytes) (begin_assign limits.shell pairs fs (assign_local limits.shell pair.0 value s)) (Stop Size s) fs (assign limits.shell pairs (assign_local limits.shell pair.0 value (with w s))) (Ended Size (with w s)) (assign-is pairs fs (assign_local limits.shell pair.0 value s)) (sym (continue-ended fs Size (with w s)))

    read-is : (found : TextRead) (name : Text) (names : List Text) (fs : List Frame) (s : State) → ((t : Script) → found ≡ Runs t → IsProper t) → comes_to limits w (begin_read limits.shell found name names fs s) ≡ continue limits fs (text_end limits.shell (run_read limits (full limits) name found (with w s)) (run_all limits (full limits) names))
    read-is Fails name names fs s p = ap (λ (n : ℕ). continue limits fs (Normal (set_status n (with w s)))) (sym (failed_with_1 limits.shell))
    read-is Panics name names fs s p = sym (continue-ended fs (Panic name) (with w s))
    read-is Unread name names fs s p = sym (continue-ended fs (unread limits.shell name) (with w s))
    read-is (Runs tree.Empty) name names fs s p = ap (λ (a : Answer). continue limits fs (text_end limits.shell a (run_all limits (full limits) names))) (sym (closed_exec limits limits.step_bound tree.Empty tt (set_status 0 (with w s)) (omega arith)))
    read-is (Runs (tree.Runs l ls)) name names fs s p = ap (λ (a : Answer). continue limits fs (text_end limits.shell a (run_all limits (full limits) names))) (sym (closed_exec limits limits.step_bound (tree.Runs l ls) (p (tree.Runs l ls) refl) (with w s) (omega arith)))

    text-is : (o : Option Text) (name : Text) (names : List Text) (fs : List Frame) (s : State) → comes_to limits w (begin_text limits.shell o name names fs s) ≡ continue limits fs (elim o [ None ↦ Normal (set_status 1 (with w s)) | Some v ↦ text_end limits.shell (started_text limits (full limits) name v (with w s)) (run_all limits (full limits) names) ])
    text-is None name names fs s = refl
    text-is (Some v) name names fs s = read-is (started_in limits.shell v) name names fs s (started_texts_are_proper limits.shell v)

    -- the text of a file
    sourced-is : (found : TextRead) (name : Text) (fs : List Frame) (s : State) → ((t : Script) → found ≡ Runs t → IsProper t) → comes_to limits w (begin_sourced limits.shell found name fs s) ≡ continue limits fs (text_end limits.shell (sourced limits.shell (run_read limits (full limits) name found (with w s))) Normal)
    sourced-is Fails name fs s p =
        ap (λ (n : ℕ). continue limits fs (Normal (set_status n (with w s)))) (sym (failed_with_1 limits.shell))
        ∙ ap (λ (a : Answer). continue limits fs (text_end limits.shell a Normal)) (sym (sourced_normal limits.shell (set_status 1 (with w s))))
    sourced-is Panics name fs s p = sym (ap (λ (a : Answer). continue limits fs (text_end limits.shell a Normal)) (sourced_ended limits.shell (Panic name) (with w s)) ∙ continue-ended fs (Panic name) (with w s))
    sourced-is Unread name fs s p = sym (ap (λ (a : Answer). continue limits fs (text_end limits.shell a Normal)) (sourced_ended limits.shell (unread limits.shell name) (with w s)) ∙ continue-ended fs (unread limits.shell name) (with w s))
    sourced-is (Runs tree.Empty) name fs s p = ap (λ (a : Answer). continue limits fs (text_end limits.shell (sourced limits.shell a) Normal)) (sym (closed_exec limits limits.step_bound tree.Empty tt (set_status 0 (with w s)) (omega arith)))
    sourced-is (Runs (tree.Runs l ls)) name fs s p = ap (λ (a : Answer). continue limits fs (text_end limits.shell (sourced limits.shell a) Normal)) (sym (closed_exec limits limits.step_bound (tree.Runs l ls) (p (tree.Runs l ls) refl) (with w s) (omega arith)))

    file-is : (o : Option Text) (name : Text) (fs : List Frame) (s : State) → comes_to limits w (begin_file limits.shell o name fs s) ≡ continue limits fs (elim o [ None ↦ Normal (set_status 1 (with w s)) | Some v ↦ text_end limits.shell (sourced_text limits (full limits) name v (with w s)) Normal ])
    file-is None name fs s = refl
    file-is (Some v) name fs s = sourced-is (sourced_in limits.shell v) name fs s (sourced_texts_are_proper limits.shell v)

    names-is : (names : List Text) (fs : List Frame) (s : State) → comes_to limits w (begin_names limits.shell names fs s) ≡ continue limits fs (run_all limits (full limits) names (with w s))
    names-is [] fs s = refl
    names-is (name ∷ names) fs s = text-is (get s.memory.environment name) name names fs s

    finish-is : (ends : Option BoardEnd) (name : Text) (fs : List Frame) (s : State) → comes_to limits w (finish_next ends name fs s) ≡ continue limits fs (finish ends name (with w s))
    finish-is (Some finish) name fs s = sym (continue-ended fs (Finished finish name) (with w s))
    finish-is None name fs s = refl

    -- a command that is given its answer again, or one that asks
    tell-is : (o : Option Bool) (request : Request) (fs : List Frame) (s : State) → comes_to limits w (tell_or_ask o request fs s) ≡ continue limits (with_file s.memory.status request.effect.runs fs) (tell_or_take o request (with w s))
    tell-is None request fs s = refl
    tell-is (Some true) request fs s = finish-is request.effect.ends request.name (with_file s.memory.status request.effect.runs fs) (set_environment (sets_in request.words request.effect.sets) (logged Success (told_again request) s))
    tell-is (Some false) request fs s = refl

    ask-is : (request : Request) (fs : List Frame) (s : State) → comes_to limits w (ask limits request fs s) ≡ continue limits (with_file s.memory.status request.effect.runs fs) (device limits request (with w s))
    ask-is request fs s =
        let below : List Frame = with_file s.memory.status request.effect.runs fs in
        if-is (nat_lt (length s.log) limits.device_bound) (tell_or_ask (told request s.log) request fs s) (Stop CutDevices s) below (tell_or_take (told request s.log) request (with w s)) (Ended CutDevices (with w s)) (tell-is (told request s.log) request fs s) (sym (continue-ended below CutDevices (with w s)))

    -- what a command hands over to
    handed-is : (runs : List Text) (before : ℕ) (fs : List Frame) (a : Answer) → continue limits (with_file before runs fs) a ≡ continue limits fs (handed_over limits (full limits) runs before a)
    handed-is [] before fs a = refl
    handed-is (name ∷ others) before fs a = refl

    exit-is : (o : Option ℕ) (other : ℕ) (fs : List Frame) (s : State) → comes_to limits w (begin_exit limits.shell o other fs s) ≡ continue limits fs (elim o [ Some status ↦ Exit (set_status status (with w s)) | None ↦ Normal (set_status other (with w s)) ])
    exit-is (Some status) other fs s = leave-is fs (set_status status s)
    exit-is None other fs s = refl

    builtin-is : (again : Bool) (b : Called) (name : Text) (ws : List Text) (fs : List Frame) (s : State) → comes_to limits w (begin_called limits again b name ws fs s) ≡ continue limits fs (command limits again (full limits) b name ws (with w s))
    builtin-is again (BuiltIn RunsTexts) name [] fs s = refl
    builtin-is again (BuiltIn RunsTexts) name (v ∷ ws) fs s = refl
    builtin-is again (BuiltIn (ChangesVariables change)) name ws fs s = refl
    builtin-is again (BuiltIn Tests) name ws fs s = if-is (asks_in limits.shell ws) (ask limits (test_request limits name ws) fs s) (Go fs (set_status (status_when (truth_in limits.shell ws)) s)) fs (device limits (test_request limits name ws) (with w s)) (Normal (set_status (status_when (truth_in limits.shell ws)) (with w s))) (ask-is (test_request limits name ws) fs s) refl
    builtin-is again (BuiltIn (WritesText written)) name ws fs s = refl
    builtin-is again (BuiltIn Exits) name ws fs s = exit-is (leaves_in limits.shell again ws) (status_of_exit limits.shell ws) fs s
    builtin-is again (Device effect) name ws fs s =
        let request : Request = request_of name ws (effect_now limits.room s effect) in
        let a : Answer = device limits request (with w s) in
        ask-is request fs s ∙ handed-is request.effect.runs s.memory.status fs a
        ∙ ap (λ (runs : List Text). continue limits fs (handed_over limits (full limits) runs s.memory.status a)) (now_runs limits.room s effect)
    builtin-is again NoCommand name ws fs s = sym (continue-ended fs (Unknown name) (with w s))

    call-is : (again : Bool) (ws : List Text) (fs : List Frame) (s : State) → comes_to limits w (begin_simple_call limits again ws fs s) ≡ continue limits fs (simple_call limits again (full limits) ws (with w s))
    call-is again [] fs s = refl
    call-is again (name ∷ ws) fs s = if-is (follows limits.shell limits.devices name ws) (begin_called limits again (called_by limits.devices name ws) name ws fs s) (Stop (Unsupported name) s) fs (command limits again (full limits) (called_by limits.devices name ws) name ws (with w s)) (Ended (Unsupported name) (with w s)) (builtin-is again (called_by limits.devices name ws) name ws fs s) (sym (continue-ended fs (Unsupported name) (with w s)))

    fields-is : (again : Bool) (ws : List Text) (fs : List Frame) (s : State) → comes_to limits w (begin_fields limits again ws fs s) ≡ continue limits fs (simple limits again (full limits) ws (with w s))
    fields-is again ws = call-is again (call_in limits.shell ws)

    counted-is : (next : State → Next) (f : State → Answer) (fs : List Frame) (s : State) → ((t : State) → comes_to limits w (next t) ≡ continue limits fs (f (with w t))) → comes_to limits w (counted limits next s) ≡ continue limits fs (begin limits f (with w s))
    counted-is next f fs s e = if-is (nat_lt s.steps limits.step_bound) (next (record s { steps = suc s.steps })) (Stop CutSteps s) fs (f (with w (record s { steps = suc s.steps }))) (Ended CutSteps (with w s)) (e (record s { steps = suc s.steps })) (sym (continue-ended fs CutSteps (with w s)))

    fitting-is : (ws : List Text) (next : List Text → State → Next) (f : List Text → State → Answer) (fs : List Frame) (s : State) → comes_to limits w (next ws s) ≡ continue limits fs (f ws (with w s)) → comes_to limits w (fitting ws next s) ≡ continue limits fs (sized ws f (with w s))
    fitting-is ws next f fs s e = if-is (nat_le (size ws) most_bytes) (next ws s) (Stop Size s) fs (f ws (with w s)) (Ended Size (with w s)) e (sym (continue-ended fs Size (with w s)))

    for-is : (name : Text) (values : List Text) (body : Script) (fs : List Frame) (s : State) → comes_to limits w (begin_for name values body fs s) ≡ continue limits (CommandEnd ∷ fs) (for_each limits.shell name (script limits body) 0 values (with w s))
    for-is name [] body fs s = over-is fs (with w (set_status 0 s))
    for-is name (f ∷ values) body fs s = refl

    turns-is : (name : Text) (values : List Text) (body : Script) (fs : List Frame) (s : State) → comes_to limits w (begin_turns limits.shell name values body fs s) ≡ continue limits fs (turns_of limits.shell name (script limits body) values (with w s))
    turns-is name values body fs s = if-is (follows_turns limits.shell name values) (begin_for name values body fs s) (Stop (Unsupported name) s) fs (compound limits.shell (for_each limits.shell name (script limits body) 0 values (with w s))) (Ended (Unsupported name) (with w s)) (for-is name values body fs s) (sym (continue-ended fs (Unsupported name) (with w s)))

    words-is : (name : Text) (words : List tree.Word) (body : Script) (fs : List Frame) (s : State) → comes_to limits w (begin_words limits.shell name words body fs s) ≡ continue limits fs (for_words limits.shell name words (script limits body) (with w s))
    words-is name words body fs s = fitting-is (turns_in limits.shell (parameters_in s.memory) words) (λ found. begin_turns limits.shell name found body fs) (turns_of limits.shell name (script limits body)) fs s (turns-is name (turns_in limits.shell (parameters_in s.memory) words) body fs s)

    -- a block of an `if`
    block-is : (shell : Shell) → limits.shell ≡ shell → (fs : List Frame) (a : Answer) → continue limits (behind_block shell fs) a ≡ continue limits fs (compound shell a)
    block-is Profile own fs a = refl
    block-is Old2023 own fs a = refl
    block-is Old2025 own fs a = refl
    block-is Modern2025 own fs a = ap (λ (x : Shell). continue limits fs (compound x a)) own

    arms-is : (arms : Arms) (fs : List Frame) (s : State) → comes_to limits w (begin_arms limits.shell arms fs s) ≡ continue limits (CommandEnd ∷ fs) (arms_of limits arms (with w s))
    arms-is (tree.Arm c b arms) fs s = refl
    arms-is (tree.Else b) fs s = block-is limits.shell refl fs (script limits b (with w s))
    arms-is tree.NoElse fs s = over-is fs (with w (set_status (status_of_no_block limits.shell s.memory.status) s))

    -- a turn of a loop, with all the steps for the turns after it
    turn_more_at : (k : ℕ) → limits.step_bound ≡ k → (until : Bool) (c b : Script) → HoldsCommand c → HoldsCommand b → (last : ℕ) (s : State) → turns limits.shell k until (script limits c) (script limits b) last s ≡ go_on (script limits c s) (after_condition limits until (script limits b) (λ u. turns limits.shell k until (script limits c) (script limits b) u.memory.status u) last)
    turn_more_at zero e until c b p q last s = let cut : script limits c s ≡ Ended CutSteps s = Cut-block limits limits.step_bound (full limits) c p s (omega arith) in rw cut refl
    turn_more_at (suc k) e until c b p q last s =
        let bound : ℕ = limits.step_bound in
        let kept = Keeps-exec limits bound in
        let grown : (t : State) → Grew t.steps (script limits c t) = Grew-block limits bound (full limits) kept c p in
        let body : KeepsAll limits (script limits b) = Keeps-script limits bound (full limits) kept b in
        let cut : (t : State) → bound ≤ t.steps → script limits c t ≡ Ended CutSteps t = Cut-block limits bound (full limits) c p in
        let fewer : State → Answer = λ u. turns limits.shell k until (script limits c) (script limits b) u.memory.status u in
        let all : State → Answer = λ u. turns limits.shell (suc k) until (script limits c) (script limits b) u.memory.status u in
        same_go_on (suc s.steps) (script limits c s) (script limits c s) (after_condition limits until (script limits b) fewer last) (after_condition limits until (script limits b) all last) (grown s) refl
        (λ t g. same_if (holds until t.memory.status) (go_on (script limits b t) fewer) (Normal (set_status (status_of_loop limits.shell last t.memory.status) t)) (go_on (script limits b t) all) (Normal (set_status (status_of_loop limits.shell last t.memory.status) t))
        (same_go_on t.steps (script limits b t) (script limits b t) fewer all (AtLeast-track limits.device_bound t (script limits b t) (body t).0) refl
        (λ u r. same_turns limits bound bound (omega arith) (full limits) (full limits) kept (λ tree w x y. refl) k (suc k) (omega arith) until (script limits c) (script limits c) (script limits b) (script limits b) (λ x y. refl) (λ x y. refl) grown body cut u.memory.status u (omega arith) (omega arith)))
        refl)

    pub turn_more : (until : Bool) (c b : Script) → HoldsCommand c → HoldsCommand b → (last : ℕ) (s : State) → turns limits.shell limits.step_bound until (script limits c) (script limits b) last s ≡ go_on (script limits c s) (after_condition limits until (script limits b) (again limits until c b) last)
    turn_more until c b p q last s = turn_more_at limits.step_bound refl until c b p q last s

    command-is : (c : Command) → IsProperCommand c → (fs : List Frame) (s : State) → comes_to limits w (begin_command limits c fs s) ≡ continue limits fs (one limits c (with w s))
    command-is (tree.Simple words) p fs s = counted-is (λ t. fitting (fields_in limits.shell (parameters_in t.memory) words) (λ f. begin_fields limits (reads_again words) f fs) t) (λ t. sized (fields_in limits.shell (parameters_in t.memory) words) (simple limits (reads_again words) (full limits)) t) fs s (λ t. fitting-is (fields_in limits.shell (parameters_in t.memory) words) (λ f. begin_fields limits (reads_again words) f fs) (simple limits (reads_again words) (full limits)) fs t (fields-is (reads_again words) (fields_in limits.shell (parameters_in t.memory) words) fs t))
    command-is (tree.Assign pairs) p fs s = counted-is (begin_assign limits.shell pairs fs) (assign limits.shell pairs) fs s (λ t. assign-is pairs fs t)
    command-is (tree.If arms) p fs s = arms-is arms fs s
    command-is (tree.Loop until c b) p fs s = ap (continue limits (CommandEnd ∷ fs)) (sym (turn_more until c b p.0 p.1 0 (with w s)))
    command-is (tree.For name words body) p fs s = counted-is (λ t. begin_words limits.shell name words body fs (for_begun limits.shell t)) (λ t. for_words limits.shell name words (script limits body) (for_begun limits.shell t)) fs s (λ t. words-is name words body fs (for_begun limits.shell t))

    -- which of the files it is
    question-is : (found : TextRead) (name : Text) (after : Frame) (fs : List Frame) (s : State) → ((t : Script) → found ≡ Runs t → IsProper t) → comes_to limits w (begin_question limits.shell found name after fs s) ≡ continue limits (after ∷ fs) (run_read limits (full limits) name found (with w s))
    question-is (Runs tree.Empty) name after fs s p = ap (continue limits (after ∷ fs)) (sym (closed_exec limits limits.step_bound tree.Empty tt (set_status 0 (with w s)) (omega arith)))
    question-is (Runs (tree.Runs l ls)) name after fs s p = ap (continue limits (after ∷ fs)) (sym (closed_exec limits limits.step_bound (tree.Runs l ls) (p (tree.Runs l ls) refl) (with w s) (omega arith)))
    question-is Fails name after fs s p = refl
    question-is Panics name after fs s p = sym (continue-ended (after ∷ fs) (Panic name) (with w s))
    question-is Unread name after fs s p = sym (continue-ended (after ∷ fs) (unread limits.shell name) (with w s))

    one_file-is : (name : Text) (others : List Text) (before : ℕ) (fs : List Frame) (s : State) → comes_to limits w (begin_one limits name others before fs s) ≡ continue limits fs (run_one limits (full limits) name others before (with w s))
    one_file-is name [] before fs s = file-is (file_in limits.devices name) name fs (set_status before s)
    one_file-is name (other ∷ others) before fs s = question-is (started_in limits.shell (choice_text name)) name (ChosenFile name other others before) fs s (started_texts_are_proper limits.shell (choice_text name))

    -- a move keeps what is to come
    pub move-is : (fs : List Frame) → AreProperFrames fs → (s : State) → comes_to limits w (move limits fs s) ≡ continue limits fs (Normal (with w s))
    move-is [] p s = refl
    move-is (Lists tree.Empty ∷ fs) p s = refl
    move-is (Lists (tree.Runs (tree.Starts c links) lists) ∷ fs) p s = command-is c p.0.0.0 (Linked links ∷ Lists lists ∷ fs) s
    move-is (Linked tree.Alone ∷ fs) p s = refl
    move-is (Linked (tree.Joins op c links) ∷ fs) p s = if-is (goes op s.memory.status) (begin_command limits c (Linked links ∷ fs) s) (elim (skips_rest limits.shell) [ true ↦ Go fs s | false ↦ Go (Linked links ∷ fs) s ]) fs (go_on (one limits c (with w s)) (joined_of limits links)) (skipped limits (joined_of limits links) (with w s)) (command-is c p.0.0 (Linked links ∷ fs) s)
        (if-is (skips_rest limits.shell) (Go fs s) (Go (Linked links ∷ fs) s) fs (Normal (with w s)) (joined_of limits links (with w s)) refl refl)
    move-is (IfCondition b arms ∷ fs) p s = if-is (nat_eq s.memory.status 0) (Go (Lists b ∷ behind_block limits.shell fs) s) (begin_arms limits.shell arms fs (block_skipped limits.shell b s)) (CommandEnd ∷ fs) (script limits b (with w s)) (arms_of limits arms (block_skipped limits.shell b (with w s))) (block-is limits.shell refl fs (script limits b (with w s))) (arms-is arms fs (block_skipped limits.shell b s))
    move-is (LoopCondition until c b last ∷ fs) p s = if-is (holds until s.memory.status) (Go (Lists b ∷ LoopBody until c b ∷ fs) s) (Go fs (set_status (status_of_loop limits.shell last s.memory.status) s)) (CommandEnd ∷ fs) (go_on (script limits b (with w s)) (again limits until c b)) (Normal (set_status (status_of_loop limits.shell last s.memory.status) (with w s))) refl (over-is fs (with w (set_status (status_of_loop limits.shell last s.memory.status) s)))
    move-is (LoopBody until c b ∷ fs) p s = ap (continue limits (CommandEnd ∷ fs)) (sym (turn_more until c b p.0.0 p.0.1 s.memory.status (with w s)))
    move-is (ForBody name [] body ∷ fs) p s = over-is fs (with w s)
    move-is (ForBody name (f ∷ values) body ∷ fs) p s = refl
    move-is (RunNames names ∷ fs) p s = names-is names fs s
    move-is (RunText names ∷ fs) p s = if-is (nat_eq s.memory.status 0) (begin_names limits.shell names fs s) (Go fs (text_failed limits.shell s)) fs (run_all limits (full limits) names (with w s)) (Normal (text_failed limits.shell (with w s))) (names-is names fs s) refl
    move-is (RunFile name others before ∷ fs) p s =
        if-is (nat_eq s.memory.status 0) (begin_one limits name others before fs s) (Go fs s) fs (run_one limits (full limits) name others before (with w s)) (Normal (with w s)) (one_file-is name others before fs s) refl
    move-is (ChosenFile name other others before ∷ fs) p s =
        if-is (nat_eq s.memory.status 0) (begin_one limits name [] before fs s) (begin_one limits other others before fs s) fs (run_one limits (full limits) name [] before (with w s)) (run_one limits (full limits) other others before (with w s)) (one_file-is name [] before fs s) (one_file-is other others before fs s)
    move-is (FileText ∷ fs) p s =
        if-is (nat_eq s.memory.status 0) (Go fs s) (Go fs (text_failed limits.shell s)) fs (Normal (with w s)) (Normal (text_failed limits.shell (with w s))) refl refl
        ∙ ap (λ (a : Answer). continue limits fs (text_end limits.shell a Normal)) (sym (sourced_normal limits.shell (with w s)))
    move-is (CommandEnd ∷ fs) p s = over-is fs (with w s)
