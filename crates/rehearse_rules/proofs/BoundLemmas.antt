-- No run goes past a bound, and none is cut before it.
use Rattle.std.proofs.Common.{ℕ, zero, suc, Bool, true, false, List, [], ◌∷◌, length, Option, Some, None, refl, subst, ◌≡◌, ◌<◌, ◌≤◌, length-append, arith, ◌+◌, nat_lt, nat_le, nat_eq, ltb-true, ltb-false}
use Rattle.device_list.specs.declared.finish.BoardEnd.{BoardEnd}
use Rattle.hushlang.specs.Tree as tree
use Rattle.hushlang.specs.Tree.{Script, AndOr, Joined, Command, Arms, IsProper, IsProperList, IsProperJoined, IsProperCommand, HasArm, AreProperArms, HoldsCommand}
use Rattle.hushlang.specs.Expansion.{size, most_bytes}
use Rattle.rehearse_terms.specs.Outcomes.{OutcomeWord, Outcome, Success, Failure}
use Rattle.hushlang_shells.specs.TreesByShell.{TextRead, Runs, Fails, Panics, Unread, first_in, started_in, sourced_in}
use Rattle.rehearse_terms.specs.State.{Text, get, State, start}
use Rattle.rehearse_rules.specs.Parameters.{parameters_in}
use Rattle.device_list.specs.DeviceList.{file_in}
use Rattle.device_list.specs.Called.{Called, BuiltIn, Device, NoCommand, called_by, sets_in}
use Rattle.commands.specs.BuiltInCommands.{ChangesVariables, WritesText, RunsTexts, Tests, Exits}
use Rattle.rehearse_rules.specs.ByShell.{call_in, unread, leaves_in, status_of_exit, asks_in, truth_in, fields_in, turns_in, skips_rest, status_of_loop, follows, assigned_in, reads_again, follows_turns}
use Rattle.rehearse_rules.specs.Execution.{Limits, Answer, Normal, Exit, Ended, Dry, Ending, CutDevices, CutSteps, Size, go_on, set_status, status_when, goes, holds, begin, take_outcome, with_outcome, outcome_when, told, told_again, tell_or_take, device, Request, logged, set_environment, finish, text_end, run_read, run_text, run_all, command, simple_call, simple, sized, assign, turns, begin_turn, for_each, exec_script, exec_list, exec_joined, exec_command, exec_arms, exec, Unsupported, assign_local, request_of, test_request, started_text, text_failed, turns_of, for_words, for_begun, block_skipped, compound, compound_end, run_file, choice_text, chosen, run_one, file_follows, handed_over, sourced, left_to_prompt, sourced_text}
use Rattle.rehearse_rules.specs.Needs.{effect_now}
use Rattle.rehearse_rules.specs.Runs.{Task, run_on, state_of, steps}
use Rattle.hushlang_shells.proofs.TreeByShellLemmas.{first_texts_are_proper, started_texts_are_proper, sourced_texts_are_proper}
use Rattle.rehearse_terms.specs.declared.shell.Shell.{Shell}
use Rattle.rehearse_terms.specs.declared.shell.Shell.TheVariants.{Profile, Old2023, Old2025, Modern2025}
use Rattle.rehearse_rules.proofs.GrowingSteps.{Grew, Grew-block}
use Rattle.rehearse_rules.proofs.TakenOutcomes.{skipped, Track, KeepsAll, Keeps-started, Keeps-sourced_text, Keeps-script, Keeps-list, Keeps-one, Keeps-exec, Keeps-ended, Keeps-device}

-- ---- no run goes past a bound

module _ (limits : Limits) where
  abbrev IsWithin : State → Type 0
  IsWithin s = (s.steps ≤ limits.step_bound) × (length s.log ≤ limits.device_bound)

  abbrev AtBound : Ending → State → Type 0
  AtBound CutSteps s = s.steps ≡ limits.step_bound
  AtBound CutDevices s = length s.log ≡ limits.device_bound
  AtBound other s = Unit {0}

  abbrev Ends : Answer → Type 0
  Ends (Normal t) = IsWithin t
  Ends (Exit t) = IsWithin t
  Ends (Ended ending t) = IsWithin t × AtBound ending t
  Ends (Dry t) = IsWithin t

  -- what is left of the bound is at most n
  abbrev Reaches : ℕ → State → Type 0
  Reaches n s = IsWithin s × (limits.step_bound ≤ n + s.steps)

  abbrev EndsAll : ℕ → (State → Answer) → Type 0
  EndsAll n f = (s : State) → Reaches n s → Ends (f s)

  Ends-if : (b : Bool) (x y : Answer) → (b ≡ true → Ends x) → (b ≡ false → Ends y) → Ends (elim b [ true ↦ x | false ↦ y ])
  Ends-if true x y h k = h refl
  Ends-if false x y h k = k refl

  -- what follows is done at a state with no fewer steps
  Ends-go_on : (s : State) (a : Answer) (g : State → Answer) → Track limits.device_bound s a → Ends a → ((t : State) → IsWithin t → s.steps ≤ t.steps → Ends (g t)) → Ends (go_on a g)
  Ends-go_on s (Normal t) g k h j = j t h k.steps
  Ends-go_on s (Exit t) g k h j = h
  Ends-go_on s (Ended ending t) g k h j = h
  Ends-go_on s (Dry t) g k h j = h

  Ends-text_end : (s : State) (a : Answer) (g : State → Answer) → Track limits.device_bound s a → Ends a → ((t : State) → IsWithin t → s.steps ≤ t.steps → Ends (g t)) → Ends (text_end limits.shell a g)
  Ends-text_end s (Normal t) g k h j = Ends-if (nat_eq t.memory.status 0) (g t) (Normal (text_failed limits.shell t)) (λ e. j t h k.steps) (λ e. h)
  Ends-text_end s (Exit t) g k h j = Ends-if (nat_eq t.memory.status 0) (g t) (Normal t) (λ e. j t h k.steps) (λ e. h)
  Ends-text_end s (Ended ending t) g k h j = h
  Ends-text_end s (Dry t) g k h j = h

  Ends-end : (a : Answer) → Ends a → Ends (compound_end a)
  Ends-end (Normal t) h = h
  Ends-end (Exit t) h = h
  Ends-end (Ended ending t) h = h
  Ends-end (Dry t) h = h

  Ends-compound : (shell : Shell) (a : Answer) → Ends a → Ends (compound shell a)
  Ends-compound Profile a h = h
  Ends-compound Old2023 a h = h
  Ends-compound Old2025 a h = h
  Ends-compound Modern2025 a h = Ends-end a h

  Ends-prompt : (a : Answer) → Ends a → Ends (left_to_prompt a)
  Ends-prompt (Normal t) h = h
  Ends-prompt (Exit t) h = (h, tt)
  Ends-prompt (Ended ending t) h = h
  Ends-prompt (Dry t) h = h

  Ends-sourced : (shell : Shell) (a : Answer) → Ends a → Ends (sourced shell a)
  Ends-sourced Profile a h = h
  Ends-sourced Old2023 a h = h
  Ends-sourced Old2025 a h = h
  Ends-sourced Modern2025 a h = Ends-prompt a h

  -- a step is begun below the bound, or the bound is reached
  Ends-begin : (n : ℕ) (f : State → Answer) → ((t : State) → IsWithin t → limits.step_bound < n + t.steps → Ends (f t)) → EndsAll n (begin limits f)
  Ends-begin n f h s r = Ends-if (nat_lt s.steps limits.step_bound) (f (record s { steps = suc s.steps })) (Ended CutSteps s) (λ e. let l = ltb-true s.steps limits.step_bound e in let b = r.1 in h (record s { steps = suc s.steps }) (omega arith, r.0.1) (omega arith)) (λ e. let l = ltb-false s.steps limits.step_bound e in let a = r.0.0 in (r.0, omega arith))

  finish-ends : (b : Option BoardEnd) (name : Text) (t : State) → IsWithin t → Ends (finish b name t)
  finish-ends (Some finish) name t h = (h, tt)
  finish-ends None name t h = h

  one_more : (s : State) (d : Outcome) (r : Request) (rest : OutcomeWord) → length s.log < limits.device_bound → IsWithin s → IsWithin (logged d r (record s { word = rest }))
  one_more s d r rest room h = let e = length-append s.log ((logged d r (record s { log = []; word = rest })).log) in (h.0, omega arith)

  with-ends : (s : State) (r : Request) (d : Outcome) → IsWithin (logged d r s) → Ends (with_outcome d r s)
  with-ends s r Success h = finish-ends r.effect.ends r.name (set_environment (sets_in r.words r.effect.sets) (logged Success r s)) h
  with-ends s r Failure h = h

  taken-ends : (s : State) (r : Request) (w : OutcomeWord) → length s.log < limits.device_bound → IsWithin s → Ends (take_outcome r w s)
  taken-ends s r [] room h = h
  taken-ends s r (d ∷ rest) room h = with-ends (record s { word = rest }) r d (one_more s d r rest room h)

  told-ends : (s : State) (r : Request) (o : Option Bool) → length s.log < limits.device_bound → IsWithin s → Ends (tell_or_take o r s)
  told-ends s r None room h = taken-ends s r s.word room h
  told-ends s r (Some success) room h = with-ends s (told_again r) (outcome_when success) (one_more s (outcome_when success) (told_again r) s.word room h)

  device-ends : (s : State) (r : Request) → IsWithin s → Ends (device limits r s)
  device-ends s r h = Ends-if (nat_lt (length s.log) limits.device_bound) (tell_or_take (told r s.log) r s) (Ended CutDevices s) (λ e. told-ends s r (told r s.log) (ltb-true (length s.log) limits.device_bound e) h) (λ e. let l = ltb-false (length s.log) limits.device_bound e in let a = h.1 in (h, omega arith))

  Ends-sized : (fs : List Text) (f : List Text → State → Answer) (s : State) → IsWithin s → Ends (f fs s) → Ends (sized fs f s)
  Ends-sized fs f s h k = Ends-if (nat_le (size fs) most_bytes) (f fs s) (Ended Size s) (λ e. k) (λ e. (h, tt))

  Ends-assign : (pairs : List (Text × tree.Word)) (s : State) → IsWithin s → Ends (assign limits.shell pairs s)
  Ends-assign [] s h = h
  Ends-assign (pair ∷ pairs) s h =
      let value : Text = assigned_in limits.shell (parameters_in s.memory) pair.1 in
      Ends-if (nat_le (length value) most_bytes) (assign limits.shell pairs (assign_local limits.shell pair.0 value s)) (Ended Size s) (λ e. Ends-assign pairs (assign_local limits.shell pair.0 value s) h) (λ e. (h, tt))

  -- `run` of texts, each with at most n steps left after the one that `run` began
  module _ (n : ℕ) (script : Script → State → Answer) (kept : (a : Script) → KeepsAll limits (script a)) (ends : (a : Script) → IsProper a → (t : State) → IsWithin t → limits.step_bound < n + t.steps → Ends (script a t)) where
    unread-ends : (shell : Shell) (name : Text) (t : State) → IsWithin t → Ends (Ended (unread shell name) t)
    unread-ends Profile name t h = (h, tt)
    unread-ends Old2023 name t h = (h, tt)
    unread-ends Old2025 name t h = (h, tt)
    unread-ends Modern2025 name t h = (h, tt)

    read-ends : (found : TextRead) (name : Text) (t : State) → ((a : Script) → found ≡ Runs a → IsProper a) → IsWithin t → limits.step_bound < n + t.steps → Ends (run_read limits script name found t)
    read-ends (Runs tree.Empty) name t p h r = ends tree.Empty tt (set_status 0 t) h r
    read-ends (Runs (tree.Runs l ls)) name t p h r = ends (tree.Runs l ls) (p (tree.Runs l ls) refl) t h r
    read-ends Fails name t p h r = h
    read-ends Panics name t p h r = (h, tt)
    read-ends Unread name t p h r = unread-ends limits.shell name t h

    text-ends : (name v : Text) (t : State) → IsWithin t → limits.step_bound < n + t.steps → Ends (run_text limits script name v t)
    text-ends name v t h r = read-ends (first_in limits.shell v) name t (λ a e. first_texts_are_proper limits.shell v a e) h r

    started-ends : (name v : Text) (t : State) → IsWithin t → limits.step_bound < n + t.steps → Ends (started_text limits script name v t)
    started-ends name v t h r = read-ends (started_in limits.shell v) name t (λ a e. started_texts_are_proper limits.shell v a e) h r

    named-ends : (o : Option Text) (name : Text) (next : State → Answer) (t : State) → IsWithin t → limits.step_bound < n + t.steps → ((u : State) → IsWithin u → limits.step_bound < n + u.steps → Ends (next u)) → Ends (elim o [ None ↦ Normal (set_status 1 t) | Some v ↦ text_end limits.shell (started_text limits script name v t) next ])
    named-ends None name next t h r j = h
    named-ends (Some v) name next t h r j = Ends-text_end t (started_text limits script name v t) next (Keeps-started limits script kept name v t).0 (started-ends name v t h r) (λ u w l. j u w (omega arith))

    run-ends : (names : List Text) (t : State) → IsWithin t → limits.step_bound < n + t.steps → Ends (run_all limits script names t)
    run-ends [] t h r = h
    run-ends (name ∷ names) t h r = named-ends (get t.memory.environment name) name (run_all limits script names) t h r (run-ends names)

    found-ends : (o : Option Text) (name : Text) (t : State) → IsWithin t → limits.step_bound < n + t.steps → Ends (elim o [ None ↦ Normal (set_status 1 t) | Some v ↦ text_end limits.shell (sourced_text limits script name v t) Normal ])
    found-ends None name t h r = h
    found-ends (Some v) name t h r =
        let read : Answer = run_read limits script name (sourced_in limits.shell v) t in
        Ends-text_end t (sourced limits.shell read) Normal (Keeps-sourced_text limits script kept name v t).0 (Ends-sourced limits.shell read (read-ends (sourced_in limits.shell v) name t (λ a e. sourced_texts_are_proper limits.shell v a e) h r)) (λ u w l. w)

    chosen-ends : (name : Text) (before : ℕ) (next : State → Answer) (t : State) → IsWithin t → limits.step_bound < n + t.steps → Ends (next t) → Ends (chosen limits script name before next t)
    chosen-ends name before next t h r more =
        let u : State = set_status before t in
        Ends-if (nat_eq t.memory.status 0) (run_file limits script name u) (next t) (λ e. found-ends (file_in limits.devices name) name u h r) (λ e. more)

    one_file-ends : (name : Text) (others : List Text) (before : ℕ) (t : State) → IsWithin t → limits.step_bound < n + t.steps → Ends (run_one limits script name others before t)
    one_file-ends name [] before t h r = found-ends (file_in limits.devices name) name (set_status before t) h r
    one_file-ends name (other ∷ others) before t h r =
        let next : State → Answer = run_one limits script other others before in
        Ends-go_on t (started_text limits script name (choice_text name) t) (chosen limits script name before next) (Keeps-started limits script kept name (choice_text name) t).0 (started-ends name (choice_text name) t h r)
        (λ u w l. chosen-ends name before next u w (omega arith) (one_file-ends other others before u w (omega arith)))

    file-ends : (name : Text) (others : List Text) (before : ℕ) (t : State) → IsWithin t → limits.step_bound < n + t.steps → Ends (file_follows limits script name others before t)
    file-ends name others before t h r =
        Ends-if (nat_eq t.memory.status 0) (run_one limits script name others before t) (Normal t) (λ e. one_file-ends name others before t h r) (λ e. h)

    handed-ends : (runs : List Text) (before : ℕ) (t : State) (a : Answer) → Track limits.device_bound t a → Ends a → limits.step_bound < n + t.steps → Ends (handed_over limits script runs before a)
    handed-ends [] before t a k h r = h
    handed-ends (name ∷ others) before t a k h r = Ends-go_on t a (file_follows limits script name others before) k h (λ u w l. file-ends name others before u w (omega arith))

    leave-ends : (status : Option ℕ) (other : ℕ) (t : State) → IsWithin t → Ends (elim status [ Some k ↦ Exit (set_status k t) | None ↦ Normal (set_status other t) ])
    leave-ends (Some k) other t h = h
    leave-ends None other t h = h

    command-ends : (again : Bool) (b : Called) (name : Text) (ws : List Text) (t : State) → IsWithin t → limits.step_bound < n + t.steps → Ends (command limits again script b name ws t)
    command-ends again (BuiltIn (ChangesVariables change)) name ws t h r = h
    command-ends again (BuiltIn RunsTexts) name [] t h r = h
    command-ends again (BuiltIn RunsTexts) name (w ∷ ws) t h r = run-ends (w ∷ ws) t h r
    command-ends again (BuiltIn Tests) name ws t h r = Ends-if (asks_in limits.shell ws) (device limits (test_request limits name ws) t) (Normal (set_status (status_when (truth_in limits.shell ws)) t)) (λ e. device-ends t (test_request limits name ws) h) (λ e. h)
    command-ends again (BuiltIn (WritesText written)) name ws t h r = h
    command-ends again (BuiltIn Exits) name ws t h r = leave-ends (leaves_in limits.shell again ws) (status_of_exit limits.shell ws) t h
    command-ends again (Device effect) name ws t h r =
        let q : Request = request_of name ws (effect_now limits.room t effect) in
        handed-ends effect.runs t.memory.status t (device limits q t) (Keeps-device limits q refl t).0 (device-ends t q h) r
    command-ends again NoCommand name ws t h r = (h, tt)

    call-ends : (again : Bool) (fs : List Text) (t : State) → IsWithin t → limits.step_bound < n + t.steps → Ends (simple_call limits again script fs t)
    call-ends again [] t h r = h
    call-ends again (name ∷ ws) t h r = Ends-if (follows limits.shell limits.devices name ws) (command limits again script (called_by limits.devices name ws) name ws t) (Ended (Unsupported name) t) (λ e. command-ends again (called_by limits.devices name ws) name ws t h r) (λ e. (h, tt))

    simple-ends : (again : Bool) (fs : List Text) (t : State) → IsWithin t → limits.step_bound < n + t.steps → Ends (simple limits again script fs t)
    simple-ends again fs = call-ends again (call_in limits.shell fs)

  -- over the tree, with n steps left
  module _ (n : ℕ) (text : Script → State → Answer) (kept : (a : Script) → KeepsAll limits (text a)) (ends : (a : Script) → IsProper a → (t : State) → IsWithin t → limits.step_bound < n + t.steps → Ends (text a t)) where
    -- each turn begins a step, so there are as many turns as steps
    turn-ends : (until : Bool) (b again : State → Answer) (last : ℕ) (s : State) (a : Answer) → KeepsAll limits b → EndsAll n b → Track limits.device_bound s a → Grew s.steps a → Ends a → limits.step_bound ≤ n + s.steps → ((u : State) → IsWithin u → s.steps < u.steps → Ends (again u)) → Ends (go_on a (λ t. elim (holds until t.memory.status) [ true ↦ go_on (b t) again | false ↦ Normal (set_status (status_of_loop limits.shell last t.memory.status) t) ]))
    turn-ends until b again last s (Normal t) k e c g h r j =
        Ends-if (holds until t.memory.status) (go_on (b t) again) (Normal (set_status (status_of_loop limits.shell last t.memory.status) t))
        (λ x. Ends-go_on t (b t) again (k t).0 (e t (h, omega arith)) (λ u w l. j u w (omega arith)))
        (λ x. h)
    turn-ends until b again last s (Exit t) k e c g h r j = h
    turn-ends until b again last s (Ended ending t) k e c g h r j = h
    turn-ends until b again last s (Dry t) k e c g h r j = h

    turns-end : (k : ℕ) (until : Bool) (c b : State → Answer) → KeepsAll limits c → KeepsAll limits b → EndsAll n c → EndsAll n b → ((s : State) → Grew s.steps (c s)) → (last : ℕ) (s : State) → IsWithin s → limits.step_bound ≤ n + s.steps → limits.step_bound ≤ k + s.steps → Ends (turns limits.shell k until c b last s)
    turns-end zero until c b x y e f g last s h r q = (h, let a = h.0 in omega arith)
    turns-end (suc k) until c b x y e f g last s h r q = turn-ends until b (λ u. turns limits.shell k until c b u.memory.status u) last s (c s) y f (x s).0 (g s) (e s (h, r)) r (λ u w l. turns-end k until c b x y e f g u.memory.status u w (omega arith) (omega arith))

    for-ends : (name : Text) (b : State → Answer) → KeepsAll limits b → EndsAll n b → (last : ℕ) (fs : List Text) (s : State) → IsWithin s → limits.step_bound ≤ n + s.steps → Ends (for_each limits.shell name b last fs s)
    for-ends name b k e last [] s h r = h
    for-ends name b k e last (f ∷ fs) s h r = Ends-go_on (begin_turn limits.shell name f s) (b (begin_turn limits.shell name f s)) (λ t. for_each limits.shell name b t.memory.status fs t) (k (begin_turn limits.shell name f s)).0 (e (begin_turn limits.shell name f s) (h, r)) (λ t w l. for-ends name b k e t.memory.status fs t w (omega arith))

    turns_of-end : (name : Text) (b : State → Answer) → KeepsAll limits b → EndsAll n b → (fs : List Text) (s : State) → IsWithin s → limits.step_bound ≤ n + s.steps → Ends (turns_of limits.shell name b fs s)
    turns_of-end name b k e fs s h r = Ends-if (follows_turns limits.shell name fs) (compound limits.shell (for_each limits.shell name b 0 fs s)) (Ended (Unsupported name) s) (λ x. Ends-compound limits.shell (for_each limits.shell name b 0 fs s) (for-ends name b k e 0 fs s h r)) (λ x. (h, tt))

    words-end : (name : Text) (words : List tree.Word) (b : State → Answer) → KeepsAll limits b → EndsAll n b → (s : State) → IsWithin s → limits.step_bound ≤ n + s.steps → Ends (for_words limits.shell name words b s)
    words-end name words b k e s h r = Ends-sized (turns_in limits.shell (parameters_in s.memory) words) (turns_of limits.shell name b) s h (turns_of-end name b k e (turns_in limits.shell (parameters_in s.memory) words) s h r)

    mutual
      script-ends : (a : Script) → IsProper a → EndsAll n (exec_script limits n text a)
      script-ends tree.Empty p s r = r.0
      script-ends (tree.Runs l ls) p s r = Ends-go_on s (exec_list limits n text l s) (exec_script limits n text ls) (Keeps-list limits n text kept l s).0 (list-ends l p.0 s r) (λ t w e. script-ends ls p.1 t (w, let b = r.1 in omega arith))

      list-ends : (a : AndOr) → IsProperList a → EndsAll n (exec_list limits n text a)
      list-ends (tree.Starts c rest) p s r = Ends-go_on s (exec_command limits n text c s) (exec_joined limits n text rest) (Keeps-one limits n text kept c s).0 (one-ends c p.0 s r) (λ t w e. joined-ends rest p.1 t (w, let b = r.1 in omega arith))

      joined-ends : (a : Joined) → IsProperJoined a → EndsAll n (exec_joined limits n text a)
      joined-ends tree.Alone p s r = r.0
      joined-ends (tree.Joins op c rest) p s r = Ends-if (goes op s.memory.status) (go_on (exec_command limits n text c s) (exec_joined limits n text rest)) (skipped limits (exec_joined limits n text rest) s) (λ x. Ends-go_on s (exec_command limits n text c s) (exec_joined limits n text rest) (Keeps-one limits n text kept c s).0 (one-ends c p.0 s r) (λ t w e. joined-ends rest p.1 t (w, let b = r.1 in omega arith))) (λ x. Ends-if (skips_rest limits.shell) (Normal s) (exec_joined limits n text rest s) (λ y. r.0) (λ y. joined-ends rest p.1 s r))

      one-ends : (a : Command) → IsProperCommand a → EndsAll n (exec_command limits n text a)
      one-ends (tree.Simple words) p s r = Ends-begin n (λ t. sized (fields_in limits.shell (parameters_in t.memory) words) (simple limits (reads_again words) text) t) (λ t h q. Ends-sized (fields_in limits.shell (parameters_in t.memory) words) (simple limits (reads_again words) text) t h (simple-ends n text kept ends (reads_again words) (fields_in limits.shell (parameters_in t.memory) words) t h q)) s r
      one-ends (tree.Assign pairs) p s r = Ends-begin n (assign limits.shell pairs) (λ t h q. Ends-assign pairs t h) s r
      one-ends (tree.If arms) p s r = Ends-compound limits.shell (exec_arms limits n text arms s) (arm-ends arms p s r)
      one-ends (tree.Loop until c b) p s r =
          Ends-compound limits.shell (turns limits.shell n until (exec_script limits n text c) (exec_script limits n text b) 0 s)
          (turns-end n until (exec_script limits n text c) (exec_script limits n text b) (Keeps-script limits n text kept c) (Keeps-script limits n text kept b) (block-ends c p.0) (block-ends b p.1) (Grew-block limits n text kept c p.0) 0 s r.0 r.1 r.1)
      one-ends (tree.For name words b) p s r = Ends-begin n (λ t. for_words limits.shell name words (exec_script limits n text b) (for_begun limits.shell t)) (λ t h q. words-end name words (exec_script limits n text b) (Keeps-script limits n text kept b) (block-ends b p) (for_begun limits.shell t) h (omega arith)) s r

      arm-ends : (a : Arms) → HasArm a → EndsAll n (exec_arms limits n text a)
      arm-ends tree.NoElse p s r = absurd p
      arm-ends (tree.Else b) p s r = absurd p
      arm-ends (tree.Arm c b arms) p s r = Ends-go_on s (exec_script limits n text c s) (λ t. elim (nat_eq t.memory.status 0) [ true ↦ exec_script limits n text b t | false ↦ exec_arms limits n text arms (block_skipped limits.shell b t) ]) (Keeps-script limits n text kept c s).0 (block-ends c p.0 s r) (λ t w e. let q = r.1 in let reach : Reaches n t = (w, omega arith) in Ends-if (nat_eq t.memory.status 0) (exec_script limits n text b t) (exec_arms limits n text arms (block_skipped limits.shell b t)) (λ x. block-ends b p.1 t reach) (λ x. arms-end arms p.2 (block_skipped limits.shell b t) reach))

      arms-end : (a : Arms) → AreProperArms a → EndsAll n (exec_arms limits n text a)
      arms-end tree.NoElse p s r = r.0
      arms-end (tree.Else b) p s r = block-ends b p s r
      arms-end (tree.Arm c b arms) p s r = Ends-go_on s (exec_script limits n text c s) (λ t. elim (nat_eq t.memory.status 0) [ true ↦ exec_script limits n text b t | false ↦ exec_arms limits n text arms (block_skipped limits.shell b t) ]) (Keeps-script limits n text kept c s).0 (block-ends c p.0 s r) (λ t w e. let q = r.1 in let reach : Reaches n t = (w, omega arith) in Ends-if (nat_eq t.memory.status 0) (exec_script limits n text b t) (exec_arms limits n text arms (block_skipped limits.shell b t)) (λ x. block-ends b p.1 t reach) (λ x. arms-end arms p.2 (block_skipped limits.shell b t) reach))

      block-ends : (a : Script) → HoldsCommand a → EndsAll n (exec_script limits n text a)
      block-ends tree.Empty p s r = absurd p
      block-ends (tree.Runs l ls) p s r = Ends-go_on s (exec_list limits n text l s) (exec_script limits n text ls) (Keeps-list limits n text kept l s).0 (list-ends l p.0 s r) (λ t w e. script-ends ls p.1 t (w, let b = r.1 in omega arith))

  exec-ends : (n : ℕ) (a : Script) → IsProper a → EndsAll n (exec limits n a)
  exec-ends zero a p = script-ends zero (λ b s. Ended CutSteps s) (λ b s. Keeps-ended limits.device_bound s CutSteps) (λ b q t h r. absurd (let e = h.0 in omega arith)) a p
  exec-ends (suc n) a p = script-ends (suc n) (exec limits n) (Keeps-exec limits n) (λ b q t h r. exec-ends n b q t (h, omega arith)) a p

-- ---- of a task

task-ends : (task : Task) (w : OutcomeWord) → Ends task.limits (run_on task w)
task-ends task w =
    let bound = task.limits.step_bound in
    text-ends task.limits (suc bound) (exec task.limits bound) (Keeps-exec task.limits bound) (λ a p t h r. exec-ends task.limits bound a p t (h, omega arith)) task.name task.text (start task.written task.environment w) (omega arith, omega arith) (omega arith)

steps_within : (limits : Limits) (a : Answer) → Ends limits a → (state_of a).steps ≤ limits.step_bound
steps_within limits (Normal t) h = h.0
steps_within limits (Exit t) h = h.0
steps_within limits (Ended ending t) h = h.0.0
steps_within limits (Dry t) h = h.0

pub steps_are_bounded : (task : Task) (w : OutcomeWord) → steps task w ≤ task.limits.step_bound
steps_are_bounded task w = steps_within task.limits (run_on task w) (task-ends task w)

devices_within : (limits : Limits) (a : Answer) → Ends limits a → length (state_of a).log ≤ limits.device_bound
devices_within limits (Normal t) h = h.1
devices_within limits (Exit t) h = h.1
devices_within limits (Ended ending t) h = h.0.1
devices_within limits (Dry t) h = h.1

-- no more device commands are in the log than the bound
pub devices_are_bounded : (task : Task) (w : OutcomeWord) → length (state_of (run_on task w)).log ≤ task.limits.device_bound
devices_are_bounded task w = devices_within task.limits (run_on task w) (task-ends task w)

pub cut_at_step_bound : (task : Task) (w : OutcomeWord) (s : State) → run_on task w ≡ Ended CutSteps s → s.steps ≡ task.limits.step_bound
cut_at_step_bound task w s e = (subst (Ends task.limits) e (task-ends task w)).1

pub cut_at_device_bound : (task : Task) (w : OutcomeWord) (s : State) → run_on task w ≡ Ended CutDevices s → length s.log ≡ task.limits.device_bound
cut_at_device_bound task w s e = (subst (Ends task.limits) e (task-ends task w)).1
