-- A script means the same for every number of allowed steps that is at least the number of steps left.
use Rattle.std.proofs.Common.{ℕ, zero, suc, Bool, true, false, List, [], ◌∷◌, Option, Some, None, refl, sym, ap, ◌∙◌, ◌≡◌, ◌<◌, ◌≤◌, arith, ◌+◌, nat_lt, nat_le, nat_eq}
use Rattle.hushlang.specs.Tree as tree
use Rattle.hushlang.specs.Tree.{Script, AndOr, Joined, Command, Arms, IsProper, IsProperList, IsProperJoined, IsProperCommand, AreProperArms, HoldsCommand}
use Rattle.hushlang.specs.Expansion.{size, most_bytes}
use Rattle.hushlang_shells.specs.TreesByShell.{TextRead, Runs, Fails, Panics, Unread, started_in, sourced_in}
use Rattle.rehearse_terms.specs.State.{Text, get, State}
use Rattle.rehearse_terms.specs.declared.shell.Shell.{Shell}
use Rattle.rehearse_rules.specs.Parameters.{parameters_in}
use Rattle.device_list.specs.DeviceList.{file_in}
use Rattle.device_list.specs.Called.{Called, BuiltIn, NoCommand, Device, called_by}
use Rattle.commands.specs.BuiltInCommands.{ChangesVariables, WritesText, RunsTexts, Tests, Exits}
use Rattle.rehearse_rules.specs.Needs.{effect_now}
use Rattle.rehearse_rules.specs.Execution.{choice_text, chosen, run_one, begin_turn, Limits, Answer, Normal, Exit, Ended, Dry, CutSteps, Size, go_on, set_status, goes, holds, begin, text_end, text_failed, run_read, run_all, command, simple, sized, turns, for_each, exec_script, exec_list, exec_joined, exec_command, exec_arms, exec, Unsupported, started_text, turns_of, for_words, for_begun, block_skipped, compound, simple_call, Request, device, request_of, run_file, file_follows, handed_over, sourced, sourced_text}
use Rattle.rehearse_rules.proofs.GrowingSteps.{AtLeast, Grew, AtLeast-track, Grew-block}
use Rattle.rehearse_rules.proofs.TakenOutcomes.{KeepsAll, after_condition, Keeps-script, Keeps-list, Keeps-one, Keeps-exec, Keeps-started, Keeps-device}
use Rattle.hushlang_shells.proofs.TreeByShellLemmas.{started_texts_are_proper, sourced_texts_are_proper}
use Rattle.rehearse_machine.proofs.BoundLemmas.{Cut-block, Cut-turns}
use Rattle.rehearse_rules.specs.ByShell.{reads_again, fields_in, turns_in, skips_rest, status_of_loop, follows, follows_turns, call_in}
use Rattle.rehearse_rules.proofs.TakenOutcomes.{skipped}

pub block_proper : (a : Script) → HoldsCommand a → IsProper a
block_proper tree.Empty p = tt
block_proper (tree.Runs l ls) p = p

pub same_go_on : (n : ℕ) (a b : Answer) (f g : State → Answer) → AtLeast n a → a ≡ b → ((t : State) → n ≤ t.steps → f t ≡ g t) → go_on a f ≡ go_on b g
same_go_on n (Normal t) b f g l e h = rw (← e) (h t l)
same_go_on n (Exit t) b f g l e h = rw (← e) refl
same_go_on n (Ended ending t) b f g l e h = rw (← e) refl
same_go_on n (Dry t) b f g l e h = rw (← e) refl

abbrev pub pick : Bool → Answer → Answer → Answer
pick b x y = elim b [ true ↦ x | false ↦ y ]

abbrev named_answer : Limits → (Script → State → Answer) → Option Text → Text → (State → Answer) → State → Answer
named_answer limits text o name f t = elim o [ None ↦ Normal (set_status 1 t) | Some v ↦ text_end limits.shell (started_text limits text name v t) f ]

pub same_if : (b : Bool) (x y u v : Answer) → x ≡ u → y ≡ v → pick b x y ≡ pick b u v
same_if true x y u v e k = e
same_if false x y u v e k = k

same_text_end : (shell : Shell) (n : ℕ) (a b : Answer) (f g : State → Answer) → AtLeast n a → a ≡ b → ((t : State) → n ≤ t.steps → f t ≡ g t) → text_end shell a f ≡ text_end shell b g
same_text_end shell n (Normal t) b f g l e h = rw (← e) (same_if (nat_eq t.memory.status 0) (f t) (Normal (text_failed shell t)) (g t) (Normal (text_failed shell t)) (h t l) refl)
same_text_end shell n (Exit t) b f g l e h = rw (← e) (same_if (nat_eq t.memory.status 0) (f t) (Normal t) (g t) (Normal t) (h t l) refl)
same_text_end shell n (Ended ending t) b f g l e h = rw (← e) refl
same_text_end shell n (Dry t) b f g l e h = rw (← e) refl

module _ (limits : Limits) where
  module _ (n m : ℕ) (below : n ≤ m) (text text' : Script → State → Answer) (kept : (tree : Script) → KeepsAll limits (text tree)) (same : (tree : Script) → IsProper tree → (t : State) → limits.step_bound < n + t.steps → text tree t ≡ text' tree t) where
    same_read : (found : TextRead) (name : Text) → ((tree : Script) → found ≡ Runs tree → IsProper tree) → (t : State) → limits.step_bound < n + t.steps → run_read limits text name found t ≡ run_read limits text' name found t
    same_read (Runs tree.Empty) name p t h = same tree.Empty tt (set_status 0 t) h
    same_read (Runs (tree.Runs l ls)) name p t h = same (tree.Runs l ls) (p (tree.Runs l ls) refl) t h
    same_read Fails name p t h = refl
    same_read Panics name p t h = refl
    same_read Unread name p t h = refl

    same_started : (name v : Text) (t : State) → limits.step_bound < n + t.steps → started_text limits text name v t ≡ started_text limits text' name v t
    same_started name v t h = same_read (started_in limits.shell v) name (started_texts_are_proper limits.shell v) t h

    same_named : (o : Option Text) (name : Text) (f g : State → Answer) (t : State) → limits.step_bound < n + t.steps → ((u : State) → t.steps ≤ u.steps → f u ≡ g u) → named_answer limits text o name f t ≡ named_answer limits text' o name g t
    same_named None name f g t h k = refl
    same_named (Some v) name f g t h k = same_text_end limits.shell t.steps (started_text limits text name v t) (started_text limits text' name v t) f g (AtLeast-track limits.device_bound t (started_text limits text name v t) (Keeps-started limits text kept name v t).0) (same_started name v t h) k

    same_run : (names : List Text) (t : State) → limits.step_bound < n + t.steps → run_all limits text names t ≡ run_all limits text' names t
    same_run [] t h = refl
    same_run (name ∷ names) t h = same_named (get t.memory.environment name) name (run_all limits text names) (run_all limits text' names) t h (λ u l. same_run names u (omega arith))

    same_found : (o : Option Text) (name : Text) (t : State) → limits.step_bound < n + t.steps
        → ◌≡◌ {A = Answer} (elim o [ None ↦ Normal (set_status 1 t) | Some v ↦ text_end limits.shell (sourced_text limits text name v t) Normal ]) (elim o [ None ↦ Normal (set_status 1 t) | Some v ↦ text_end limits.shell (sourced_text limits text' name v t) Normal ])
    same_found None name t h = refl
    same_found (Some v) name t h = ap (λ (a : Answer). text_end limits.shell (sourced limits.shell a) Normal) (same_read (sourced_in limits.shell v) name (sourced_texts_are_proper limits.shell v) t h)

    same_one_file : (name : Text) (others : List Text) (before : ℕ) (t : State) → limits.step_bound < n + t.steps → run_one limits text name others before t ≡ run_one limits text' name others before t
    same_one_file name [] before t h = same_found (file_in limits.devices name) name (set_status before t) h
    same_one_file name (other ∷ others) before t h =
        let question : Answer = started_text limits text name (choice_text name) t in
        same_go_on t.steps question (started_text limits text' name (choice_text name) t) (chosen limits text name before (run_one limits text other others before)) (chosen limits text' name before (run_one limits text' other others before))
        (AtLeast-track limits.device_bound t question (Keeps-started limits text kept name (choice_text name) t).0) (same_started name (choice_text name) t h)
        (λ u r. same_if (nat_eq u.memory.status 0) (run_file limits text name (set_status before u)) (run_one limits text other others before u) (run_file limits text' name (set_status before u)) (run_one limits text' other others before u)
        (same_found (file_in limits.devices name) name (set_status before u) (omega arith)) (same_one_file other others before u (omega arith)))

    same_file : (name : Text) (others : List Text) (before : ℕ) (t : State) → limits.step_bound < n + t.steps → file_follows limits text name others before t ≡ file_follows limits text' name others before t
    same_file name others before t h =
        same_if (nat_eq t.memory.status 0) (run_one limits text name others before t) (Normal t) (run_one limits text' name others before t) (Normal t) (same_one_file name others before t h) refl

    same_handed : (runs : List Text) (before : ℕ) (a : Answer) (t : State) → AtLeast t.steps a → limits.step_bound < n + t.steps → handed_over limits text runs before a ≡ handed_over limits text' runs before a
    same_handed [] before a t l h = refl
    same_handed (name ∷ others) before a t l h = same_go_on t.steps a a (file_follows limits text name others before) (file_follows limits text' name others before) l refl (λ u r. same_file name others before u (omega arith))

    same_command : (again : Bool) (b : Called) (name : Text) (ws : List Text) (t : State) → limits.step_bound < n + t.steps → command limits again text b name ws t ≡ command limits again text' b name ws t
    same_command again (BuiltIn (ChangesVariables change)) name ws t h = refl
    same_command again (BuiltIn RunsTexts) name [] t h = refl
    same_command again (BuiltIn RunsTexts) name (w ∷ ws) t h = same_run (w ∷ ws) t h
    same_command again (BuiltIn Tests) name ws t h = refl
    same_command again (BuiltIn (WritesText written)) name ws t h = refl
    same_command again (BuiltIn Exits) name ws t h = refl
    same_command again (Device effect) name ws t h =
        let request : Request = request_of name ws (effect_now limits.room t effect) in
        same_handed effect.runs t.memory.status (device limits request t) t (AtLeast-track limits.device_bound t (device limits request t) (Keeps-device limits request refl t).0) h
    same_command again NoCommand name ws t h = refl

    same_call : (again : Bool) (fs : List Text) (t : State) → limits.step_bound < n + t.steps → simple_call limits again text fs t ≡ simple_call limits again text' fs t
    same_call again [] t h = refl
    same_call again (name ∷ ws) t h = ap (λ (a : Answer). let b : Answer = elim (follows limits.shell limits.devices name ws) [ true ↦ a | false ↦ Ended (Unsupported name) t ] in b) (same_command again (called_by limits.devices name ws) name ws t h)

    same_simple : (again : Bool) (fs : List Text) (t : State) → limits.step_bound < n + t.steps → simple limits again text fs t ≡ simple limits again text' fs t
    same_simple again fs = same_call again (call_in limits.shell fs)

    same_begin : (f g : State → Answer) (s : State) → limits.step_bound ≤ n + s.steps → ((t : State) → limits.step_bound < n + t.steps → f t ≡ g t) → begin limits f s ≡ begin limits g s
    same_begin f g s h k = same_if (nat_lt s.steps limits.step_bound) (f (record s { steps = suc s.steps })) (Ended CutSteps s) (g (record s { steps = suc s.steps })) (Ended CutSteps s) (k (record s { steps = suc s.steps }) (omega arith)) refl

    same_sized : (fs : List Text) (f g : List Text → State → Answer) (t : State) → f fs t ≡ g fs t → sized fs f t ≡ sized fs g t
    same_sized fs f g t e = same_if (nat_le (size fs) most_bytes) (f fs t) (Ended Size t) (g fs t) (Ended Size t) e refl

    pub same_turns : (k j : ℕ) → k ≤ j → (until : Bool) (c c' b b' : State → Answer) → ((t : State) → limits.step_bound ≤ n + t.steps → c t ≡ c' t) → ((t : State) → limits.step_bound ≤ n + t.steps → b t ≡ b' t) → ((t : State) → Grew t.steps (c t)) → KeepsAll limits b → ((t : State) → limits.step_bound ≤ t.steps → c' t ≡ Ended CutSteps t) → (last : ℕ) (s : State) → limits.step_bound ≤ k + s.steps → limits.step_bound ≤ n + s.steps → turns limits.shell k until c b last s ≡ turns limits.shell j until c' b' last s
    same_turns zero j le until c c' b b' ec eb grew kb cut last s h l = sym (Cut-turns limits m text' j until c' b' last s (cut s (omega arith)))
    same_turns (suc k) zero le until c c' b b' ec eb grew kb cut last s h l = absurd (omega arith)
    same_turns (suc k) (suc j) le until c c' b b' ec eb grew kb cut last s h l =
        same_go_on (suc s.steps) (c s) (c' s) (after_condition limits until b (λ u. turns limits.shell k until c b u.memory.status u) last) (after_condition limits until b' (λ u. turns limits.shell j until c' b' u.memory.status u) last) (grew s) (ec s l)
        (λ t g. same_if (holds until t.memory.status) (go_on (b t) (λ u. turns limits.shell k until c b u.memory.status u)) (Normal (set_status (status_of_loop limits.shell last t.memory.status) t)) (go_on (b' t) (λ u. turns limits.shell j until c' b' u.memory.status u)) (Normal (set_status (status_of_loop limits.shell last t.memory.status) t))
        (same_go_on t.steps (b t) (b' t) (λ u. turns limits.shell k until c b u.memory.status u) (λ u. turns limits.shell j until c' b' u.memory.status u) (AtLeast-track limits.device_bound t (b t) (kb t).0) (eb t (omega arith)) (λ u r. same_turns k j (omega arith) until c c' b b' ec eb grew kb cut u.memory.status u (omega arith) (omega arith)))
        refl)

    pub same_for : (name : Text) (b b' : State → Answer) → ((t : State) → limits.step_bound ≤ n + t.steps → b t ≡ b' t) → KeepsAll limits b → (last : ℕ) (fs : List Text) (s : State) → limits.step_bound ≤ n + s.steps → for_each limits.shell name b last fs s ≡ for_each limits.shell name b' last fs s
    same_for name b b' eb kb last [] s l = refl
    same_for name b b' eb kb last (f ∷ fs) s l = same_go_on s.steps (b (begin_turn limits.shell name f s)) (b' (begin_turn limits.shell name f s)) (λ t. for_each limits.shell name b t.memory.status fs t) (λ t. for_each limits.shell name b' t.memory.status fs t) (AtLeast-track limits.device_bound (begin_turn limits.shell name f s) (b (begin_turn limits.shell name f s)) (kb (begin_turn limits.shell name f s)).0) (eb (begin_turn limits.shell name f s) l) (λ t r. same_for name b b' eb kb t.memory.status fs t (omega arith))

    same_words : (name : Text) (words : List tree.Word) (b b' : State → Answer) → ((t : State) → limits.step_bound ≤ n + t.steps → b t ≡ b' t) → KeepsAll limits b → (s : State) → limits.step_bound ≤ n + s.steps → for_words limits.shell name words b s ≡ for_words limits.shell name words b' s
    same_words name words b b' eb kb s l =
        let fs : List Text = turns_in limits.shell (parameters_in s.memory) words in
        same_sized fs (turns_of limits.shell name b) (turns_of limits.shell name b') s
        (same_if (follows_turns limits.shell name fs) (compound limits.shell (for_each limits.shell name b 0 fs s)) (Ended (Unsupported name) s) (compound limits.shell (for_each limits.shell name b' 0 fs s)) (Ended (Unsupported name) s) (ap (compound limits.shell) (same_for name b b' eb kb 0 fs s l)) refl)

    mutual
      pub same_script : (a : Script) → IsProper a → (s : State) → limits.step_bound ≤ n + s.steps → exec_script limits n text a s ≡ exec_script limits m text' a s
      same_script tree.Empty p s h = refl
      same_script (tree.Runs l ls) p s h = same_go_on s.steps (exec_list limits n text l s) (exec_list limits m text' l s) (exec_script limits n text ls) (exec_script limits m text' ls) (AtLeast-track limits.device_bound s (exec_list limits n text l s) (Keeps-list limits n text kept l s).0) (same_list l p.0 s h) (λ t r. same_script ls p.1 t (omega arith))

      same_list : (a : AndOr) → IsProperList a → (s : State) → limits.step_bound ≤ n + s.steps → exec_list limits n text a s ≡ exec_list limits m text' a s
      same_list (tree.Starts c links) p s h = same_go_on s.steps (exec_command limits n text c s) (exec_command limits m text' c s) (exec_joined limits n text links) (exec_joined limits m text' links) (AtLeast-track limits.device_bound s (exec_command limits n text c s) (Keeps-one limits n text kept c s).0) (same_one c p.0 s h) (λ t r. same_links links p.1 t (omega arith))

      same_links : (a : Joined) → IsProperJoined a → (s : State) → limits.step_bound ≤ n + s.steps → exec_joined limits n text a s ≡ exec_joined limits m text' a s
      same_links tree.Alone p s h = refl
      same_links (tree.Joins op c links) p s h = same_if (goes op s.memory.status) (go_on (exec_command limits n text c s) (exec_joined limits n text links)) (skipped limits (exec_joined limits n text links) s) (go_on (exec_command limits m text' c s) (exec_joined limits m text' links)) (skipped limits (exec_joined limits m text' links) s)
          (same_go_on s.steps (exec_command limits n text c s) (exec_command limits m text' c s) (exec_joined limits n text links) (exec_joined limits m text' links) (AtLeast-track limits.device_bound s (exec_command limits n text c s) (Keeps-one limits n text kept c s).0) (same_one c p.0 s h) (λ t r. same_links links p.1 t (omega arith)))
          (same_if (skips_rest limits.shell) (Normal s) (exec_joined limits n text links s) (Normal s) (exec_joined limits m text' links s) refl (same_links links p.1 s h))

      same_one : (a : Command) → IsProperCommand a → (s : State) → limits.step_bound ≤ n + s.steps → exec_command limits n text a s ≡ exec_command limits m text' a s
      same_one (tree.Simple words) p s h = same_begin (λ t. sized (fields_in limits.shell (parameters_in t.memory) words) (simple limits (reads_again words) text) t) (λ t. sized (fields_in limits.shell (parameters_in t.memory) words) (simple limits (reads_again words) text') t) s h (λ t r. same_sized (fields_in limits.shell (parameters_in t.memory) words) (simple limits (reads_again words) text) (simple limits (reads_again words) text') t (same_simple (reads_again words) (fields_in limits.shell (parameters_in t.memory) words) t r))
      same_one (tree.Assign pairs) p s h = refl
      same_one (tree.If arms) p s h = ap (compound limits.shell) (same_if_arms arms p s h)
      same_one (tree.Loop until c b) p s h = ap (compound limits.shell) (same_turns n m below until (exec_script limits n text c) (exec_script limits m text' c) (exec_script limits n text b) (exec_script limits m text' b) (same_script c (block_proper c p.0)) (same_script b (block_proper b p.1)) (Grew-block limits n text kept c p.0) (Keeps-script limits n text kept b) (Cut-block limits m text' c p.0) 0 s h h)
      same_one (tree.For name words b) p s h = same_begin (λ t. for_words limits.shell name words (exec_script limits n text b) (for_begun limits.shell t)) (λ t. for_words limits.shell name words (exec_script limits m text' b) (for_begun limits.shell t)) s h (λ t r. same_words name words (exec_script limits n text b) (exec_script limits m text' b) (same_script b (block_proper b p)) (Keeps-script limits n text kept b) (for_begun limits.shell t) (omega arith))

      pub same_if_arms : (a : Arms) → IsProperCommand (tree.If a) → (s : State) → limits.step_bound ≤ n + s.steps → exec_arms limits n text a s ≡ exec_arms limits m text' a s
      same_if_arms (tree.Arm c b arms) p s h = same_go_on s.steps (exec_script limits n text c s) (exec_script limits m text' c s) (λ t. elim (nat_eq t.memory.status 0) [ true ↦ exec_script limits n text b t | false ↦ exec_arms limits n text arms (block_skipped limits.shell b t) ]) (λ t. elim (nat_eq t.memory.status 0) [ true ↦ exec_script limits m text' b t | false ↦ exec_arms limits m text' arms (block_skipped limits.shell b t) ]) (AtLeast-track limits.device_bound s (exec_script limits n text c s) (Keeps-script limits n text kept c s).0) (same_script c (block_proper c p.0) s h) (λ t r. same_if (nat_eq t.memory.status 0) (exec_script limits n text b t) (exec_arms limits n text arms (block_skipped limits.shell b t)) (exec_script limits m text' b t) (exec_arms limits m text' arms (block_skipped limits.shell b t)) (same_script b (block_proper b p.1) t (omega arith)) (same_arms arms p.2 (block_skipped limits.shell b t) (omega arith)))
      same_if_arms (tree.Else b) p s h = absurd p
      same_if_arms tree.NoElse p s h = absurd p

      same_arms : (a : Arms) → AreProperArms a → (s : State) → limits.step_bound ≤ n + s.steps → exec_arms limits n text a s ≡ exec_arms limits m text' a s
      same_arms (tree.Arm c b arms) p s h = same_go_on s.steps (exec_script limits n text c s) (exec_script limits m text' c s) (λ t. elim (nat_eq t.memory.status 0) [ true ↦ exec_script limits n text b t | false ↦ exec_arms limits n text arms (block_skipped limits.shell b t) ]) (λ t. elim (nat_eq t.memory.status 0) [ true ↦ exec_script limits m text' b t | false ↦ exec_arms limits m text' arms (block_skipped limits.shell b t) ]) (AtLeast-track limits.device_bound s (exec_script limits n text c s) (Keeps-script limits n text kept c s).0) (same_script c (block_proper c p.0) s h) (λ t r. same_if (nat_eq t.memory.status 0) (exec_script limits n text b t) (exec_arms limits n text arms (block_skipped limits.shell b t)) (exec_script limits m text' b t) (exec_arms limits m text' arms (block_skipped limits.shell b t)) (same_script b (block_proper b p.1) t (omega arith)) (same_arms arms p.2 (block_skipped limits.shell b t) (omega arith)))
      same_arms (tree.Else b) p s h = same_script b (block_proper b p) s h
      same_arms tree.NoElse p s h = refl

  -- more steps than are left make no difference
  pub same_exec : (n m : ℕ) → n ≤ m → (a : Script) → IsProper a → (s : State) → limits.step_bound ≤ n + s.steps → exec limits n a s ≡ exec limits m a s
  same_exec zero zero le a p s h = refl
  same_exec zero (suc m) le tree.Empty p s h = refl
  same_exec zero (suc m) le (tree.Runs l ls) p s h = Cut-block limits zero (λ b t. Ended CutSteps t) (tree.Runs l ls) p s (omega arith) ∙ sym (Cut-block limits (suc m) (exec limits m) (tree.Runs l ls) p s (omega arith))
  same_exec (suc n) zero le a p s h = absurd (omega arith)
  same_exec (suc n) (suc m) le a p s h = same_script (suc n) (suc m) le (exec limits n) (exec limits m) (Keeps-exec limits n) (λ tree q t r. same_exec n m (omega arith) tree q t (omega arith)) a p s h

  -- so a text that is run means what its script means
  pub closed_exec : (n : ℕ) (a : Script) → IsProper a → (s : State) → limits.step_bound ≤ n + s.steps → exec limits n a s ≡ exec_script limits n (exec limits n) a s
  closed_exec zero tree.Empty p s h = refl
  closed_exec zero (tree.Runs l ls) p s h = Cut-block limits zero (λ b t. Ended CutSteps t) (tree.Runs l ls) p s (omega arith) ∙ sym (Cut-block limits zero (exec limits zero) (tree.Runs l ls) p s (omega arith))
  closed_exec (suc n) a p s h = same_script (suc n) (suc n) (omega arith) (exec limits n) (exec limits (suc n)) (Keeps-exec limits n) (λ tree q t r. same_exec n (suc n) (omega arith) tree q t (omega arith)) a p s h
