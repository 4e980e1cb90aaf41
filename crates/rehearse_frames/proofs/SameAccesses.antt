-- A script reads and writes the same for every number of allowed steps that is at least the number of steps left.
use Rattle.std.proofs.Common.{◌≡◌, ◌∙◌, refl, sym, ap, ℕ, zero, suc, ◌+◌, ◌<◌, ◌≤◌, arith, Bool, true, false, List, [], ◌∷◌, ◌++◌, Option, Some, None, nat_lt, nat_le, nat_eq}
use Rattle.hushlang.specs.Tree as tree
use Rattle.hushlang.specs.Tree.{Script, AndOr, Joined, Command, Arms, IsProper, IsProperList, IsProperJoined, IsProperCommand, AreProperArms, HoldsCommand}
use Rattle.hushlang.specs.Expansion.{size, most_bytes}
use Rattle.hushlang_shells.specs.TreesByShell.{TextRead, Runs, Fails, Panics, Unread, started_in, sourced_in}
use Rattle.hushlang_shells.proofs.TreeByShellLemmas.{started_texts_are_proper, sourced_texts_are_proper}
use Rattle.builtins.specs.Builtins.{Builtin, SetEnv, Run, Test, Echo, True, False, Leave, builtin_of}
use Rattle.commands.specs.Computed.{Computed}
use Rattle.device_list.specs.DeviceList.{Effect, effect_of, computed_by, file_in}
use Rattle.rehearse_terms.specs.State.{Text, get, State}
use Rattle.rehearse_rules.specs.Parameters.{parameters_in}
use Rattle.rehearse_rules.specs.ByShell.{fields_in, turns_in, skips_rest, follows, follows_turns, call_in}
use Rattle.rehearse_rules.specs.Needs.{effect_now}
use Rattle.rehearse_rules.specs.Execution.{Limits, Answer, Normal, Exit, Ended, Dry, CutSteps, go_on, set_status, goes, holds, begin_turn, started_text, run_read, exec_script, exec_list, exec_command, exec, request_of, for_begun, block_skipped, exec_arms, turns, for_each, Request, device, sourced, sourced_text, choice_text}
use Rattle.rehearse_rules.proofs.GrowingSteps.{AtLeast, Grew, AtLeast-track, Grew-block}
use Rattle.rehearse_rules.proofs.TakenOutcomes.{KeepsAll, Keeps-script, Keeps-list, Keeps-one, Keeps-exec, Keeps-started, Keeps-device}
use Rattle.rehearse_machine.proofs.StepBoundLemmas.{same_if, block_proper, same_script, same_exec, same_turns, same_for, same_if_arms}
use Rattle.rehearse_machine.proofs.BoundLemmas.{Cut-block}
use Rattle.rehearse_reads.specs.Keys.{Access, Reads, Writes, Environment, Status, all_read}
use Rattle.rehearse_reads.specs.Accesses.{listed_accesses, behind, behind_text, status_written, words_reads, sized_accesses, turns_accesses, turn_accesses, each_accesses, for_accesses, begun_accesses, device_accesses, computed_accesses, read_accesses, started_accesses, run_accesses, builtin_accesses, call_accesses, simple_accesses, script_accesses, list_accesses, joined_accesses, command_accesses, arms_accesses, accesses, modern_accesses, turns_of_accesses, for_words_accesses, compound_accesses, simple_call_accesses, file_accesses, follow_accesses, handed_accesses, sourced_accesses, sourced_text_accesses, one_accesses, here_accesses, chosen_accesses}
use Rattle.rehearse_frames.proofs.NoneBegun.{None-block, None-turns}

pub same_both : (xs ys zs ws : List Access) → xs ≡ ys → zs ≡ ws → xs ++ zs ≡ ys ++ ws
same_both xs ys zs ws e f = ap (λ (l : List Access). l ++ zs) e ∙ ap (λ (l : List Access). ys ++ l) f

pub either : (b : Bool) (xs ys zs ws : List Access) → xs ≡ zs → ys ≡ ws → ◌≡◌ {A = List Access} (elim b [ true ↦ xs | false ↦ ys ]) (elim b [ true ↦ zs | false ↦ ws ])
either true xs ys zs ws e f = e
either false xs ys zs ws e f = f

pub same_behind : (n : ℕ) (a b : Answer) (f g : State → List Access) → AtLeast n a → a ≡ b → ((t : State) → n ≤ t.steps → f t ≡ g t) → behind a f ≡ behind b g
same_behind n (Normal t) b f g l e h = rw (← e) (h t l)
same_behind n (Exit t) b f g l e h = rw (← e) refl
same_behind n (Ended ending t) b f g l e h = rw (← e) refl
same_behind n (Dry t) b f g l e h = rw (← e) refl

same_behind_text : (n : ℕ) (a b : Answer) (f g : State → List Access) → AtLeast n a → a ≡ b → ((t : State) → n ≤ t.steps → f t ≡ g t) → behind_text a f ≡ behind_text b g
same_behind_text n (Normal t) b f g l e h = rw (← e) (ap (λ (xs : List Access). Reads Status ∷ xs) (either (nat_eq t.memory.status 0) (f t) [] (g t) [] (h t l) refl))
same_behind_text n (Exit t) b f g l e h = rw (← e) (ap (λ (xs : List Access). Reads Status ∷ xs) (either (nat_eq t.memory.status 0) (f t) [] (g t) [] (h t l) refl))
same_behind_text n (Ended ending t) b f g l e h = rw (← e) refl
same_behind_text n (Dry t) b f g l e h = rw (← e) refl

goes_on_so : (a : Answer) → go_on a Normal ≡ a
goes_on_so (Normal s) = refl
goes_on_so (Exit s) = refl
goes_on_so (Ended ending s) = refl
goes_on_so (Dry s) = refl

module _ (limits : Limits) where
  module _ (n m : ℕ) (below : n ≤ m) (text text' : Script → State → Answer) (u u' : Script → State → List Access) (kept : (tree : Script) → KeepsAll limits (text tree))
      (same : (tree : Script) → IsProper tree → (t : State) → limits.step_bound < n + t.steps → text tree t ≡ text' tree t)
      (same_u : (tree : Script) → IsProper tree → (t : State) → limits.step_bound < n + t.steps → u tree t ≡ u' tree t) where
    -- ---- answers that are the same

    script_answers : (a : Script) → IsProper a → (s : State) → limits.step_bound ≤ n + s.steps → exec_script limits n text a s ≡ exec_script limits m text' a s
    script_answers = same_script limits n m below text text' kept same

    list_answers : (a : AndOr) → IsProperList a → (s : State) → limits.step_bound ≤ n + s.steps → exec_list limits n text a s ≡ exec_list limits m text' a s
    list_answers a p s h = sym (goes_on_so (exec_list limits n text a s)) ∙ script_answers (tree.Runs a tree.Empty) (p, tt) s h ∙ goes_on_so (exec_list limits m text' a s)

    command_answers : (a : Command) → IsProperCommand a → (s : State) → limits.step_bound ≤ n + s.steps → exec_command limits n text a s ≡ exec_command limits m text' a s
    command_answers a p s h = sym (goes_on_so (exec_command limits n text a s)) ∙ list_answers (tree.Starts a tree.Alone) (p, tt) s h ∙ goes_on_so (exec_command limits m text' a s)

    read_answers : (found : TextRead) (name : Text) → ((tree : Script) → found ≡ Runs tree → IsProper tree) → (t : State) → limits.step_bound < n + t.steps → run_read limits text name found t ≡ run_read limits text' name found t
    read_answers (Runs tree.Empty) name p t h = same tree.Empty tt (set_status 0 t) h
    read_answers (Runs (tree.Runs l ls)) name p t h = same (tree.Runs l ls) (p (tree.Runs l ls) refl) t h
    read_answers Fails name p t h = refl
    read_answers Panics name p t h = refl
    read_answers Unread name p t h = refl

    started_answers : (name v : Text) (t : State) → limits.step_bound < n + t.steps → started_text limits text name v t ≡ started_text limits text' name v t
    started_answers name v t h = read_answers (started_in limits.shell v) name (started_texts_are_proper limits.shell v) t h

    -- ---- texts

    read_same : (found : TextRead) → ((tree : Script) → found ≡ Runs tree → IsProper tree) → (t : State) → limits.step_bound < n + t.steps → read_accesses limits text u found t ≡ read_accesses limits text' u' found t
    read_same Fails p t h = refl
    read_same Panics p t h = refl
    read_same Unread p t h = refl
    read_same (Runs tree.Empty) p t h = ap (λ (xs : List Access). Writes Status ∷ xs) (same_u tree.Empty tt (set_status 0 t) h)
    read_same (Runs (tree.Runs l ls)) p t h = same_u (tree.Runs l ls) (p (tree.Runs l ls) refl) t h

    started_same : (v : Text) (t : State) → limits.step_bound < n + t.steps → started_accesses limits text u v t ≡ started_accesses limits text' u' v t
    started_same v t h = read_same (started_in limits.shell v) (started_texts_are_proper limits.shell v) t h

    named_same : (o : Option Text) (name : Text) (f g : State → List Access) (t : State) → limits.step_bound < n + t.steps → ((x : State) → t.steps ≤ x.steps → f x ≡ g x)
        → ◌≡◌ {A = List Access} (elim o [ None ↦ status_written | Some v ↦ started_accesses limits text u v t ++ behind_text (started_text limits text name v t) f ])
        (elim o [ None ↦ status_written | Some v ↦ started_accesses limits text' u' v t ++ behind_text (started_text limits text' name v t) g ])
    named_same None name f g t h k = refl
    named_same (Some v) name f g t h k =
        same_both (started_accesses limits text u v t) (started_accesses limits text' u' v t) (behind_text (started_text limits text name v t) f) (behind_text (started_text limits text' name v t) g)
        (started_same v t h)
        (same_behind_text t.steps (started_text limits text name v t) (started_text limits text' name v t) f g (AtLeast-track limits.device_bound t (started_text limits text name v t) (Keeps-started limits text kept name v t).0) (started_answers name v t h) k)

    run_same : (names : List Text) (t : State) → limits.step_bound < n + t.steps → run_accesses limits text u names t ≡ run_accesses limits text' u' names t
    run_same [] t h = refl
    run_same (name ∷ names) t h = ap (λ (xs : List Access). Reads (Environment name) ∷ xs) (named_same (get t.memory.environment name) name (run_accesses limits text u names) (run_accesses limits text' u' names) t h (λ x l. run_same names x (omega arith)))

    -- ---- commands

    found_same : (o : Option Text) (name : Text) (t : State) → limits.step_bound < n + t.steps
        → ◌≡◌ {A = List Access} (elim o [ None ↦ status_written | Some v ↦ sourced_text_accesses limits text u name v t ++ behind_text (sourced_text limits text name v t) (λ x. []) ])
        (elim o [ None ↦ status_written | Some v ↦ sourced_text_accesses limits text' u' name v t ++ behind_text (sourced_text limits text' name v t) (λ x. []) ])
    found_same None name t h = refl
    found_same (Some v) name t h =
        let found : TextRead = sourced_in limits.shell v in
        let proper : (tree : Script) → found ≡ Runs tree → IsProper tree = sourced_texts_are_proper limits.shell v in
        ap (λ (xs : List Access). (xs ++ sourced_accesses limits.shell (run_read limits text name found t)) ++ behind_text (sourced limits.shell (run_read limits text name found t)) (λ x. [])) (read_same found proper t h)
        ∙ ap (λ (a : Answer). (read_accesses limits text' u' found t ++ sourced_accesses limits.shell a) ++ behind_text (sourced limits.shell a) (λ x. [])) (read_answers found name proper t h)

    here_same : (name : Text) (before : ℕ) (t : State) → limits.step_bound < n + t.steps → here_accesses limits text u name before t ≡ here_accesses limits text' u' name before t
    here_same name before t h = ap (λ (xs : List Access). Writes Status ∷ xs) (found_same (file_in limits.devices name) name (set_status before t) h)

    one_same : (name : Text) (others : List Text) (before : ℕ) (t : State) → limits.step_bound < n + t.steps → one_accesses limits text u name others before t ≡ one_accesses limits text' u' name others before t
    one_same name [] before t h = here_same name before t h
    one_same name (other ∷ others) before t h =
        let question : Answer = started_text limits text name (choice_text name) t in
        let question' : Answer = started_text limits text' name (choice_text name) t in
        let f : State → List Access = chosen_accesses limits text u name before (one_accesses limits text u other others before) in
        let g : State → List Access = chosen_accesses limits text' u' name before (one_accesses limits text' u' other others before) in
        same_both (started_accesses limits text u (choice_text name) t) (started_accesses limits text' u' (choice_text name) t) (behind question f) (behind question' g)
        (started_same (choice_text name) t h)
        (same_behind t.steps question question' f g (AtLeast-track limits.device_bound t question (Keeps-started limits text kept name (choice_text name) t).0) (started_answers name (choice_text name) t h)
        (λ x r. ap (λ (xs : List Access). Reads Status ∷ xs)
        (either (nat_eq x.memory.status 0) (here_accesses limits text u name before x) (one_accesses limits text u other others before x) (here_accesses limits text' u' name before x) (one_accesses limits text' u' other others before x)
        (here_same name before x (omega arith)) (one_same other others before x (omega arith)))))

    file_same : (name : Text) (others : List Text) (before : ℕ) (t : State) → limits.step_bound < n + t.steps → follow_accesses limits text u name others before t ≡ follow_accesses limits text' u' name others before t
    file_same name others before t h =
        ap (λ (xs : List Access). Reads Status ∷ xs)
        (either (nat_eq t.memory.status 0) (one_accesses limits text u name others before t) [] (one_accesses limits text' u' name others before t) [] (one_same name others before t h) refl)

    handed_same : (runs : List Text) (before : ℕ) (asked : List Access) (a : Answer) (t : State) → AtLeast t.steps a → limits.step_bound < n + t.steps → handed_accesses limits text u runs before asked a ≡ handed_accesses limits text' u' runs before asked a
    handed_same [] before asked a t l h = refl
    handed_same (name ∷ others) before asked a t l h =
        ap (λ (xs : List Access). asked ++ xs) (same_behind t.steps a a (follow_accesses limits text u name others before) (follow_accesses limits text' u' name others before) l refl (λ x r. file_same name others before x (omega arith)))

    builtin_same : (b : Builtin) (name : Text) (ws : List Text) (t : State) → limits.step_bound < n + t.steps → builtin_accesses limits text u b name ws t ≡ builtin_accesses limits text' u' b name ws t
    builtin_same SetEnv name ws t h = refl
    builtin_same Run name [] t h = refl
    builtin_same Run name (w ∷ ws) t h = run_same (w ∷ ws) t h
    builtin_same Test name ws t h = refl
    builtin_same Echo name ws t h = refl
    builtin_same True name ws t h = refl
    builtin_same False name ws t h = refl
    builtin_same Leave name ws t h = refl

    call_same : (name : Text) (ws : List Text) (t : State) → limits.step_bound < n + t.steps → call_accesses limits text u name ws t ≡ call_accesses limits text' u' name ws t
    call_same name ws t h = by (computed_by limits.devices name ws) (builtin_of name) (effect_of limits.devices name ws)
      where
        by : (o : Option Computed) (b : Option Builtin) (f : Option Effect)
            → ◌≡◌ {A = List Access} (elim o [ Some computed ↦ computed_accesses computed | None ↦ elim b [ Some builtin ↦ builtin_accesses limits text u builtin name ws t | None ↦ elim f [ Some effect ↦ handed_accesses limits text u effect.runs t.memory.status (listed_accesses limits name ws effect t) (device limits (request_of name ws (effect_now limits.room t effect)) t) | None ↦ [] ] ] ])
            (elim o [ Some computed ↦ computed_accesses computed | None ↦ elim b [ Some builtin ↦ builtin_accesses limits text' u' builtin name ws t | None ↦ elim f [ Some effect ↦ handed_accesses limits text' u' effect.runs t.memory.status (listed_accesses limits name ws effect t) (device limits (request_of name ws (effect_now limits.room t effect)) t) | None ↦ [] ] ] ])
        by (Some computed) b f = refl
        by None (Some builtin) f = builtin_same builtin name ws t h
        by None None (Some effect) =
            let request : Request = request_of name ws (effect_now limits.room t effect) in
            handed_same effect.runs t.memory.status (listed_accesses limits name ws effect t) (device limits request t) t (AtLeast-track limits.device_bound t (device limits request t) (Keeps-device limits request refl t).0) h
        by None None None = refl

    simple_call_same : (fs : List Text) (t : State) → limits.step_bound < n + t.steps → simple_call_accesses limits text u fs t ≡ simple_call_accesses limits text' u' fs t
    simple_call_same [] t h = refl
    simple_call_same (name ∷ ws) t h = either (follows limits.shell limits.devices name ws) (call_accesses limits text u name ws t) [] (call_accesses limits text' u' name ws t) [] (call_same name ws t h) refl

    simple_same : (fs : List Text) (t : State) → limits.step_bound < n + t.steps → simple_accesses limits text u fs t ≡ simple_accesses limits text' u' fs t
    simple_same fs = simple_call_same (call_in limits.shell fs)

    begun_same : (f g : State → List Access) (s : State) → limits.step_bound ≤ n + s.steps → ((t : State) → limits.step_bound < n + t.steps → f t ≡ g t) → begun_accesses limits f s ≡ begun_accesses limits g s
    begun_same f g s h k = either (nat_lt s.steps limits.step_bound) (f (record s { steps = suc s.steps })) [] (g (record s { steps = suc s.steps })) [] (k (record s { steps = suc s.steps }) (omega arith)) refl

    sized_same : (fs : List Text) (f g : List Text → State → List Access) (t : State) → f fs t ≡ g fs t → sized_accesses fs f t ≡ sized_accesses fs g t
    sized_same fs f g t e = either (nat_le (size fs) most_bytes) (f fs t) [] (g fs t) [] e refl

    -- ---- loops

    pub turns_same : (k j : ℕ) → k ≤ j → (until : Bool) (c c' b b' : State → Answer) (v v' x x' : State → List Access)
        → ((t : State) → limits.step_bound ≤ n + t.steps → c t ≡ c' t) → ((t : State) → limits.step_bound ≤ n + t.steps → b t ≡ b' t)
        → ((t : State) → limits.step_bound ≤ n + t.steps → v t ≡ v' t) → ((t : State) → limits.step_bound ≤ n + t.steps → x t ≡ x' t)
        → ((t : State) → Grew t.steps (c t)) → KeepsAll limits b → ((t : State) → limits.step_bound ≤ t.steps → (c' t ≡ Ended CutSteps t) × (v' t ≡ []))
        → (s : State) → limits.step_bound ≤ k + s.steps → limits.step_bound ≤ n + s.steps → turns_accesses limits.shell k until c b v x s ≡ turns_accesses limits.shell j until c' b' v' x' s
    turns_same zero j le until c c' b b' v v' x x' ec eb ev ex grew kb cut s h l = sym (let e = cut s (omega arith) in None-turns limits m text' u' j until c' b' v' x' s e.1 e.0)
    turns_same (suc k) zero le until c c' b b' v v' x x' ec eb ev ex grew kb cut s h l = absurd (omega arith)
    turns_same (suc k) (suc j) le until c c' b b' v v' x x' ec eb ev ex grew kb cut s h l =
        let next : State → List Access = λ y. Reads Status ∷ turns_accesses limits.shell k until c b v x y in
        let next' : State → List Access = λ y. Reads Status ∷ turns_accesses limits.shell j until c' b' v' x' y in
        let after : State → List Access = λ t. Reads Status ∷ elim (holds until t.memory.status) [ true ↦ x t ++ behind (b t) next | false ↦ status_written ] in
        let after' : State → List Access = λ t. Reads Status ∷ elim (holds until t.memory.status) [ true ↦ x' t ++ behind (b' t) next' | false ↦ status_written ] in
        same_both (v s) (v' s) (behind (c s) after) (behind (c' s) after') (ev s l)
        (same_behind (suc s.steps) (c s) (c' s) after after' (grew s) (ec s l)
        (λ t g. ap (λ (xs : List Access). Reads Status ∷ xs) (either (holds until t.memory.status) (x t ++ behind (b t) next) status_written (x' t ++ behind (b' t) next') status_written
        (same_both (x t) (x' t) (behind (b t) next) (behind (b' t) next') (ex t (omega arith))
        (same_behind t.steps (b t) (b' t) next next' (AtLeast-track limits.device_bound t (b t) (kb t).0) (eb t (omega arith))
        (λ y r. ap (λ (xs : List Access). Reads Status ∷ xs) (turns_same k j (omega arith) until c c' b b' v v' x x' ec eb ev ex grew kb cut y (omega arith) (omega arith)))))
        refl)))

    each_same : (name : Text) (b b' : State → Answer) (x x' : State → List Access) → ((t : State) → limits.step_bound ≤ n + t.steps → b t ≡ b' t) → ((t : State) → limits.step_bound ≤ n + t.steps → x t ≡ x' t) → KeepsAll limits b
        → (fs : List Text) (s : State) → limits.step_bound ≤ n + s.steps → each_accesses limits.shell name b x fs s ≡ each_accesses limits.shell name b' x' fs s
    each_same name b b' x x' eb ex kb [] s l = refl
    each_same name b b' x x' eb ex kb (f ∷ fs) s l =
        let t : State = begin_turn limits.shell name f s in
        ap (λ (xs : List Access). turn_accesses limits.shell name ++ xs)
        (same_both (x t) (x' t) (behind (b t) (each_accesses limits.shell name b x fs)) (behind (b' t) (each_accesses limits.shell name b' x' fs)) (ex t l)
        (same_behind s.steps (b t) (b' t) (each_accesses limits.shell name b x fs) (each_accesses limits.shell name b' x' fs) (AtLeast-track limits.device_bound t (b t) (kb t).0) (eb t l)
        (λ y r. each_same name b b' x x' eb ex kb fs y (omega arith))))

    for_same : (name : Text) (b b' : State → Answer) (x x' : State → List Access) → ((t : State) → limits.step_bound ≤ n + t.steps → b t ≡ b' t) → ((t : State) → limits.step_bound ≤ n + t.steps → x t ≡ x' t) → KeepsAll limits b
        → (fs : List Text) (s : State) → limits.step_bound ≤ n + s.steps → for_accesses limits.shell name b x fs s ≡ for_accesses limits.shell name b' x' fs s
    for_same name b b' x x' eb ex kb [] s l = refl
    for_same name b b' x x' eb ex kb (f ∷ fs) s l = each_same name b b' x x' eb ex kb (f ∷ fs) s l

    words_same : (name : Text) (words : List tree.Word) (b b' : State → Answer) (x x' : State → List Access) → ((t : State) → limits.step_bound ≤ n + t.steps → b t ≡ b' t) → ((t : State) → limits.step_bound ≤ n + t.steps → x t ≡ x' t) → KeepsAll limits b
        → (s : State) → limits.step_bound ≤ n + s.steps → for_words_accesses limits.shell name words b x s ≡ for_words_accesses limits.shell name words b' x' s
    words_same name words b b' x x' eb ex kb s l =
        let fs : List Text = turns_in limits.shell (parameters_in s.memory) words in
        ap (λ (xs : List Access). all_read (words_reads s.memory words) ++ xs)
        (sized_same fs (turns_of_accesses limits.shell name b x) (turns_of_accesses limits.shell name b' x') s
        (either (follows_turns limits.shell name fs) (for_accesses limits.shell name b x fs s ++ compound_accesses limits.shell (for_each limits.shell name b 0 fs s)) [] (for_accesses limits.shell name b' x' fs s ++ compound_accesses limits.shell (for_each limits.shell name b' 0 fs s)) []
        (same_both (for_accesses limits.shell name b x fs s) (for_accesses limits.shell name b' x' fs s) (compound_accesses limits.shell (for_each limits.shell name b 0 fs s)) (compound_accesses limits.shell (for_each limits.shell name b' 0 fs s)) (for_same name b b' x x' eb ex kb fs s l)
        (ap (compound_accesses limits.shell) (same_for limits n m below text text' kept same name b b' eb kb 0 fs s l))) refl))

    -- ---- the tree

    -- a command, and what is joined to it
    joined_behind_same : (c : Command) (links : Joined) → IsProperCommand c → (s : State) → limits.step_bound ≤ n + s.steps → command_accesses limits n text u c s ≡ command_accesses limits m text' u' c s
        → ((t : State) → limits.step_bound ≤ n + t.steps → joined_accesses limits n text u links t ≡ joined_accesses limits m text' u' links t)
        → command_accesses limits n text u c s ++ behind (exec_command limits n text c s) (joined_accesses limits n text u links) ≡ command_accesses limits m text' u' c s ++ behind (exec_command limits m text' c s) (joined_accesses limits m text' u' links)
    joined_behind_same c links p s h e f =
        same_both (command_accesses limits n text u c s) (command_accesses limits m text' u' c s) (behind (exec_command limits n text c s) (joined_accesses limits n text u links)) (behind (exec_command limits m text' c s) (joined_accesses limits m text' u' links)) e
        (same_behind s.steps (exec_command limits n text c s) (exec_command limits m text' c s) (joined_accesses limits n text u links) (joined_accesses limits m text' u' links) (AtLeast-track limits.device_bound s (exec_command limits n text c s) (Keeps-one limits n text kept c s).0) (command_answers c p s h) (λ t r. f t (omega arith)))

    -- an arm of an `if`, and those after it
    arm_same : (c b : Script) (arms : Arms) → HoldsCommand c → (s : State) → limits.step_bound ≤ n + s.steps → script_accesses limits n text u c s ≡ script_accesses limits m text' u' c s
        → ((t : State) → limits.step_bound ≤ n + t.steps → script_accesses limits n text u b t ≡ script_accesses limits m text' u' b t)
        → ((t : State) → limits.step_bound ≤ n + t.steps → arms_accesses limits n text u arms t ≡ arms_accesses limits m text' u' arms t)
        → arms_accesses limits n text u (tree.Arm c b arms) s ≡ arms_accesses limits m text' u' (tree.Arm c b arms) s
    arm_same c b arms p s h e f g =
        let next : State → List Access = λ t. Reads Status ∷ elim (nat_eq t.memory.status 0) [ true ↦ script_accesses limits n text u b t | false ↦ modern_accesses limits.shell ++ arms_accesses limits n text u arms (block_skipped limits.shell b t) ] in
        let next' : State → List Access = λ t. Reads Status ∷ elim (nat_eq t.memory.status 0) [ true ↦ script_accesses limits m text' u' b t | false ↦ modern_accesses limits.shell ++ arms_accesses limits m text' u' arms (block_skipped limits.shell b t) ] in
        same_both (script_accesses limits n text u c s) (script_accesses limits m text' u' c s) (behind (exec_script limits n text c s) next) (behind (exec_script limits m text' c s) next') e
        (same_behind s.steps (exec_script limits n text c s) (exec_script limits m text' c s) next next' (AtLeast-track limits.device_bound s (exec_script limits n text c s) (Keeps-script limits n text kept c s).0) (script_answers c (block_proper c p) s h)
        (λ t r. ap (λ (xs : List Access). Reads Status ∷ xs) (either (nat_eq t.memory.status 0) (script_accesses limits n text u b t) (modern_accesses limits.shell ++ arms_accesses limits n text u arms (block_skipped limits.shell b t)) (script_accesses limits m text' u' b t) (modern_accesses limits.shell ++ arms_accesses limits m text' u' arms (block_skipped limits.shell b t)) (f t (omega arith)) (ap (λ (xs : List Access). modern_accesses limits.shell ++ xs) (g (block_skipped limits.shell b t) (omega arith))))))

    mutual
      pub script_same : (a : Script) → IsProper a → (s : State) → limits.step_bound ≤ n + s.steps → script_accesses limits n text u a s ≡ script_accesses limits m text' u' a s
      script_same tree.Empty p s h = refl
      script_same (tree.Runs l ls) p s h =
          same_both (list_accesses limits n text u l s) (list_accesses limits m text' u' l s) (behind (exec_list limits n text l s) (script_accesses limits n text u ls)) (behind (exec_list limits m text' l s) (script_accesses limits m text' u' ls)) (list_same l p.0 s h)
          (same_behind s.steps (exec_list limits n text l s) (exec_list limits m text' l s) (script_accesses limits n text u ls) (script_accesses limits m text' u' ls) (AtLeast-track limits.device_bound s (exec_list limits n text l s) (Keeps-list limits n text kept l s).0) (list_answers l p.0 s h) (λ t r. script_same ls p.1 t (omega arith)))

      list_same : (a : AndOr) → IsProperList a → (s : State) → limits.step_bound ≤ n + s.steps → list_accesses limits n text u a s ≡ list_accesses limits m text' u' a s
      list_same (tree.Starts c links) p s h = joined_behind_same c links p.0 s h (command_same c p.0 s h) (λ t r. joined_same links p.1 t r)

      joined_same : (a : Joined) → IsProperJoined a → (s : State) → limits.step_bound ≤ n + s.steps → joined_accesses limits n text u a s ≡ joined_accesses limits m text' u' a s
      joined_same tree.Alone p s h = refl
      joined_same (tree.Joins op c links) p s h =
          ap (λ (xs : List Access). Reads Status ∷ xs)
          (either (goes op s.memory.status) (command_accesses limits n text u c s ++ behind (exec_command limits n text c s) (joined_accesses limits n text u links)) (elim (skips_rest limits.shell) [ true ↦ [] | false ↦ joined_accesses limits n text u links s ])
          (command_accesses limits m text' u' c s ++ behind (exec_command limits m text' c s) (joined_accesses limits m text' u' links)) (elim (skips_rest limits.shell) [ true ↦ [] | false ↦ joined_accesses limits m text' u' links s ])
          (joined_behind_same c links p.0 s h (command_same c p.0 s h) (λ t r. joined_same links p.1 t r))
          (either (skips_rest limits.shell) [] (joined_accesses limits n text u links s) [] (joined_accesses limits m text' u' links s) refl (joined_same links p.1 s h)))

      command_same : (a : Command) → IsProperCommand a → (s : State) → limits.step_bound ≤ n + s.steps → command_accesses limits n text u a s ≡ command_accesses limits m text' u' a s
      command_same (tree.Simple words) p s h =
          begun_same (λ t. all_read (words_reads t.memory words) ++ sized_accesses (fields_in limits.shell (parameters_in t.memory) words) (simple_accesses limits text u) t)
          (λ t. all_read (words_reads t.memory words) ++ sized_accesses (fields_in limits.shell (parameters_in t.memory) words) (simple_accesses limits text' u') t) s h
          (λ t r. ap (λ (xs : List Access). all_read (words_reads t.memory words) ++ xs) (sized_same (fields_in limits.shell (parameters_in t.memory) words) (simple_accesses limits text u) (simple_accesses limits text' u') t (simple_same (fields_in limits.shell (parameters_in t.memory) words) t r)))
      command_same (tree.Assign pairs) p s h = refl
      command_same (tree.If arms) p s h =
          same_both (arms_accesses limits n text u arms s) (arms_accesses limits m text' u' arms s) (compound_accesses limits.shell (exec_arms limits n text arms s)) (compound_accesses limits.shell (exec_arms limits m text' arms s)) (if_same arms p s h)
          (ap (compound_accesses limits.shell) (same_if_arms limits n m below text text' kept same arms p s h))
      command_same (tree.Loop until c b) p s h =
          let cond : State → Answer = exec_script limits n text c in
          let cond' : State → Answer = exec_script limits m text' c in
          let body : State → Answer = exec_script limits n text b in
          let body' : State → Answer = exec_script limits m text' b in
          let x : List Access = turns_accesses limits.shell n until cond body (script_accesses limits n text u c) (script_accesses limits n text u b) s in
          let x' : List Access = turns_accesses limits.shell m until cond' body' (script_accesses limits m text' u' c) (script_accesses limits m text' u' b) s in
          same_both x x' (compound_accesses limits.shell (turns limits.shell n until cond body 0 s)) (compound_accesses limits.shell (turns limits.shell m until cond' body' 0 s))
          (turns_same n m below until cond cond' body body' (script_accesses limits n text u c) (script_accesses limits m text' u' c) (script_accesses limits n text u b) (script_accesses limits m text' u' b)
          (script_answers c (block_proper c p.0)) (script_answers b (block_proper b p.1)) (script_same c (block_proper c p.0)) (script_same b (block_proper b p.1))
          (Grew-block limits n text kept c p.0) (Keeps-script limits n text kept b) (λ t r. (Cut-block limits m text' c p.0 t r, None-block limits m text' u' c p.0 t r)) s h h)
          (ap (compound_accesses limits.shell)
          (same_turns limits n m below text text' kept same n m below until cond cond' body body' (script_answers c (block_proper c p.0)) (script_answers b (block_proper b p.1))
          (Grew-block limits n text kept c p.0) (Keeps-script limits n text kept b) (Cut-block limits m text' c p.0) 0 s h h))
      command_same (tree.For name words b) p s h =
          begun_same (λ t. modern_accesses limits.shell ++ for_words_accesses limits.shell name words (exec_script limits n text b) (script_accesses limits n text u b) (for_begun limits.shell t))
          (λ t. modern_accesses limits.shell ++ for_words_accesses limits.shell name words (exec_script limits m text' b) (script_accesses limits m text' u' b) (for_begun limits.shell t)) s h
          (λ t r. ap (λ (xs : List Access). modern_accesses limits.shell ++ xs)
          (words_same name words (exec_script limits n text b) (exec_script limits m text' b) (script_accesses limits n text u b) (script_accesses limits m text' u' b) (script_answers b (block_proper b p)) (script_same b (block_proper b p)) (Keeps-script limits n text kept b) (for_begun limits.shell t) (omega arith)))

      if_same : (a : Arms) → IsProperCommand (tree.If a) → (s : State) → limits.step_bound ≤ n + s.steps → arms_accesses limits n text u a s ≡ arms_accesses limits m text' u' a s
      if_same (tree.Arm c b arms) p s h = arm_same c b arms p.0 s h (script_same c (block_proper c p.0) s h) (script_same b (block_proper b p.1)) (arms_same arms p.2)
      if_same (tree.Else b) p s h = absurd p
      if_same tree.NoElse p s h = absurd p

      arms_same : (a : Arms) → AreProperArms a → (s : State) → limits.step_bound ≤ n + s.steps → arms_accesses limits n text u a s ≡ arms_accesses limits m text' u' a s
      arms_same (tree.Arm c b arms) p s h = arm_same c b arms p.0 s h (script_same c (block_proper c p.0) s h) (script_same b (block_proper b p.1)) (arms_same arms p.2)
      arms_same (tree.Else b) p s h = script_same b (block_proper b p) s h
      arms_same tree.NoElse p s h = refl

  -- more steps than are left make no difference
  pub accesses_same : (n m : ℕ) → n ≤ m → (a : Script) → IsProper a → (s : State) → limits.step_bound ≤ n + s.steps → accesses limits n a s ≡ accesses limits m a s
  accesses_same zero zero le a p s h = refl
  accesses_same zero (suc m) le tree.Empty p s h = refl
  accesses_same zero (suc m) le (tree.Runs l ls) p s h =
      None-block limits zero (λ b t. Ended CutSteps t) (λ b t. []) (tree.Runs l ls) p s (omega arith)
      ∙ sym (None-block limits (suc m) (exec limits m) (accesses limits m) (tree.Runs l ls) p s (omega arith))
  accesses_same (suc n) zero le a p s h = absurd (omega arith)
  accesses_same (suc n) (suc m) le a p s h =
      script_same (suc n) (suc m) le (exec limits n) (exec limits m) (accesses limits n) (accesses limits m) (Keeps-exec limits n)
      (λ tree q t r. same_exec limits n m (omega arith) tree q t (omega arith)) (λ tree q t r. accesses_same n m (omega arith) tree q t (omega arith)) a p s h

  -- so a text that is run reads and writes what its script does
  pub closed_accesses : (n : ℕ) (a : Script) → IsProper a → (s : State) → limits.step_bound ≤ n + s.steps → accesses limits n a s ≡ script_accesses limits n (exec limits n) (accesses limits n) a s
  closed_accesses zero tree.Empty p s h = refl
  closed_accesses zero (tree.Runs l ls) p s h =
      None-block limits zero (λ b t. Ended CutSteps t) (λ b t. []) (tree.Runs l ls) p s (omega arith)
      ∙ sym (None-block limits zero (exec limits zero) (accesses limits zero) (tree.Runs l ls) p s (omega arith))
  closed_accesses (suc n) a p s h =
      script_same (suc n) (suc n) (omega arith) (exec limits n) (exec limits (suc n)) (accesses limits n) (accesses limits (suc n)) (Keeps-exec limits n)
      (λ tree q t r. same_exec limits n (suc n) (omega arith) tree q t (omega arith)) (λ tree q t r. accesses_same n (suc n) (omega arith) tree q t (omega arith)) a p s h
