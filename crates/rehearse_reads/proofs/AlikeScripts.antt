-- A script goes alike from states that agree on what it reads, as far as the bounds allow.
use Rattle.std.proofs.Common.{◌≡◌, ◌∙◌, refl, sym, ap, subst, ℕ, zero, suc, Bool, true, false, List, [], ◌∷◌, ◌++◌, Option, Some, None, nat_eq}
use Rattle.hushlang.specs.Tree as tree
use Rattle.hushlang.specs.Tree.{Script, AndOr, Joined, Command, Arms}
use Rattle.hushlang_shells.specs.TreesByShell.{TextRead, Runs, Fails, Panics, Unread, first_in, started_in, sourced_in}
use Rattle.builtins.specs.Builtins.{Builtin, SetEnv, Run, Test, Echo, True, False, Leave, builtin_of}
use Rattle.commands.specs.Computed.{Computed}
use Rattle.commands.specs.BuiltInCommands.{ChangesVariables, carried, deed_of, setenv, echo, variables_changed, text_written}
use Rattle.device_list.specs.Called.{BuiltIn, Device, NoCommand, called_by}
use Rattle.device_list.specs.DeviceList.{Effect, effect_of, computed_by, file_in}
use Rattle.rehearse_terms.specs.State.{Text, State, LoggedCommand, get}
use Rattle.rehearse_rules.specs.Parameters.{parameters_in}
use Rattle.rehearse_rules.specs.ByShell.{unread, reads_again, leaves_in, status_of_exit, asks_in, truth_in, fields_in, turns_in, skips_rest, follows, call_in}
use Rattle.rehearse_rules.specs.Needs.{effect_now}
use Rattle.rehearse_rules.proofs.NeedsLemmas.{now_runs}
use Rattle.rehearse_rules.specs.Execution.{Limits, Answer, Normal, Exit, Ended, Dry, Ending, CutSteps, Unknown, Unsupported, Panic, go_on, choice_text, chosen, run_one, set_status, status_when, remember, goes, device, test_request, text_end, run_read, run_text, started_text, run_all, command, simple, sized, assign, exec_script, exec_list, exec_joined, exec_command, exec_arms, exec, turns_of, for_words, for_begun, block_skipped, turns, simple_call, request_of, run_file, file_follows, handed_over, sourced_text, Request}
use Rattle.rehearse_rules.proofs.TakenOutcomes.{KeepsAll, Keeps-if, Keeps-run, Keeps-simple, Keeps-sized, Keeps-assign, Keeps-script, Keeps-joined, Keeps-arms, Keeps-exec, Keeps-ended, Keeps-words, Keeps-skip, Keeps-stays, Keeps-file, Keeps-one_file, Keeps-chosen}
use Rattle.rehearse_reads.specs.Keys.{Key, Environment, Status, Access, Reads, Writes, AreAmong, AgreeOn, all_read, ReadsWithin, known_after}
use Rattle.rehearse_reads.specs.Alike.{AreAbreast, IsAlike, same, cut_here, beyond}
use Rattle.rehearse_reads.specs.Accesses.{here_accesses, chosen_accesses, one_accesses, behind, behind_text, status_written, words_reads, success_reads, device_accesses, listed_accesses, computed_accesses, setenv_accesses, tree_accesses, read_accesses, text_accesses, started_accesses, run_accesses, builtin_accesses, call_accesses, simple_accesses, sized_accesses, assign_accesses, script_accesses, list_accesses, joined_accesses, command_accesses, arms_accesses, accesses, modern_accesses, turns_of_accesses, for_words_accesses, turns_accesses, simple_call_accesses, file_accesses, follow_accesses, handed_accesses, sourced_text_accesses}
use Rattle.rehearse_reads.proofs.AccessLemmas.{read_first, read_then, within_first, within_then}
use Rattle.rehearse_reads.proofs.AbreastLemmas.{near_status, near_computed, near_sets, near_echoed}
use Rattle.rehearse_reads.proofs.SameWords.{fields_agree, turns_agree}
use Rattle.rehearse_reads.proofs.AlikeParts.{normal_alike, exit_alike, ended_alike, if_alike, after_keys, go_on_alike, Alike-go_on, Alike-text_end, sized_alike, after_then}
use Rattle.rehearse_reads.proofs.AlikeDevices.{Alike-begin, Alike-device, Alike-listed, asked_knows}
use Rattle.rehearse_reads.proofs.AlikeLoops.{Alike-skip, Alike-assign, nothing_alike, no_block_alike, Alike-turns, Alike-turns_of, near_for, Alike-compound, Alike-sourced}

module _ (limits : Limits) (i j : ℕ) (k l : List LoggedCommand) where
  abbrev Is : List Key → Answer → Answer → Type 0
  Is known a b = IsAlike limits i j k l known a b

  abbrev Near : List Key → State → State → Type 0
  Near known s t = AreAbreast limits i j k l known s t

  abbrev AlwaysDoes : (State → Answer) → (State → List Access) → Type 0
  AlwaysDoes f u = (known : List Key) (s t : State) → Near known s t → ReadsWithin known (u s) → Is (known_after known (u s)) (f s) (f t)

  -- a status that is set
  status_alike : (n : ℕ) → AlwaysDoes (λ s. Normal (set_status n s)) (λ s. status_written)
  status_alike n known s t near w = normal_alike limits i j k l (Status ∷ known) (set_status n s) (set_status n t) (near_status limits i j k l known s t n near)

  -- a choice that is the same in both states
  alike_if : (b : Bool) (f g : State → Answer) (u v : State → List Access) → AlwaysDoes f u → AlwaysDoes g v → AlwaysDoes (λ s. elim b [ true ↦ f s | false ↦ g s ]) (λ s. elim b [ true ↦ u s | false ↦ v s ])
  alike_if true f g u v h m = h
  alike_if false f g u v h m = m

  stays_alike : AlwaysDoes Normal (λ s. [])
  stays_alike known s t near w = normal_alike limits i j k l known s t near

  ends_alike : (ending : Ending) → AlwaysDoes (Ended ending) (λ s. [])
  ends_alike ending known s t near w = ended_alike limits i j k l known ending s t near

  -- a `run`, if each script goes alike
  module _ (script : Script → State → Answer) (of_script : Script → State → List Access) (kept : (a : Script) → KeepsAll limits (script a)) (does : (a : Script) → AlwaysDoes (script a) (of_script a)) where
    Alike-read : (found : TextRead) (name : Text) → AlwaysDoes (run_read limits script name found) (read_accesses limits script of_script found)
    Alike-read (Runs tree.Empty) name known s t near w = does tree.Empty (Status ∷ known) (set_status 0 s) (set_status 0 t) (near_status limits i j k l known s t 0 near) w
    Alike-read (Runs (tree.Runs x xs)) name known s t near w = does (tree.Runs x xs) known s t near w
    Alike-read Fails name known s t near w = status_alike 1 known s t near w
    Alike-read Panics name known s t near w = ended_alike limits i j k l known (Panic name) s t near
    Alike-read Unread name known s t near w = ended_alike limits i j k l known (unread limits.shell name) s t near

    pub Alike-text : (name text : Text) → AlwaysDoes (run_text limits script name text) (text_accesses limits script of_script text)
    Alike-text name text = Alike-read (first_in limits.shell text) name

    Alike-started : (name text : Text) → AlwaysDoes (started_text limits script name text) (started_accesses limits script of_script text)
    Alike-started name text = Alike-read (started_in limits.shell text) name

    Alike-named : (found : Option Text) (name : Text) (next : State → Answer) (u : State → List Access) → AlwaysDoes next u → KeepsAll limits next
        → AlwaysDoes (λ s. elim found [ None ↦ Normal (set_status 1 s) | Some text ↦ text_end limits.shell (started_text limits script name text s) next ])
        (λ s. elim found [ None ↦ status_written | Some text ↦ started_accesses limits script of_script text s ++ behind_text (started_text limits script name text s) u ])
    Alike-named None name next u h m known s t near w = status_alike 1 known s t near w
    Alike-named (Some text) name next u h m known s t near w =
        Alike-text_end limits i j k l known s t (started_text limits script name text) next (started_accesses limits script of_script text) u (Alike-started name text known s t) h m near w

    pub Alike-run : (names : List Text) → AlwaysDoes (run_all limits script names) (run_accesses limits script of_script names)
    Alike-run [] known s t near w = normal_alike limits i j k l known s t near
    Alike-run (name ∷ names) known s t near w =
        let next : State → Answer = run_all limits script names in
        let here : List Key = known_after known (run_accesses limits script of_script (name ∷ names) s) in
        subst (λ (o : Option Text). Is here (run_all limits script (name ∷ names) s) (elim o [ None ↦ Normal (set_status 1 t) | Some text ↦ text_end limits.shell (started_text limits script name text t) next ])) (sym (near.keys (Environment name) w.0))
        (Alike-named (get s.memory.environment name) name next (run_accesses limits script of_script names) (Alike-run names) (Keeps-run limits script kept names) known s t near w.1)

    -- ---- a command

    Alike-sourced_text : (name text : Text) → AlwaysDoes (sourced_text limits script name text) (sourced_text_accesses limits script of_script name text)
    Alike-sourced_text name text = Alike-sourced limits i j k l (run_read limits script name (sourced_in limits.shell text)) (read_accesses limits script of_script (sourced_in limits.shell text)) (Alike-read (sourced_in limits.shell text) name)

    Alike-found : (found : Option Text) (name : Text)
        → AlwaysDoes (λ s. elim found [ None ↦ Normal (set_status 1 s) | Some text ↦ text_end limits.shell (sourced_text limits script name text s) Normal ])
        (λ s. elim found [ None ↦ status_written | Some text ↦ sourced_text_accesses limits script of_script name text s ++ behind_text (sourced_text limits script name text s) (λ t. []) ])
    Alike-found None name known s t near w = status_alike 1 known s t near w
    Alike-found (Some text) name known s t near w =
        Alike-text_end limits i j k l known s t (sourced_text limits script name text) Normal (sourced_text_accesses limits script of_script name text) (λ x. []) (Alike-sourced_text name text known s t) stays_alike (Keeps-stays limits.device_bound) near w

    Alike-here : (name : Text) (before : ℕ) → AlwaysDoes (λ s. run_file limits script name (set_status before s)) (here_accesses limits script of_script name before)
    Alike-here name before known s t near w = Alike-found (file_in limits.devices name) name (Status ∷ known) (set_status before s) (set_status before t) (near_status limits i j k l known s t before near) w

    pub Alike-chosen : (name : Text) (before : ℕ) (next : State → Answer) (u : State → List Access) → AlwaysDoes next u → AlwaysDoes (chosen limits script name before next) (chosen_accesses limits script of_script name before u)
    Alike-chosen name before next u h known s t near w =
        if_alike limits i j k l known (nat_eq s.memory.status 0) (nat_eq t.memory.status 0) (ap (λ (n : ℕ). nat_eq n 0) (near.keys Status w.0))
        (run_file limits script name (set_status before s)) (next s) (run_file limits script name (set_status before t)) (next t) (here_accesses limits script of_script name before s) (u s)
        (Alike-here name before known s t near) (h known s t near) w.1

    pub Alike-one_file : (name : Text) (others : List Text) (before : ℕ) → AlwaysDoes (run_one limits script name others before) (one_accesses limits script of_script name others before)
    Alike-one_file name [] before known s t near w = Alike-here name before known s t near w
    Alike-one_file name (other ∷ others) before known s t near w =
        let next : State → Answer = run_one limits script other others before in
        let u : State → List Access = one_accesses limits script of_script other others before in
        let f : State → Answer = started_text limits script name (choice_text name) in
        let g : State → Answer = chosen limits script name before next in
        let v : State → List Access = chosen_accesses limits script of_script name before u in
        let asked : List Access = started_accesses limits script of_script (choice_text name) s in
        let within : ReadsWithin known asked = within_first known asked (behind (f s) v) w in
        after_then limits i j k l known asked (behind (f s) v) (go_on (f s) g) (go_on (f t) g)
        (go_on_alike limits i j k l (known_after known asked) (f s) (f t) g v (Alike-chosen name before next u (Alike-one_file other others before)) (Keeps-chosen limits script kept name before next (Keeps-one_file limits script kept other others before)) (within_then known asked (behind (f s) v) w)
        (Alike-started name (choice_text name) known s t near within))

    pub Alike-file : (name : Text) (others : List Text) (before : ℕ) → AlwaysDoes (file_follows limits script name others before) (follow_accesses limits script of_script name others before)
    Alike-file name others before known s t near w =
        if_alike limits i j k l known (nat_eq s.memory.status 0) (nat_eq t.memory.status 0) (ap (λ (n : ℕ). nat_eq n 0) (near.keys Status w.0))
        (run_one limits script name others before s) (Normal s) (run_one limits script name others before t) (Normal t) (one_accesses limits script of_script name others before s) []
        (Alike-one_file name others before known s t near) (stays_alike known s t near) w.1

    -- what follows an answer may go by the state before it, which is the same where something follows
    before_alike : (ks known : List Key) (a b : Answer) (g h : State → Answer) → ((u : State) → a ≡ Normal u → h ≡ g) → Is ks a b → Is known (go_on a g) (go_on b g) → Is known (go_on a g) (go_on b h)
    before_alike ks known (Normal u) b g h e x y = subst (λ (f : State → Answer). Is known (g u) (go_on b f)) (sym (e u refl)) y
    before_alike ks known (Exit u) b g h e (same x) y = subst (λ (z : Answer). Is known (Exit u) (go_on z h)) (sym x.is) (subst (λ (z : Answer). Is known (Exit u) (go_on z g)) x.is y)
    before_alike ks known (Exit u) b g h e (cut_here x) y = absurd x
    before_alike ks known (Exit u) b g h e (beyond x) y = beyond x
    before_alike ks known (Ended ending u) b g h e (same x) y = subst (λ (z : Answer). Is known (Ended ending u) (go_on z h)) (sym x.is) (subst (λ (z : Answer). Is known (Ended ending u) (go_on z g)) x.is y)
    before_alike ks known (Ended ending u) b g h e (cut_here x) y = cut_here x
    before_alike ks known (Ended ending u) b g h e (beyond x) y = beyond x
    before_alike ks known (Dry u) b g h e (same x) y = subst (λ (z : Answer). Is known (Dry u) (go_on z h)) (sym x.is) (subst (λ (z : Answer). Is known (Dry u) (go_on z g)) x.is y)
    before_alike ks known (Dry u) b g h e (cut_here x) y = absurd x
    before_alike ks known (Dry u) b g h e (beyond x) y = beyond x

    Alike-handed : (name : Text) (words : List Text) (effect : Effect) (runs : List Text) → effect.runs ≡ runs
        → AlwaysDoes (λ s. handed_over limits script runs s.memory.status (device limits (request_of name words (effect_now limits.room s effect)) s))
        (λ s. handed_accesses limits script of_script runs s.memory.status (listed_accesses limits name words effect s) (device limits (request_of name words (effect_now limits.room s effect)) s))
    Alike-handed name words effect [] e known s t near w = Alike-listed limits i j k l name words effect known s t near w
    Alike-handed name words effect (file ∷ others) e known s t near w =
        let request : Request = request_of name words (effect_now limits.room s effect) in
        let f : State → Answer = λ x. device limits (request_of name words (effect_now limits.room x effect)) x in
        let g : ℕ → State → Answer = file_follows limits script file others in
        let asked : List Access = listed_accesses limits name words effect s in
        let v : State → List Access = follow_accesses limits script of_script file others s.memory.status in
        let within : ReadsWithin known asked = within_first known asked (behind (f s) v) w in
        let near_asked : Is (known_after known asked) (f s) (f t) = Alike-listed limits i j k l name words effect known s t near within in
        let status : (u : State) → f s ≡ Normal u → g t.memory.status ≡ g s.memory.status =
        λ u is. ap g (near.keys Status (asked_knows limits i j k l known request file others (now_runs limits.room s effect ∙ e) s u is (read_then known (success_reads limits.room effect) (device_accesses limits request s) within))) in
        after_then limits i j k l known asked (behind (f s) v) (go_on (f s) (g s.memory.status)) (go_on (f t) (g t.memory.status))
        (before_alike (known_after known asked) (known_after (known_after known asked) (behind (f s) v)) (f s) (f t) (g s.memory.status) (g t.memory.status) status near_asked
        (go_on_alike limits i j k l (known_after known asked) (f s) (f t) (g s.memory.status) v (Alike-file file others s.memory.status) (Keeps-file limits script kept file others s.memory.status) (within_then known asked (behind (f s) v) w) near_asked))

    Alike-leave : (status : Option ℕ) (other : ℕ) → AlwaysDoes (λ s. elim status [ Some n ↦ Exit (set_status n s) | None ↦ Normal (set_status other s) ]) (λ s. status_written)
    Alike-leave (Some n) other known s t near w = exit_alike limits i j k l (Status ∷ known) (set_status n s) (set_status n t) (near_status limits i j k l known s t n near)
    Alike-leave None other known s t near w = status_alike other known s t near w

    Alike-builtin : (again : Bool) (builtin : Builtin) (name : Text) (words : List Text) → AlwaysDoes (command limits again script (BuiltIn (deed_of builtin)) name words) (builtin_accesses limits script of_script builtin name words)
    Alike-builtin again SetEnv name words known s t near w =
        normal_alike limits i j k l (known_after known (setenv_accesses words)) (remember (variables_changed setenv words) s) (remember (variables_changed setenv words) t) (near_sets limits i j k l words known s t near)
    Alike-builtin again Run name [] known s t near w = status_alike 1 known s t near w
    Alike-builtin again Run name (x ∷ xs) known s t near w = Alike-run (x ∷ xs) known s t near w
    Alike-builtin again Test name words known s t near w =
        alike_if (asks_in limits.shell words) (device limits (test_request limits name words)) (λ x. Normal (set_status (status_when (truth_in limits.shell words)) x)) (device_accesses limits (test_request limits name words)) (λ x. status_written) (Alike-device limits i j k l (test_request limits name words)) (status_alike (status_when (truth_in limits.shell words))) known s t near w
    Alike-builtin again Echo name words known s t near w = normal_alike limits i j k l (Status ∷ known) (remember (text_written echo words) s) (remember (text_written echo words) t) (near_echoed limits i j k l known s t echo words near)
    Alike-builtin again True name words known s t near w = status_alike 0 known s t near w
    Alike-builtin again False name words known s t near w = status_alike 1 known s t near w
    Alike-builtin again Leave name words known s t near w = Alike-leave (leaves_in limits.shell again words) (status_of_exit limits.shell words) known s t near w

    Alike-call : (again : Bool) (name : Text) (words : List Text) → AlwaysDoes (command limits again script (called_by limits.devices name words) name words) (call_accesses limits script of_script name words)
    Alike-call again name words = by (computed_by limits.devices name words) (builtin_of name) (effect_of limits.devices name words)
      where
        by : (o : Option Computed) (b : Option Builtin) (f : Option Effect)
            → AlwaysDoes (command limits again script (elim o [ Some computed ↦ BuiltIn (ChangesVariables (λ ws. carried computed)) | None ↦ elim b [ Some builtin ↦ BuiltIn (deed_of builtin) | None ↦ elim f [ Some effect ↦ Device effect | None ↦ NoCommand ] ] ]) name words)
            (λ s. elim o [ Some computed ↦ computed_accesses computed | None ↦ elim b [ Some builtin ↦ builtin_accesses limits script of_script builtin name words s | None ↦ elim f [ Some effect ↦ handed_accesses limits script of_script effect.runs s.memory.status (listed_accesses limits name words effect s) (device limits (request_of name words (effect_now limits.room s effect)) s) | None ↦ [] ] ] ])
        by (Some computed) b f known s t near w =
            normal_alike limits i j k l (known_after known (computed_accesses computed)) (remember (variables_changed (λ ws. carried computed) words) s) (remember (variables_changed (λ ws. carried computed) words) t) (near_computed limits i j k l computed known s t near w)
        by None (Some builtin) f known s t near w = Alike-builtin again builtin name words known s t near w
        by None None (Some effect) known s t near w =
            Alike-handed name words effect effect.runs refl known s t near w
        by None None None known s t near w = ended_alike limits i j k l known (Unknown name) s t near

    Alike-simple-call : (again : Bool) (fs : List Text) → AlwaysDoes (simple_call limits again script fs) (simple_call_accesses limits script of_script fs)
    Alike-simple-call again [] known s t near w = nothing_alike limits i j k l limits.shell known s t near
    Alike-simple-call again (name ∷ words) known s t near w =
        alike_if (follows limits.shell limits.devices name words) (command limits again script (called_by limits.devices name words) name words) (Ended (Unsupported name)) (call_accesses limits script of_script name words) (λ x. []) (Alike-call again name words) (ends_alike (Unsupported name)) known s t near w

    pub Alike-simple : (again : Bool) (fs : List Text) → AlwaysDoes (simple limits again script fs) (simple_accesses limits script of_script fs)
    Alike-simple again fs = Alike-simple-call again (call_in limits.shell fs)

  -- ---- words that are expanded: to the same fields

  expanded_alike : (expand : State → List Text) (words : List tree.Word) → ((known : List Key) (s t : State) → AgreeOn known s t → AreAmong (words_reads s.memory words) known → expand t ≡ expand s)
      → (f : List Text → State → Answer) (u : List Text → State → List Access) → ((fs : List Text) → AlwaysDoes (f fs) (u fs))
      → AlwaysDoes (λ t. sized (expand t) f t) (λ t. all_read (words_reads t.memory words) ++ sized_accesses (expand t) u t)
  expanded_alike expand words agree f u h known s t near w =
      let rest : List Access = sized_accesses (expand s) u s in
      after_keys limits i j k l known (words_reads s.memory words) rest (sized (expand s) f s) (sized (expand t) f t)
      (sized_alike limits i j k l known s t (expand s) (expand t) f u (agree known s t near.keys (read_first known (words_reads s.memory words) rest w)) (h (expand s) known s t) near (read_then known (words_reads s.memory words) rest w))

  fields_alike : (words : List tree.Word) (f : List Text → State → Answer) (u : List Text → State → List Access) → ((fs : List Text) → AlwaysDoes (f fs) (u fs))
      → AlwaysDoes (λ t. sized (fields_in limits.shell (parameters_in t.memory) words) f t) (λ t. all_read (words_reads t.memory words) ++ sized_accesses (fields_in limits.shell (parameters_in t.memory) words) u t)
  fields_alike words f u h = expanded_alike (λ t. fields_in limits.shell (parameters_in t.memory) words) words (λ known s t agree w. fields_agree known s t agree limits.shell words w) f u h

  turned_alike : (words : List tree.Word) (f : List Text → State → Answer) (u : List Text → State → List Access) → ((fs : List Text) → AlwaysDoes (f fs) (u fs))
      → AlwaysDoes (λ t. sized (turns_in limits.shell (parameters_in t.memory) words) f t) (λ t. all_read (words_reads t.memory words) ++ sized_accesses (turns_in limits.shell (parameters_in t.memory) words) u t)
  turned_alike words f u h = expanded_alike (λ t. turns_in limits.shell (parameters_in t.memory) words) words (λ known s t agree w. turns_agree known s t agree limits.shell words w) f u h

  for_alike : (name : Text) (words : List tree.Word) (b : State → Answer) (v : State → List Access) → AlwaysDoes b v → KeepsAll limits b
      → AlwaysDoes (λ t. for_words limits.shell name words b (for_begun limits.shell t)) (λ t. modern_accesses limits.shell ++ for_words_accesses limits.shell name words b v (for_begun limits.shell t))
  for_alike name words b v h kb known s t near w =
      let first : List Access = modern_accesses limits.shell in
      let s' : State = for_begun limits.shell s in
      let t' : State = for_begun limits.shell t in
      let rest : List Access = for_words_accesses limits.shell name words b v s' in
      after_then limits i j k l known first rest (for_words limits.shell name words b s') (for_words limits.shell name words b t')
      (turned_alike words (turns_of limits.shell name b) (turns_of_accesses limits.shell name b v) (Alike-turns_of limits i j k l name b v h kb) (known_after known first) s' t' (near_for limits i j k l limits.shell known s t near) (within_then known first rest w))

  -- ---- the tree

  module _ (left : ℕ) (text : Script → State → Answer) (of_text : Script → State → List Access) (kept : (a : Script) → KeepsAll limits (text a)) (does : (a : Script) → AlwaysDoes (text a) (of_text a)) where
    mutual
      pub Alike-script : (a : Script) → AlwaysDoes (exec_script limits left text a) (script_accesses limits left text of_text a)
      Alike-script tree.Empty known s t near w = normal_alike limits i j k l known s t near
      Alike-script (tree.Runs c more) known s t near w =
          Alike-go_on limits i j k l known s t (exec_list limits left text c) (exec_script limits left text more) (list_accesses limits left text of_text c) (script_accesses limits left text of_text more) (Alike-list c known s t) (Alike-script more) (Keeps-script limits left text kept more) near w

      pub Alike-list : (a : AndOr) → AlwaysDoes (exec_list limits left text a) (list_accesses limits left text of_text a)
      Alike-list (tree.Starts c rest) known s t near w =
          Alike-go_on limits i j k l known s t (exec_command limits left text c) (exec_joined limits left text rest) (command_accesses limits left text of_text c) (joined_accesses limits left text of_text rest) (Alike-one c known s t) (Alike-joined rest) (Keeps-joined limits left text kept rest) near w

      pub Alike-joined : (a : Joined) → AlwaysDoes (exec_joined limits left text a) (joined_accesses limits left text of_text a)
      Alike-joined tree.Alone known s t near w = normal_alike limits i j k l known s t near
      Alike-joined (tree.Joins op c rest) known s t near w =
          let last : State → Answer = exec_joined limits left text rest in
          let of_last : State → List Access = joined_accesses limits left text of_text rest in
          if_alike limits i j k l known (goes op s.memory.status) (goes op t.memory.status) (ap (λ (n : ℕ). goes op n) (near.keys Status w.0))
          (go_on (exec_command limits left text c s) last) (elim (skips_rest limits.shell) [ true ↦ Normal s | false ↦ last s ])
          (go_on (exec_command limits left text c t) last) (elim (skips_rest limits.shell) [ true ↦ Normal t | false ↦ last t ])
          (command_accesses limits left text of_text c s ++ behind (exec_command limits left text c s) of_last) (elim (skips_rest limits.shell) [ true ↦ [] | false ↦ of_last s ])
          (Alike-go_on limits i j k l known s t (exec_command limits left text c) last (command_accesses limits left text of_text c) of_last (Alike-one c known s t) (Alike-joined rest) (Keeps-joined limits left text kept rest) near)
          (alike_if (skips_rest limits.shell) Normal last (λ x. []) of_last stays_alike (Alike-joined rest) known s t near)
          w.1

      pub Alike-one : (a : Command) → AlwaysDoes (exec_command limits left text a) (command_accesses limits left text of_text a)
      Alike-one (tree.Simple words) known s t near w =
          Alike-begin limits i j k l (λ x. sized (fields_in limits.shell (parameters_in x.memory) words) (simple limits (reads_again words) text) x)
          (λ x. all_read (words_reads x.memory words) ++ sized_accesses (fields_in limits.shell (parameters_in x.memory) words) (simple_accesses limits text of_text) x)
          (fields_alike words (simple limits (reads_again words) text) (simple_accesses limits text of_text) (Alike-simple text of_text kept does (reads_again words)))
          (λ x. Keeps-sized limits (fields_in limits.shell (parameters_in x.memory) words) (simple limits (reads_again words) text) (Keeps-simple limits text kept (reads_again words)) x)
          known s t near w
      Alike-one (tree.Assign pairs) known s t near w =
          Alike-begin limits i j k l (assign limits.shell pairs) (assign_accesses limits.shell pairs) (Alike-assign limits i j k l limits.shell pairs) (Keeps-assign limits pairs) known s t near w
      Alike-one (tree.If arms) known s t near w = Alike-compound limits i j k l (exec_arms limits left text arms) (arms_accesses limits left text of_text arms) (Alike-arms arms) known s t near w
      Alike-one (tree.Loop until c b) known s t near w =
          let cond : State → Answer = exec_script limits left text c in
          let body : State → Answer = exec_script limits left text b in
          let of_cond : State → List Access = script_accesses limits left text of_text c in
          let of_body : State → List Access = script_accesses limits left text of_text b in
          Alike-compound limits i j k l (turns limits.shell left until cond body 0) (turns_accesses limits.shell left until cond body of_cond of_body)
          (Alike-turns limits i j k l left until cond body of_cond of_body (Alike-script c) (Alike-script b) (Keeps-script limits left text kept c) (Keeps-script limits left text kept b) 0) known s t near w
      Alike-one (tree.For name words b) known s t near w =
          let body : State → Answer = exec_script limits left text b in
          let of_body : State → List Access = script_accesses limits left text of_text b in
          Alike-begin limits i j k l (λ x. for_words limits.shell name words body (for_begun limits.shell x))
          (λ x. modern_accesses limits.shell ++ for_words_accesses limits.shell name words body of_body (for_begun limits.shell x))
          (for_alike name words body of_body (Alike-script b) (Keeps-script limits left text kept b))
          (Keeps-words limits name words body (Keeps-script limits left text kept b))
          known s t near w

      pub Alike-arms : (a : Arms) → AlwaysDoes (exec_arms limits left text a) (arms_accesses limits left text of_text a)
      Alike-arms tree.NoElse known s t near w = no_block_alike limits i j k l limits.shell known s t near
      Alike-arms (tree.Else b) known s t near w = Alike-script b known s t near w
      Alike-arms (tree.Arm c b arms) known s t near w =
          Alike-go_on limits i j k l known s t (exec_script limits left text c) (λ x. elim (nat_eq x.memory.status 0) [ true ↦ exec_script limits left text b x | false ↦ exec_arms limits left text arms (block_skipped limits.shell b x) ])
          (script_accesses limits left text of_text c) (λ x. Reads Status ∷ elim (nat_eq x.memory.status 0) [ true ↦ script_accesses limits left text of_text b x | false ↦ modern_accesses limits.shell ++ arms_accesses limits left text of_text arms (block_skipped limits.shell b x) ])
          (Alike-script c known s t)
          (λ ks x y close m. if_alike limits i j k l ks (nat_eq x.memory.status 0) (nat_eq y.memory.status 0) (ap (λ (n : ℕ). nat_eq n 0) (close.keys Status m.0))
          (exec_script limits left text b x) (exec_arms limits left text arms (block_skipped limits.shell b x)) (exec_script limits left text b y) (exec_arms limits left text arms (block_skipped limits.shell b y))
          (script_accesses limits left text of_text b x) (modern_accesses limits.shell ++ arms_accesses limits left text of_text arms (block_skipped limits.shell b x))
          (Alike-script b ks x y close) (Alike-skip limits i j k l b (exec_arms limits left text arms) (arms_accesses limits left text of_text arms) (Alike-arms arms) ks x y (close.keys Status m.0) close) m.1)
          (λ x. Keeps-if limits.device_bound x (nat_eq x.memory.status 0) (exec_script limits left text b) (λ y. exec_arms limits left text arms (block_skipped limits.shell b y)) (Keeps-script limits left text kept b x) (Keeps-skip limits b (exec_arms limits left text arms) (Keeps-arms limits left text kept arms) x))
          near w

  -- a script goes alike, whatever steps are left
  pub Alike-exec : (left : ℕ) (a : Script) → AlwaysDoes (exec limits left a) (accesses limits left a)
  Alike-exec zero a = Alike-script zero (λ t s. Ended CutSteps s) (λ t s. []) (λ b s. Keeps-ended limits.device_bound s CutSteps) (λ b. ends_alike CutSteps) a
  Alike-exec (suc left) a = Alike-script (suc left) (exec limits left) (accesses limits left) (Keeps-exec limits left) (Alike-exec left) a
