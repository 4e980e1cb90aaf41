-- What each device command keeps of the log, a run keeps of it.
use Rattle.std.proofs.Common.{◌≡◌, ℕ, zero, suc, Bool, true, false, List, [], ◌∷◌, length, Option, Some, None, refl, nat_lt, nat_le, nat_eq}
use Rattle.hushlang.specs.Tree as tree
use Rattle.hushlang.specs.Tree.{Script, AndOr, Joined, Command, Arms}
use Rattle.hushlang.specs.Expansion.{size, most_bytes}
use Rattle.builtins.specs.Builtins.{Builtin, SetEnv, Run, Test, Echo, True, False, Leave, builtin_of}
use Rattle.commands.specs.Computed.{Computed}
use Rattle.device_list.specs.Called.{Called, BuiltIn, Device, NoCommand, called_by}
use Rattle.commands.specs.BuiltInCommands.{ChangesVariables, WritesText, RunsTexts, Tests, Exits, carried, deed_of}
use Rattle.device_list.specs.DeviceList.{Effect, computed_by, effect_of, file_in}
use Rattle.rehearse_rules.proofs.TakenOutcomes.{skipped}
use Rattle.rehearse_terms.specs.declared.shell.Shell.{Shell}
use Rattle.rehearse_terms.specs.declared.shell.Shell.TheVariants.{Profile, Old2023, Old2025, Modern2025}
use Rattle.rehearse_rules.specs.ByShell.{call_in, unread, reads_again, leaves_in, status_of_exit, asks_in, question_in, truth_in, fields_in, turns_in, skips_rest, status_of_loop, follows, assigned_in, follows_turns}
use Rattle.rehearse_rules.specs.Execution.{Limits, Answer, Normal, Exit, Ended, Dry, CutSteps, Size, Request, go_on, set_status, status_when, goes, holds, begin, device, test_effect, text_end, run_read, run_text, run_all, command, simple_call, simple, sized, assign, turns, begin_turn, for_each, exec_script, exec_list, exec_joined, exec_command, exec_arms, exec, Unsupported, assign_local, request_of, test_request, started_text, text_failed, turns_of, for_words, for_begun, block_skipped, compound, compound_end, run_file, choice_text, chosen, run_one, file_follows, handed_over, sourced, left_to_prompt, sourced_text}
use Rattle.rehearse_rules.specs.Needs.{effect_now}
use Rattle.rehearse_rules.specs.Runs.{state_of}
use Rattle.rehearse_terms.specs.State.{Text, get, LoggedCommand, State}
use Rattle.rehearse_rules.specs.Parameters.{parameters_in}
use Rattle.hushlang_shells.specs.TreesByShell.{TextRead, Runs, Fails, Panics, Unread, first_in, started_in, sourced_in}

module _ (P : List LoggedCommand → Type 0) where
  -- it holds of the log
  abbrev pub Holds : State → Type 0
  Holds s = P s.log

  -- and so it does after this
  abbrev pub KeepsLog : (State → Answer) → Type 0
  KeepsLog f = (s : State) → Holds s → Holds (state_of (f s))

  keeps-if : (b : Bool) (x y : Answer) → Holds (state_of x) → Holds (state_of y) → Holds (state_of (elim b [ true ↦ x | false ↦ y ]))
  keeps-if true x y h k = h
  keeps-if false x y h k = k

  keeps-go_on : (a : Answer) (g : State → Answer) → Holds (state_of a) → KeepsLog g → Holds (state_of (go_on a g))
  keeps-go_on (Normal t) g h k = k t h
  keeps-go_on (Exit t) g h k = h
  keeps-go_on (Ended ending t) g h k = h
  keeps-go_on (Dry t) g h k = h

  keeps-text_end : (shell : Shell) (a : Answer) (g : State → Answer) → Holds (state_of a) → KeepsLog g → Holds (state_of (text_end shell a g))
  keeps-text_end shell (Normal t) g h k = keeps-if (nat_eq t.memory.status 0) (g t) (Normal (text_failed shell t)) (k t h) h
  keeps-text_end shell (Exit t) g h k = keeps-if (nat_eq t.memory.status 0) (g t) (Normal t) (k t h) h
  keeps-text_end shell (Ended ending t) g h k = h
  keeps-text_end shell (Dry t) g h k = h

  keeps-end : (a : Answer) → Holds (state_of a) → Holds (state_of (compound_end a))
  keeps-end (Normal t) h = h
  keeps-end (Exit t) h = h
  keeps-end (Ended ending t) h = h
  keeps-end (Dry t) h = h

  keeps-compound : (shell : Shell) (a : Answer) → Holds (state_of a) → Holds (state_of (compound shell a))
  keeps-compound Profile a h = h
  keeps-compound Old2023 a h = h
  keeps-compound Old2025 a h = h
  keeps-compound Modern2025 a h = keeps-end a h

  -- also if `exit` ends the run in the text of a file
  keeps-prompt : (a : Answer) → Holds (state_of a) → Holds (state_of (left_to_prompt a))
  keeps-prompt (Normal t) h = h
  keeps-prompt (Exit t) h = h
  keeps-prompt (Ended ending t) h = h
  keeps-prompt (Dry t) h = h

  keeps-sourced : (shell : Shell) (a : Answer) → Holds (state_of a) → Holds (state_of (sourced shell a))
  keeps-sourced Profile a h = h
  keeps-sourced Old2023 a h = h
  keeps-sourced Old2025 a h = h
  keeps-sourced Modern2025 a h = keeps-prompt a h

  keeps-sized : (fs : List Text) (f : List Text → State → Answer) → ((gs : List Text) → KeepsLog (f gs)) → KeepsLog (sized fs f)
  keeps-sized fs f h s k = keeps-if (nat_le (size fs) most_bytes) (f fs s) (Ended Size s) (h fs s k) k

  keeps-assign : (shell : Shell) (pairs : List (Text × tree.Word)) → KeepsLog (assign shell pairs)
  keeps-assign shell [] s h = h
  keeps-assign shell (pair ∷ pairs) s h =
      let value : Text = assigned_in shell (parameters_in s.memory) pair.1 in
      keeps-if (nat_le (length value) most_bytes) (assign shell pairs (assign_local shell pair.0 value s)) (Ended Size s) (keeps-assign shell pairs (assign_local shell pair.0 value s) h) h

  -- `Allowed` is what the device list says of the effects that the calls of device commands have, at a log
  module _ (limits : Limits) (Allowed : State → (name : Text) → (words : List Text) → Effect → Type 0)
      (test : (name : Text) → builtin_of name ≡ Some Test → (s : State) (words : List Text) → Allowed s name words (test_effect limits.devices))
      (calls : (name : Text) (words : List Text) (effect : Effect) → effect_of limits.devices name words ≡ Some effect → (s : State) → Allowed s name words (effect_now limits.room s effect))
      (step : (r : Request) → r.again ≡ false → (s : State) → Allowed s r.name r.words r.effect → Holds s → Holds (state_of (device limits r s))) where
    abbrev IsAllowed : (name : Text) → (words : List Text) → Called → Type 0
    IsAllowed name words (Device effect) = (s : State) → Allowed s name words (effect_now limits.room s effect)
    IsAllowed name words (BuiltIn (ChangesVariables change)) = Unit {0}
    IsAllowed name words (BuiltIn RunsTexts) = Unit {0}
    IsAllowed name words (BuiltIn Tests) = (s : State) (question : List Text) → Allowed s name question (test_effect limits.devices)
    IsAllowed name words (BuiltIn (WritesText written)) = Unit {0}
    IsAllowed name words (BuiltIn Exits) = Unit {0}
    IsAllowed name words NoCommand = Unit {0}

    called_allowed : (name : Text) (words : List Text) → IsAllowed name words (called_by limits.devices name words)
    called_allowed name words = by (computed_by limits.devices name words) (builtin_of name) refl (effect_of limits.devices name words) refl
      where
        by : (o : Option Computed) (b : Option Builtin) → builtin_of name ≡ b → (f : Option Effect) → effect_of limits.devices name words ≡ f
            → IsAllowed name words (elim o [ Some computed ↦ BuiltIn (ChangesVariables (λ ws. carried computed)) | None ↦ elim b [ Some builtin ↦ BuiltIn (deed_of builtin) | None ↦ elim f [ Some effect ↦ Device effect | None ↦ NoCommand ] ] ])
        by (Some computed) b named f e = tt
        by None (Some SetEnv) named f e = tt
        by None (Some Run) named f e = tt
        by None (Some Test) named f e = λ s question. test name named s question
        by None (Some Echo) named f e = tt
        by None (Some True) named f e = tt
        by None (Some False) named f e = tt
        by None (Some Leave) named f e = tt
        by None None named None e = tt
        by None None named (Some effect) e = calls name words effect e

    keeps-begin : (f : State → Answer) → KeepsLog f → KeepsLog (begin limits f)
    keeps-begin f h s k = keeps-if (nat_lt s.steps limits.step_bound) (f (record s { steps = suc s.steps })) (Ended CutSteps s) (h (record s { steps = suc s.steps }) k) k

    module _ (script : Script → State → Answer) (keeps : (a : Script) → KeepsLog (script a)) where
      keeps-read : (found : TextRead) (name : Text) → KeepsLog (run_read limits script name found)
      keeps-read (Runs tree.Empty) name s h = keeps tree.Empty (set_status 0 s) h
      keeps-read (Runs (tree.Runs l ls)) name s h = keeps (tree.Runs l ls) s h
      keeps-read Fails name s h = h
      keeps-read Panics name s h = h
      keeps-read Unread name s h = h

      keeps-text : (name text : Text) → KeepsLog (run_text limits script name text)
      keeps-text name text = keeps-read (first_in limits.shell text) name

      keeps-started : (name text : Text) → KeepsLog (started_text limits script name text)
      keeps-started name text = keeps-read (started_in limits.shell text) name

      keeps-named : (text : Option Text) (name : Text) (next : State → Answer) (s : State) → KeepsLog next → Holds s → Holds (state_of (elim text [ None ↦ Normal (set_status 1 s) | Some v ↦ text_end limits.shell (started_text limits script name v s) next ]))
      keeps-named None name next s k h = h
      keeps-named (Some v) name next s k h = keeps-text_end limits.shell (started_text limits script name v s) next (keeps-started name v s h) k

      keeps-run : (names : List Text) → KeepsLog (run_all limits script names)
      keeps-run [] s h = h
      keeps-run (name ∷ names) s h = keeps-named (get s.memory.environment name) name (run_all limits script names) s (keeps-run names) h

      keeps-found : (text : Option Text) (name : Text) (s : State) → Holds s → Holds (state_of (elim text [ None ↦ Normal (set_status 1 s) | Some v ↦ text_end limits.shell (sourced_text limits script name v s) Normal ]))
      keeps-found None name s h = h
      keeps-found (Some v) name s h =
          let read : Answer = run_read limits script name (sourced_in limits.shell v) s in
          keeps-text_end limits.shell (sourced limits.shell read) Normal (keeps-sourced limits.shell read (keeps-read (sourced_in limits.shell v) name s h)) (λ t i. i)

      keeps-here : (name : Text) (before : ℕ) → KeepsLog (λ s. run_file limits script name (set_status before s))
      keeps-here name before s h = keeps-found (file_in limits.devices name) name (set_status before s) h

      keeps-chosen : (name : Text) (before : ℕ) (next : State → Answer) → KeepsLog next → KeepsLog (chosen limits script name before next)
      keeps-chosen name before next k s h =
          keeps-if (nat_eq s.memory.status 0) (run_file limits script name (set_status before s)) (next s) (keeps-here name before s h) (k s h)

      keeps-one_file : (name : Text) (others : List Text) (before : ℕ) → KeepsLog (run_one limits script name others before)
      keeps-one_file name [] before s h = keeps-here name before s h
      keeps-one_file name (other ∷ others) before s h =
          keeps-go_on (started_text limits script name (choice_text name) s) (chosen limits script name before (run_one limits script other others before)) (keeps-started name (choice_text name) s h)
          (keeps-chosen name before (run_one limits script other others before) (keeps-one_file other others before))

      keeps-file : (name : Text) (others : List Text) (before : ℕ) → KeepsLog (file_follows limits script name others before)
      keeps-file name others before s h =
          keeps-if (nat_eq s.memory.status 0) (run_one limits script name others before s) (Normal s) (keeps-one_file name others before s h) h

      keeps-handed : (runs : List Text) (before : ℕ) (a : Answer) → Holds (state_of a) → Holds (state_of (handed_over limits script runs before a))
      keeps-handed [] before a h = h
      keeps-handed (name ∷ others) before a h = keeps-go_on a (file_follows limits script name others before) h (keeps-file name others before)

      keeps-leave : (status : Option ℕ) (other : ℕ) (s : State) → Holds s → Holds (state_of (elim status [ Some n ↦ Exit (set_status n s) | None ↦ Normal (set_status other s) ]))
      keeps-leave (Some n) other s h = h
      keeps-leave None other s h = h

      keeps-command : (again : Bool) (c : Called) (name : Text) (words : List Text) → IsAllowed name words c → KeepsLog (command limits again script c name words)
      keeps-command again (BuiltIn (ChangesVariables change)) name words allowed s h = h
      keeps-command again (BuiltIn RunsTexts) name [] allowed s h = h
      keeps-command again (BuiltIn RunsTexts) name (w ∷ ws) allowed s h = keeps-run (w ∷ ws) s h
      keeps-command again (BuiltIn Tests) name words allowed s h =
          let r : Request = test_request limits name words in
          keeps-if (asks_in limits.shell words) (device limits r s) (Normal (set_status (status_when (truth_in limits.shell words)) s)) (step r refl s (allowed s (question_in limits.shell words)) h) h
      keeps-command again (BuiltIn (WritesText written)) name words allowed s h = h
      keeps-command again (BuiltIn Exits) name words allowed s h = keeps-leave (leaves_in limits.shell again words) (status_of_exit limits.shell words) s h
      keeps-command again (Device effect) name words allowed s h =
          let r : Request = request_of name words (effect_now limits.room s effect) in
          keeps-handed effect.runs s.memory.status (device limits r s) (step r refl s (allowed s) h)
      keeps-command again NoCommand name words allowed s h = h

      keeps-call : (again : Bool) (fs : List Text) → KeepsLog (simple_call limits again script fs)
      keeps-call again [] s h = h
      keeps-call again (name ∷ words) s h =
          keeps-if (follows limits.shell limits.devices name words) (command limits again script (called_by limits.devices name words) name words s) (Ended (Unsupported name) s)
          (keeps-command again (called_by limits.devices name words) name words (called_allowed name words) s h) h

      keeps-simple : (again : Bool) (fs : List Text) → KeepsLog (simple limits again script fs)
      keeps-simple again fs = keeps-call again (call_in limits.shell fs)

    -- ---- the tree

    keeps-turns : (left : ℕ) (until : Bool) (c b : State → Answer) → KeepsLog c → KeepsLog b → (last : ℕ) → KeepsLog (turns limits.shell left until c b last)
    keeps-turns zero until c b h k last s j = j
    keeps-turns (suc left) until c b h k last s j =
        keeps-go_on (c s) (λ t. elim (holds until t.memory.status) [ true ↦ go_on (b t) (λ u. turns limits.shell left until c b u.memory.status u) | false ↦ Normal (set_status (status_of_loop limits.shell last t.memory.status) t) ]) (h s j)
        (λ t i. keeps-if (holds until t.memory.status) (go_on (b t) (λ u. turns limits.shell left until c b u.memory.status u)) (Normal (set_status (status_of_loop limits.shell last t.memory.status) t))
        (keeps-go_on (b t) (λ u. turns limits.shell left until c b u.memory.status u) (k t i) (λ u. keeps-turns left until c b h k u.memory.status u)) i)

    keeps-for : (name : Text) (b : State → Answer) → KeepsLog b → (last : ℕ) (fs : List Text) → KeepsLog (for_each limits.shell name b last fs)
    keeps-for name b k last [] s h = h
    keeps-for name b k last (f ∷ fs) s h = keeps-go_on (b (begin_turn limits.shell name f s)) (λ t. for_each limits.shell name b t.memory.status fs t) (k (begin_turn limits.shell name f s) h) (λ t. keeps-for name b k t.memory.status fs t)

    keeps-words : (name : Text) (words : List tree.Word) (b : State → Answer) → KeepsLog b → KeepsLog (for_words limits.shell name words b)
    keeps-words name words b k s = keeps-sized (turns_in limits.shell (parameters_in s.memory) words) (turns_of limits.shell name b) (λ fs t h. keeps-if (follows_turns limits.shell name fs) (compound limits.shell (for_each limits.shell name b 0 fs t)) (Ended (Unsupported name) t) (keeps-compound limits.shell (for_each limits.shell name b 0 fs t) (keeps-for name b k 0 fs t h)) h) s

    module _ (left : ℕ) (text : Script → State → Answer) (keeps : (a : Script) → KeepsLog (text a)) where
      mutual
        keeps-script : (a : Script) → KeepsLog (exec_script limits left text a)
        keeps-script tree.Empty s h = h
        keeps-script (tree.Runs l ls) s h = keeps-go_on (exec_list limits left text l s) (exec_script limits left text ls) (keeps-list l s h) (keeps-script ls)

        keeps-list : (a : AndOr) → KeepsLog (exec_list limits left text a)
        keeps-list (tree.Starts c rest) s h = keeps-go_on (exec_command limits left text c s) (exec_joined limits left text rest) (keeps-one c s h) (keeps-joined rest)

        keeps-joined : (a : Joined) → KeepsLog (exec_joined limits left text a)
        keeps-joined tree.Alone s h = h
        keeps-joined (tree.Joins op c rest) s h = keeps-if (goes op s.memory.status) (go_on (exec_command limits left text c s) (exec_joined limits left text rest)) (skipped limits (exec_joined limits left text rest) s)
            (keeps-go_on (exec_command limits left text c s) (exec_joined limits left text rest) (keeps-one c s h) (keeps-joined rest))
            (keeps-if (skips_rest limits.shell) (Normal s) (exec_joined limits left text rest s) h (keeps-joined rest s h))

        keeps-one : (a : Command) → KeepsLog (exec_command limits left text a)
        keeps-one (tree.Simple words) s h = keeps-begin (λ t. sized (fields_in limits.shell (parameters_in t.memory) words) (simple limits (reads_again words) text) t) (λ t. keeps-sized (fields_in limits.shell (parameters_in t.memory) words) (simple limits (reads_again words) text) (keeps-simple text keeps (reads_again words)) t) s h
        keeps-one (tree.Assign pairs) s h = keeps-begin (assign limits.shell pairs) (keeps-assign limits.shell pairs) s h
        keeps-one (tree.If arms) s h = keeps-compound limits.shell (exec_arms limits left text arms s) (keeps-arms arms s h)
        keeps-one (tree.Loop until c b) s h =
            keeps-compound limits.shell (turns limits.shell left until (exec_script limits left text c) (exec_script limits left text b) 0 s)
            (keeps-turns left until (exec_script limits left text c) (exec_script limits left text b) (keeps-script c) (keeps-script b) 0 s h)
        keeps-one (tree.For name words b) s h = keeps-begin (λ t. for_words limits.shell name words (exec_script limits left text b) (for_begun limits.shell t))
            (λ t. keeps-words name words (exec_script limits left text b) (keeps-script b) (for_begun limits.shell t)) s h

        keeps-arms : (a : Arms) → KeepsLog (exec_arms limits left text a)
        keeps-arms tree.NoElse s h = h
        keeps-arms (tree.Else b) s h = keeps-script b s h
        keeps-arms (tree.Arm c b arms) s h = keeps-go_on (exec_script limits left text c s) (λ t. elim (nat_eq t.memory.status 0) [ true ↦ exec_script limits left text b t | false ↦ exec_arms limits left text arms (block_skipped limits.shell b t) ]) (keeps-script c s h)
            (λ t i. keeps-if (nat_eq t.memory.status 0) (exec_script limits left text b t) (exec_arms limits left text arms (block_skipped limits.shell b t)) (keeps-script b t i) (keeps-arms arms (block_skipped limits.shell b t) i))

    keeps-exec : (left : ℕ) (a : Script) → KeepsLog (exec limits left a)
    keeps-exec zero a = keeps-script zero (λ t s. Ended CutSteps s) (λ b s h. h) a
    keeps-exec (suc left) a = keeps-script (suc left) (exec limits left) (keeps-exec left) a

    -- the text of a variable
    pub run-keeps : (left : ℕ) (name text : Text) → KeepsLog (run_text limits (exec limits left) name text)
    run-keeps left name text = keeps-text (exec limits left) (keeps-exec left) name text
