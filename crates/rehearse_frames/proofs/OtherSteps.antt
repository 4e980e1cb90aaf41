-- A move at another count of steps does, reads and writes the same, unless the step that it begins is one too many.
use Rattle.std.proofs.Common.{◌≡◌, ◌∙◌, refl, sym, ap, ℕ, suc, ◌+◌, ◌≤◌, arith, Bool, true, false, List, [], ◌∷◌, ◌++◌, length, Option, Some, None, nat_lt, nat_le, nat_eq, ltb-true, ltb-false}
use Rattle.device_list.specs.declared.finish.BoardEnd.{BoardEnd}
use Rattle.hushlang.specs.Tree as tree
use Rattle.hushlang.specs.Tree.{Script, Command, Arms}
use Rattle.hushlang.specs.Expansion.{size, most_bytes}
use Rattle.hushlang_shells.specs.TreesByShell.{TextRead, Runs, Fails, Panics, Unread, started_in, sourced_in}
use Rattle.builtins.specs.Builtins.{Builtin, SetEnv, Run, Test, Echo, True, False, Leave, builtin_of}
use Rattle.commands.specs.Computed.{Computed}
use Rattle.commands.specs.BuiltInCommands.{ChangesVariables, carried, deed_of}
use Rattle.device_list.specs.Called.{BuiltIn, Device, NoCommand, called_by, sets_in}
use Rattle.device_list.specs.DeviceList.{Effect, effect_of, computed_by, file_in}
use Rattle.rehearse_terms.specs.Outcomes.{Outcome, Success, Failure}
use Rattle.rehearse_terms.specs.State.{Text, get, State}
use Rattle.rehearse_terms.specs.declared.shell.Shell.{Shell}
use Rattle.rehearse_terms.specs.declared.shell.Shell.TheVariants.{Profile, Old2023, Old2025, Modern2025}
use Rattle.rehearse_rules.specs.Needs.{effect_now}
use Rattle.rehearse_rules.specs.Parameters.{parameters_in}
use Rattle.rehearse_rules.specs.ByShell.{reads_again, leaves_in, status_of_exit, asks_in, truth_in, fields_in, turns_in, skips_rest, status_of_loop, follows, assigned_in, follows_turns, call_in}
use Rattle.rehearse_rules.specs.Execution.{Limits, CutDevices, CutSteps, Size, Unsupported, Request, set_status, status_when, goes, holds, outcome_when, told, told_again, logged, set_environment, assign_local, text_failed, request_of, test_request, for_begun, block_skipped, choice_text}
use Rattle.rehearse_machine.specs.Frames.{Frame, Lists, Linked, IfCondition, LoopCondition, LoopBody, ForBody, RunNames, RunText, Next, Go, Ask, Stop, tell_or_ask, finish_next, leave, begin_assign, begin_for, begin_arms, begin_read, begin_text, begin_names, begin_exit, fitting, ask, begin_called, begin_fields, counted, begin_command, answered, move, begin_turns, begin_words, CommandEnd, leave_compound, behind_block, begin_simple_call, RunFile, FileText, with_file, leave_file, begin_sourced, begin_file, ChosenFile, begin_one, begin_question}
use Rattle.rehearse_reads.specs.Keys.{Access, Reads, Writes, Status, all_read}
use Rattle.rehearse_reads.specs.Accesses.{status_written, word_reads, words_reads, computed_accesses, success_reads, told_reads, sized_accesses, local_accesses, assign_accesses, begun_accesses, modern_accesses}
use Rattle.rehearse_frames.specs.MoveAccesses.{of_exit, of_telling, of_beginning_for, of_beginning_arms, of_beginning_read, of_beginning_text, of_beginning_file, of_beginning_names, of_asking, of_listed, of_builtin, of_call, of_fields, of_command, of_move, of_beginning_turns, of_beginning_words, of_simple_call, of_beginning_one, of_beginning_question}
use Rattle.rehearse_frames.specs.KeysToCome.{state_in}
use Rattle.rehearse_frames.specs.Loops.{later}

-- the same state at this count of steps
abbrev pub at_steps : ℕ → State → State
at_steps n s = record s { steps = n }

abbrev pub next_at : ℕ → Next → Next
next_at n (Go fs s) = Go fs (at_steps n s)
next_at n (Ask request fs s) = Ask request fs (at_steps n s)
next_at n (Stop ending s) = Stop ending (at_steps n s)

abbrev pub next_later : (steps : ℕ) → Next → Next
next_later steps (Go fs s) = Go fs (later steps s)
next_later steps (Ask request fs s) = Ask request fs (later steps s)
next_later steps (Stop ending s) = Stop ending (later steps s)

-- a part of a move, with what it reads and writes, that does not look at the steps
abbrev Overlooks : (State → Next) → (State → List Access) → Type 0
Overlooks f u = (n : ℕ) (s : State) → (f (at_steps n s) ≡ next_at n (f s)) × (u (at_steps n s) ≡ u s)

either : (b : Bool) (f g : State → Next) (u v : State → List Access) → Overlooks f u → Overlooks g v → Overlooks (λ s. elim b [ true ↦ f s | false ↦ g s ]) (λ s. elim b [ true ↦ u s | false ↦ v s ])
either true f g u v h k = h
either false f g u v h k = k

-- accesses in front that are the same
after_first : (f : State → Next) (u : State → List Access) (xs : List Access) → Overlooks f u → Overlooks f (λ s. xs ++ u s)
after_first f u xs h n s = let k = h n s in (k.0, ap (λ (ys : List Access). xs ++ ys) k.1)

-- ---- `exit`

left_compound : (shell : Shell) (ps : List Frame) (n : ℕ) (s : State) (x y : Next) → y ≡ next_at n x → leave_compound shell ps y (at_steps n s) ≡ next_at n (leave_compound shell ps x s)
left_compound Profile ps n s x y e = e
left_compound Old2023 ps n s x y e = e
left_compound Old2025 ps n s x y e = e
left_compound Modern2025 ps n s x y e = refl

left_run : (b : Bool) (run : Frame) (fs : List Frame) (n : ℕ) (s : State) → ◌≡◌ {A = Next} (elim b [ true ↦ Go (run ∷ fs) (at_steps n s) | false ↦ Go fs (at_steps n s) ]) (next_at n (elim b [ true ↦ Go (run ∷ fs) s | false ↦ Go fs s ]))
left_run true run fs n s = refl
left_run false run fs n s = refl

left_file : (shell : Shell) (fs : List Frame) (n : ℕ) (s : State) → leave_file shell fs (at_steps n s) ≡ next_at n (leave_file shell fs s)
left_file Profile fs n s = refl
left_file Old2023 fs n s = refl
left_file Old2025 fs n s = refl
left_file Modern2025 fs n s = refl

leaves : (shell : Shell) (fs : List Frame) (n : ℕ) (s : State) → leave shell fs (at_steps n s) ≡ next_at n (leave shell fs s)
leaves shell [] n s = refl
leaves shell (RunNames names ∷ fs) n s = left_run (nat_eq s.memory.status 0) (RunNames names) fs n s
leaves shell (RunText names ∷ fs) n s = left_run (nat_eq s.memory.status 0) (RunText names) fs n s
leaves shell (Lists ls ∷ fs) n s = leaves shell fs n s
leaves shell (Linked ls ∷ fs) n s = leaves shell fs n s
leaves shell (IfCondition b arms ∷ fs) n s = left_compound shell (CommandEnd ∷ fs) n s (leave shell fs s) (leave shell fs (at_steps n s)) (leaves shell fs n s)
leaves shell (LoopCondition until c b last ∷ fs) n s = left_compound shell (CommandEnd ∷ fs) n s (leave shell fs s) (leave shell fs (at_steps n s)) (leaves shell fs n s)
leaves shell (LoopBody until c b ∷ fs) n s = left_compound shell (CommandEnd ∷ fs) n s (leave shell fs s) (leave shell fs (at_steps n s)) (leaves shell fs n s)
leaves shell (ForBody name values body ∷ fs) n s = left_compound shell fs n s (leave shell fs s) (leave shell fs (at_steps n s)) (leaves shell fs n s)
leaves shell (RunFile name others before ∷ fs) n s = leaves shell fs n s
leaves shell (ChosenFile name other others before ∷ fs) n s = leaves shell fs n s
leaves shell (FileText ∷ fs) n s = left_file shell fs n s
leaves shell (CommandEnd ∷ fs) n s = left_compound shell (CommandEnd ∷ fs) n s (leave shell fs s) (leave shell fs (at_steps n s)) (leaves shell fs n s)

exits : (shell : Shell) (o : Option ℕ) (other : ℕ) (fs : List Frame) → Overlooks (begin_exit shell o other fs) (λ s. of_exit shell o fs)
exits shell (Some status) other fs n s = (leaves shell fs n (set_status status s), refl)
exits shell None other fs n s = (refl, refl)

-- ---- parts of commands

finishes : (ends : Option BoardEnd) (name : Text) (fs : List Frame) (n : ℕ) (s : State) → finish_next ends name fs (at_steps n s) ≡ next_at n (finish_next ends name fs s)
finishes (Some how) name fs n s = refl
finishes None name fs n s = refl

answers : (outcome : Outcome) (request : Request) (fs : List Frame) (n : ℕ) (s : State) → answered outcome request fs (at_steps n s) ≡ next_at n (answered outcome request fs s)
answers Success request fs n s = finishes request.effect.ends request.name (with_file s.memory.status request.effect.runs fs) n (set_environment (sets_in request.words request.effect.sets) (logged Success request s))
answers Failure request fs n s = refl

tells : (o : Option Bool) (request : Request) (fs : List Frame) → Overlooks (tell_or_ask o request fs) (λ s. of_telling o request)
tells (Some success) request fs n s = (answers (outcome_when success) (told_again request) fs n s, refl)
tells None request fs n s = (refl, refl)

assigns : (shell : Shell) (pairs : List (Text × tree.Word)) (fs : List Frame) → Overlooks (begin_assign shell pairs fs) (assign_accesses shell pairs)
assigns shell [] fs n s = (refl, refl)
assigns shell (pair ∷ pairs) fs n s =
    let value : Text = assigned_in shell (parameters_in s.memory) pair.1 in
    let f : State → Next = λ t. begin_assign shell pairs fs (assign_local shell pair.0 value t) in
    let u : State → List Access = λ t. assign_accesses shell pairs (assign_local shell pair.0 value t) in
    let first : List Access = local_accesses shell pair.0 value in
    let more : Overlooks f u = λ m t. assigns shell pairs fs m (assign_local shell pair.0 value t) in
    after_first (λ t. elim (nat_le (length value) most_bytes) [ true ↦ f t | false ↦ Stop Size t ]) (λ t. elim (nat_le (length value) most_bytes) [ true ↦ first ++ u t | false ↦ [] ]) (all_read (word_reads s.memory pair.1))
    (either (nat_le (length value) most_bytes) f (Stop Size) (λ t. first ++ u t) (λ t. []) (after_first f u first more) (λ m t. (refl, refl))) n s

begins_for : (name : Text) (values : List Text) (body : Script) (fs : List Frame) → Overlooks (begin_for name values body fs) (λ s. of_beginning_for values)
begins_for name [] body fs n s = (refl, refl)
begins_for name (value ∷ values) body fs n s = (refl, refl)

begins_arms : (shell : Shell) (arms : Arms) (fs : List Frame) → Overlooks (begin_arms shell arms fs) (λ s. of_beginning_arms shell arms)
begins_arms shell (tree.Arm c b arms) fs n s = (refl, refl)
begins_arms shell (tree.Else b) fs n s = (refl, refl)
begins_arms shell tree.NoElse fs n s = (refl, refl)

begins_read : (shell : Shell) (found : TextRead) (name : Text) (names : List Text) (fs : List Frame) → Overlooks (begin_read shell found name names fs) (λ s. of_beginning_read found)
begins_read shell (Runs tree.Empty) name names fs n s = (refl, refl)
begins_read shell (Runs (tree.Runs list more)) name names fs n s = (refl, refl)
begins_read shell Fails name names fs n s = (refl, refl)
begins_read shell Panics name names fs n s = (refl, refl)
begins_read shell Unread name names fs n s = (refl, refl)

begins_text : (shell : Shell) (text : Option Text) (name : Text) (names : List Text) (fs : List Frame) → Overlooks (begin_text shell text name names fs) (λ s. of_beginning_text shell text)
begins_text shell None name names fs n s = (refl, refl)
begins_text shell (Some text) name names fs n s = begins_read shell (started_in shell text) name names fs n s

begins_question : (shell : Shell) (found : TextRead) (name : Text) (after : Frame) (fs : List Frame) → Overlooks (begin_question shell found name after fs) (λ s. of_beginning_question found)
begins_question shell (Runs tree.Empty) name after fs n s = (refl, refl)
begins_question shell (Runs (tree.Runs list more)) name after fs n s = (refl, refl)
begins_question shell Fails name after fs n s = (refl, refl)
begins_question shell Panics name after fs n s = (refl, refl)
begins_question shell Unread name after fs n s = (refl, refl)

begins_sourced : (shell : Shell) (found : TextRead) (name : Text) (fs : List Frame) → Overlooks (begin_sourced shell found name fs) (λ s. of_beginning_read found)
begins_sourced shell (Runs tree.Empty) name fs n s = (refl, refl)
begins_sourced shell (Runs (tree.Runs list more)) name fs n s = (refl, refl)
begins_sourced shell Fails name fs n s = (refl, refl)
begins_sourced shell Panics name fs n s = (refl, refl)
begins_sourced shell Unread name fs n s = (refl, refl)

begins_file : (shell : Shell) (text : Option Text) (name : Text) (fs : List Frame) → Overlooks (begin_file shell text name fs) (λ s. of_beginning_file shell text)
begins_file shell None name fs n s = (refl, refl)
begins_file shell (Some text) name fs n s = begins_sourced shell (sourced_in shell text) name fs n s

begins_one : (limits : Limits) (name : Text) (others : List Text) (before : ℕ) (fs : List Frame) → Overlooks (begin_one limits name others before fs) (λ s. of_beginning_one limits name others)
begins_one limits name [] before fs n s = ((begins_file limits.shell (file_in limits.devices name) name fs n (set_status before s)).0, refl)
begins_one limits name (other ∷ others) before fs n s =
    begins_question limits.shell (started_in limits.shell (choice_text name)) name (ChosenFile name other others before) fs n s

begins_names : (shell : Shell) (names : List Text) (fs : List Frame) → Overlooks (begin_names shell names fs) (of_beginning_names shell names)
begins_names shell [] fs n s = (refl, refl)
begins_names shell (name ∷ names) fs n s = ((begins_text shell (get s.memory.environment name) name names fs n s).0, refl)

-- fields that are no longer than they may be
fits : (found : List Text) (f : List Text → State → Next) (u : List Text → State → List Access) → Overlooks (f found) (u found) → Overlooks (fitting found f) (sized_accesses found u)
fits found f u h = either (nat_le (size found) most_bytes) (f found) (Stop Size) (u found) (λ t. []) h (λ n s. (refl, refl))

module _ (limits : Limits) where
  asks : (request : Request) (fs : List Frame) → Overlooks (ask limits request fs) (of_asking limits request)
  asks request fs n s =
      let o : Option Bool = told request s.log in
      either (nat_lt (length s.log) limits.device_bound) (tell_or_ask o request fs) (Stop CutDevices) (λ t. all_read (told_reads request) ++ of_telling o request) (λ t. [])
      (after_first (tell_or_ask o request fs) (λ t. of_telling o request) (all_read (told_reads request)) (tells o request fs)) (λ m t. (refl, refl)) n s

  begins_builtin : (again : Bool) (b : Builtin) (name : Text) (words : List Text) (fs : List Frame) → Overlooks (begin_called limits again (BuiltIn (deed_of b)) name words fs) (of_builtin limits again b name words fs)
  begins_builtin again SetEnv name words fs n s = (refl, refl)
  begins_builtin again Run name [] fs n s = (refl, refl)
  begins_builtin again Run name (word ∷ words) fs n s = (refl, refl)
  begins_builtin again Test name words fs n s =
      either (asks_in limits.shell words) (ask limits (test_request limits name words) fs) (λ t. Go fs (set_status (status_when (truth_in limits.shell words)) t)) (of_asking limits (test_request limits name words)) (λ t. status_written)
      (asks (test_request limits name words) fs) (λ m t. (refl, refl)) n s
  begins_builtin again Echo name words fs n s = (refl, refl)
  begins_builtin again True name words fs n s = (refl, refl)
  begins_builtin again False name words fs n s = (refl, refl)
  begins_builtin again Leave name words fs n s = exits limits.shell (leaves_in limits.shell again words) (status_of_exit limits.shell words) fs n s

  begins_listed : (name : Text) (words : List Text) (effect : Effect) (fs : List Frame) → Overlooks (λ s. ask limits (request_of name words (effect_now limits.room s effect)) fs s) (of_listed limits name words effect)
  begins_listed name words effect fs n s =
      let request : Request = request_of name words (effect_now limits.room s effect) in
      after_first (ask limits request fs) (of_asking limits request) (all_read (success_reads limits.room effect)) (asks request fs) n s

  begins_call : (again : Bool) (name : Text) (words : List Text) (fs : List Frame) → Overlooks (begin_called limits again (called_by limits.devices name words) name words fs) (of_call limits again name words fs)
  begins_call again name words fs = by (computed_by limits.devices name words) (builtin_of name) (effect_of limits.devices name words)
    where
      by : (o : Option Computed) (b : Option Builtin) (f : Option Effect)
          → Overlooks (begin_called limits again (elim o [ Some computed ↦ BuiltIn (ChangesVariables (λ ws. carried computed)) | None ↦ elim b [ Some builtin ↦ BuiltIn (deed_of builtin) | None ↦ elim f [ Some effect ↦ Device effect | None ↦ NoCommand ] ] ]) name words fs)
          (λ s. elim o [ Some computed ↦ computed_accesses computed | None ↦ elim b [ Some builtin ↦ of_builtin limits again builtin name words fs s | None ↦ elim f [ Some effect ↦ of_listed limits name words effect s | None ↦ [] ] ] ])
      by (Some computed) b f n s = (refl, refl)
      by None (Some builtin) f n s = begins_builtin again builtin name words fs n s
      by None None (Some effect) n s = begins_listed name words effect fs n s
      by None None None n s = (refl, refl)

  begins_simple_call : (again : Bool) (found : List Text) (fs : List Frame) → Overlooks (begin_simple_call limits again found fs) (of_simple_call limits again fs found)
  begins_simple_call again [] fs n s = (refl, refl)
  begins_simple_call again (name ∷ words) fs n s =
      either (follows limits.shell limits.devices name words) (begin_called limits again (called_by limits.devices name words) name words fs) (Stop (Unsupported name)) (of_call limits again name words fs) (λ t. [])
      (begins_call again name words fs) (λ m t. (refl, refl)) n s

  begins_fields : (again : Bool) (found : List Text) (fs : List Frame) → Overlooks (begin_fields limits again found fs) (of_fields limits again fs found)
  begins_fields again found = begins_simple_call again (call_in limits.shell found)

  begins_turns : (name : Text) (values : List Text) (body : Script) (fs : List Frame) → Overlooks (begin_turns limits.shell name values body fs) (λ s. of_beginning_turns limits.shell name values)
  begins_turns name values body fs =
      either (follows_turns limits.shell name values) (begin_for name values body fs) (Stop (Unsupported name)) (λ t. of_beginning_for values) (λ t. []) (begins_for name values body fs) (λ m t. (refl, refl))

  -- ---- commands that begin a step

  simple_begins : (words : List tree.Word) (fs : List Frame)
      → Overlooks (λ t. fitting (fields_in limits.shell (parameters_in t.memory) words) (λ found. begin_fields limits (reads_again words) found fs) t) (λ t. all_read (words_reads t.memory words) ++ sized_accesses (fields_in limits.shell (parameters_in t.memory) words) (of_fields limits (reads_again words) fs) t)
  simple_begins words fs n s =
      let found : List Text = fields_in limits.shell (parameters_in s.memory) words in
      let f : List Text → State → Next = λ xs. begin_fields limits (reads_again words) xs fs in
      let u : List Text → State → List Access = of_fields limits (reads_again words) fs in
      after_first (fitting found f) (sized_accesses found u) (all_read (words_reads s.memory words)) (fits found f u (begins_fields (reads_again words) found fs)) n s

  for_begins : (name : Text) (words : List tree.Word) (body : Script) (fs : List Frame)
      → Overlooks (λ t. begin_words limits.shell name words body fs (for_begun limits.shell t)) (λ t. modern_accesses limits.shell ++ of_beginning_words limits.shell name words (for_begun limits.shell t))
  for_begins name words body fs n s =
      let t : State = for_begun limits.shell s in
      let found : List Text = turns_in limits.shell (parameters_in t.memory) words in
      let f : List Text → State → Next = λ values. begin_turns limits.shell name values body fs in
      let u : List Text → State → List Access = λ values x. of_beginning_turns limits.shell name values in
      let rest : State → List Access = λ x. all_read (words_reads t.memory words) ++ sized_accesses found u x in
      after_first (fitting found f) rest (modern_accesses limits.shell)
      (after_first (fitting found f) (sized_accesses found u) (all_read (words_reads t.memory words)) (fits found f u (begins_turns name found body fs))) n t

  -- ---- so many steps later, if that many may still be begun

  abbrev GoesLater : (State → Next) → (State → List Access) → Type 0
  GoesLater f u = (steps : ℕ) (s : State) → (state_in (f s)).steps + steps ≤ limits.step_bound → (f (later steps s) ≡ next_later steps (f s)) × (u (later steps s) ≡ u s)

  steps_of : (n : ℕ) (next : Next) → (state_in (next_at n next)).steps ≡ n
  steps_of n (Go fs s) = refl
  steps_of n (Ask request fs s) = refl
  steps_of n (Stop ending s) = refl

  later_at : (steps n m : ℕ) (next : Next) → m ≡ n + steps → next_at m next ≡ next_later steps (next_at n next)
  later_at steps n m (Go fs s) e = ap (λ (k : ℕ). Go fs (at_steps k s)) e
  later_at steps n m (Ask request fs s) e = ap (λ (k : ℕ). Ask request fs (at_steps k s)) e
  later_at steps n m (Stop ending s) e = ap (λ (k : ℕ). Stop ending (at_steps k s)) e

  overlooked : (f : State → Next) (u : State → List Access) → Overlooks f u → GoesLater f u
  overlooked f u h steps s room =
      let there = h (s.steps + steps) s in
      (there.0 ∙ later_at steps s.steps (s.steps + steps) (f s) refl ∙ ap (next_later steps) (sym (h s.steps s).0), there.1)

  counts_by : (f : State → Next) (u : State → List Access) → Overlooks f u → (steps : ℕ) (s : State) (b c : Bool) → nat_lt s.steps limits.step_bound ≡ b → nat_lt (s.steps + steps) limits.step_bound ≡ c
      → (state_in (elim b [ true ↦ f (at_steps (suc s.steps) s) | false ↦ Stop CutSteps s ])).steps + steps ≤ limits.step_bound
      → (◌≡◌ {A = Next} (elim c [ true ↦ f (at_steps (suc (s.steps + steps)) s) | false ↦ Stop CutSteps (later steps s) ]) (next_later steps (elim b [ true ↦ f (at_steps (suc s.steps) s) | false ↦ Stop CutSteps s ])))
      × (◌≡◌ {A = List Access} (elim c [ true ↦ u (at_steps (suc (s.steps + steps)) s) | false ↦ [] ]) (elim b [ true ↦ u (at_steps (suc s.steps) s) | false ↦ [] ]))
  counts_by f u h steps s true true p q room =
      let here = h (suc s.steps) s in
      let there = h (suc (s.steps + steps)) s in
      (there.0 ∙ later_at steps (suc s.steps) (suc (s.steps + steps)) (f s) (omega arith) ∙ ap (next_later steps) (sym here.0), there.1 ∙ sym here.1)
  counts_by f u h steps s true false p q room =
      let here : (state_in (f (at_steps (suc s.steps) s))).steps ≡ suc s.steps = ap (λ (x : Next). (state_in x).steps) (h (suc s.steps) s).0 ∙ steps_of (suc s.steps) (f s) in
      let full = ltb-false (s.steps + steps) limits.step_bound q in
      absurd (omega arith)
  counts_by f u h steps s false true p q room =
      let full = ltb-false s.steps limits.step_bound p in
      let free = ltb-true (s.steps + steps) limits.step_bound q in
      absurd (omega arith)
  counts_by f u h steps s false false p q room = (refl, refl)

  counts : (f : State → Next) (u : State → List Access) → Overlooks f u → GoesLater (counted limits f) (begun_accesses limits u)
  counts f u h steps s room = counts_by f u h steps s (nat_lt s.steps limits.step_bound) (nat_lt (s.steps + steps) limits.step_bound) refl refl room

  begins_command : (c : Command) (fs : List Frame) → GoesLater (begin_command limits c fs) (of_command limits c fs)
  begins_command (tree.Simple words) fs =
      counts (λ t. fitting (fields_in limits.shell (parameters_in t.memory) words) (λ found. begin_fields limits (reads_again words) found fs) t)
      (λ t. all_read (words_reads t.memory words) ++ sized_accesses (fields_in limits.shell (parameters_in t.memory) words) (of_fields limits (reads_again words) fs) t) (simple_begins words fs)
  begins_command (tree.Assign pairs) fs = counts (begin_assign limits.shell pairs fs) (assign_accesses limits.shell pairs) (assigns limits.shell pairs fs)
  begins_command (tree.If arms) fs = overlooked (begin_arms limits.shell arms fs) (λ s. of_beginning_arms limits.shell arms) (begins_arms limits.shell arms fs)
  begins_command (tree.Loop until c b) fs = λ steps s room. (refl, refl)
  begins_command (tree.For name words body) fs =
      counts (λ t. begin_words limits.shell name words body fs (for_begun limits.shell t)) (λ t. modern_accesses limits.shell ++ of_beginning_words limits.shell name words (for_begun limits.shell t)) (for_begins name words body fs)

  either_later : (b : Bool) (f g : State → Next) (u v : State → List Access) → GoesLater f u → GoesLater g v → GoesLater (λ s. elim b [ true ↦ f s | false ↦ g s ]) (λ s. Reads Status ∷ elim b [ true ↦ u s | false ↦ v s ])
  either_later true f g u v h k steps s room = let e = h steps s room in (e.0, ap (λ (xs : List Access). Reads Status ∷ xs) e.1)
  either_later false f g u v h k steps s room = let e = k steps s room in (e.0, ap (λ (xs : List Access). Reads Status ∷ xs) e.1)

  skips : (b : Bool) (x y : List Frame) → GoesLater (λ s. elim b [ true ↦ Go x s | false ↦ Go y s ]) (λ s. [])
  skips true x y steps s room = (refl, refl)
  skips false x y steps s room = (refl, refl)

  pub moves_later : (fs : List Frame) → GoesLater (move limits fs) (of_move limits fs)
  moves_later [] steps s room = (refl, refl)
  moves_later (Lists tree.Empty ∷ fs) steps s room = (refl, refl)
  moves_later (Lists (tree.Runs (tree.Starts c links) lists) ∷ fs) steps s room = begins_command c (Linked links ∷ Lists lists ∷ fs) steps s room
  moves_later (Linked tree.Alone ∷ fs) steps s room = (refl, refl)
  moves_later (Linked (tree.Joins op c links) ∷ fs) steps s room =
      either_later (goes op s.memory.status) (begin_command limits c (Linked links ∷ fs)) (λ t. elim (skips_rest limits.shell) [ true ↦ Go fs t | false ↦ Go (Linked links ∷ fs) t ]) (of_command limits c (Linked links ∷ fs)) (λ t. [])
      (begins_command c (Linked links ∷ fs)) (skips (skips_rest limits.shell) fs (Linked links ∷ fs)) steps s room
  moves_later (IfCondition b arms ∷ fs) steps s room =
      either_later (nat_eq s.memory.status 0) (Go (Lists b ∷ behind_block limits.shell fs)) (λ t. begin_arms limits.shell arms fs (block_skipped limits.shell b t)) (λ t. []) (λ t. modern_accesses limits.shell ++ of_beginning_arms limits.shell arms)
      (λ d t l. (refl, refl))
      (overlooked (λ t. begin_arms limits.shell arms fs (block_skipped limits.shell b t)) (λ t. modern_accesses limits.shell ++ of_beginning_arms limits.shell arms) (λ n t. ((begins_arms limits.shell arms fs n (block_skipped limits.shell b t)).0, refl))) steps s room
  moves_later (LoopCondition until c b last ∷ fs) steps s room =
      either_later (holds until s.memory.status) (Go (Lists b ∷ LoopBody until c b ∷ fs)) (λ t. Go fs (set_status (status_of_loop limits.shell last t.memory.status) t)) (λ t. []) (λ t. status_written)
      (λ d t l. (refl, refl)) (λ d t l. (refl, refl)) steps s room
  moves_later (LoopBody until c b ∷ fs) steps s room = (refl, refl)
  moves_later (ForBody name [] body ∷ fs) steps s room = (refl, refl)
  moves_later (ForBody name (value ∷ values) body ∷ fs) steps s room = (refl, refl)
  moves_later (RunNames names ∷ fs) steps s room = overlooked (begin_names limits.shell names fs) (of_beginning_names limits.shell names) (begins_names limits.shell names fs) steps s room
  moves_later (RunText names ∷ fs) steps s room =
      either_later (nat_eq s.memory.status 0) (begin_names limits.shell names fs) (λ t. Go fs (text_failed limits.shell t)) (of_beginning_names limits.shell names) (λ t. [])
      (overlooked (begin_names limits.shell names fs) (of_beginning_names limits.shell names) (begins_names limits.shell names fs)) (λ d t l. (refl, refl)) steps s room
  moves_later (RunFile name others before ∷ fs) steps s room =
      let begins : State → Next = begin_one limits name others before fs in
      let reads : State → List Access = λ t. of_beginning_one limits name others in
      either_later (nat_eq s.memory.status 0) begins (Go fs) reads (λ t. []) (overlooked begins reads (begins_one limits name others before fs)) (λ d t l. (refl, refl)) steps s room
  moves_later (ChosenFile name other others before ∷ fs) steps s room =
      let here : State → Next = begin_one limits name [] before fs in
      let further : State → Next = begin_one limits other others before fs in
      let reads_here : State → List Access = λ t. of_beginning_one limits name [] in
      let reads_further : State → List Access = λ t. of_beginning_one limits other others in
      either_later (nat_eq s.memory.status 0) here further reads_here reads_further
      (overlooked here reads_here (begins_one limits name [] before fs)) (overlooked further reads_further (begins_one limits other others before fs)) steps s room
  moves_later (FileText ∷ fs) steps s room =
      ((either_later (nat_eq s.memory.status 0) (Go fs) (λ t. Go fs (text_failed limits.shell t)) (λ t. []) (λ t. []) (λ d t l. (refl, refl)) (λ d t l. (refl, refl)) steps s room).0, refl)
  moves_later (CommandEnd ∷ fs) steps s room = (refl, refl)
