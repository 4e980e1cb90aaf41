-- One move goes alike from states that agree on what it reads, as far as the bounds allow.
use Rattle.std.proofs.Common.{◌≡◌, ◌∙◌, refl, sym, ap, subst, ℕ, suc, ◌+◌, ◌<◌, ◌≤◌, ◌⊎◌, inl, inr, arith, Bool, true, false, List, [], ◌∷◌, ◌++◌, map, length, Option, Some, None, nat_lt, nat_le, nat_eq, ltb-true, ltb-false, length-append}
use Rattle.device_list.specs.declared.finish.BoardEnd.{BoardEnd}
use Rattle.hushlang.specs.Tree as tree
use Rattle.hushlang.specs.Tree.{Script, Command, Arms}
use Rattle.hushlang.specs.Expansion.{size, most_bytes}
use Rattle.hushlang_shells.specs.TreesByShell.{TextRead, Runs, Fails, Panics, Unread, started_in, sourced_in}
use Rattle.builtins.specs.Builtins.{Builtin, SetEnv, Run, Test, Echo, True, False, Leave, builtin_of}
use Rattle.commands.specs.Computed.{Computed}
use Rattle.commands.specs.BuiltInCommands.{ChangesVariables, carried, deed_of, variables_changed, text_written, echo, setenv}
use Rattle.device_list.specs.Called.{BuiltIn, Device, NoCommand, called_by, NewValue, sets_in}
use Rattle.device_list.specs.DeviceList.{Effect, effect_of, computed_by, file_in}
use Rattle.rehearse_terms.specs.Outcomes.{Outcome, Success, Failure}
use Rattle.rehearse_terms.specs.State.{Text, get, State, LoggedCommand, answer_in}
use Rattle.rehearse_terms.specs.declared.shell.Shell.{Shell}
use Rattle.rehearse_terms.specs.declared.shell.Shell.TheVariants.{Profile, Old2023, Old2025, Modern2025}
use Rattle.rehearse_rules.specs.Needs.{effect_now}
use Rattle.rehearse_rules.proofs.NeedsLemmas.{now_same}
use Rattle.rehearse_rules.specs.Parameters.{parameters_in}
use Rattle.rehearse_rules.specs.ByShell.{unread, reads_again, leaves_in, status_of_exit, asks_in, truth_in, fields_in, turns_in, skips_rest, status_of_nothing, status_of_no_block, status_of_loop, status_in_turn, follows, assigned_in, follows_turns, left_status, call_in}
use Rattle.rehearse_rules.specs.Execution.{Limits, Ending, End, CutDevices, CutSteps, Unknown, Size, Finished, Unsupported, Request, remember, set_status, set_local, begin_turn, status_when, goes, holds, outcome_when, told, told_again, logged, set_environment, assign_local, text_failed, request_of, test_request, for_begun, block_skipped, compound_left, choice_text}
use Rattle.rehearse_machine.specs.Frames.{Frame, Lists, Linked, IfCondition, LoopCondition, LoopBody, ForBody, RunNames, RunText, Next, Go, Ask, Stop, tell_or_ask, finish_next, leave, leave_run, begin_assign, begin_for, begin_arms, begin_read, begin_text, begin_names, begin_exit, begun_text, fitting, ask, begin_called, begin_fields, counted, begin_command, answered, move, begin_turns, begin_words, CommandEnd, leave_compound, behind_block, begin_simple_call, RunFile, FileText, with_file, leave_file, begin_sourced, begin_file, ChosenFile, begin_one, begin_question}
use Rattle.rehearse_reads.specs.Keys.{Key, Environment, Local, Status, Access, Reads, Writes, AgreeOn, AreAmong, all_read, ReadsWithin, known_after}
use Rattle.rehearse_reads.specs.Accesses.{status_written, word_reads, words_reads, setenv_accesses, computed_accesses, success_reads, told_reads, copied_keys, handing_reads, outcome_writes, outcome_accesses, names_written, sized_accesses, local_accesses, assign_accesses, turn_accesses, nothing_accesses, begun_accesses, modern_accesses}
use Rattle.rehearse_reads.specs.Alike.{AreAbreast, IsCutBy}
use Rattle.rehearse_reads.proofs.AccessLemmas.{within_first, within_then, after_both, read_first, read_then, after_read}
use Rattle.rehearse_reads.proofs.AbreastLemmas.{near_begun, near_status, near_statuses, near_local, near_assigned, near_logged, near_set, near_computed, near_sets, near_echoed, near_failed, copied_in, copies_among, still_among}
use Rattle.rehearse_reads.proofs.SameWords.{fields_agree, turns_agree, assigned_agree}
use Rattle.rehearse_reads.proofs.AlikeParts.{further_apart}
use Rattle.rehearse_reads.proofs.AlikeDevices.{told_alike, can_alike, copies_known}
use Rattle.rehearse_reads.proofs.AlikeLoops.{near_turn, near_for, near_skipped}
use Rattle.rehearse_machine.proofs.ProgressLemmas.{IsQuiet, either-quiet, assign-quiet, fields-quiet, for-quiet, words-quiet}
use Rattle.rehearse_frames.specs.MoveAccesses.{of_leaving, of_exit, of_telling, of_beginning_for, of_beginning_arms, of_beginning_read, of_beginning_text, of_beginning_file, of_beginning_names, of_asking, of_listed, of_builtin, of_call, of_fields, of_command, of_move, of_beginning_turns, of_beginning_words, of_leaving_compound, of_simple_call, of_beginning_one, of_beginning_question}

-- the steps that were begun before what is next, and the room that it needs for device commands
abbrev pub next_steps : Next → ℕ
next_steps (Go fs s) = s.steps
next_steps (Ask request fs s) = s.steps
next_steps (Stop ending s) = s.steps

abbrev pub next_devices : Next → ℕ
next_devices (Go fs s) = length s.log
next_devices (Ask request fs s) = suc (length s.log)
next_devices (Stop ending s) = length s.log

-- one more entry in the log
pub one_more : (s : State) (outcome : Outcome) (request : Request) → length (logged outcome request s).log ≡ length s.log + 1
one_more s outcome request = length-append s.log _

module _ (limits : Limits) (i j : ℕ) (k l : List LoggedCommand) where
  abbrev Near : List Key → State → State → Type 0
  Near known s t = AreAbreast limits i j k l known s t

  -- the run here went on, and there was not enough room for that there
  abbrev pub IsBeyondThere : Next → Type 0
  IsBeyondThere a = ((i < j) × (i + limits.step_bound < j + next_steps a))
      ⊎ ((length k < length l) × (length k + limits.device_bound < length l + next_devices a))

  -- the same follows, from states that went alike, or a bound prevented it
  pub data NextAlike : List Key → Next → Next → Type 0 where
    goes_alike : {known : List Key} {fs : List Frame} {s t : State} → Near known s t → NextAlike known (Go fs s) (Go fs t)
    asks_alike : {known : List Key} {request : Request} {fs : List Frame} {s t : State} → Near known s t → NextAlike known (Ask request fs s) (Ask request fs t)
    stops_alike : {known : List Key} {ending : Ending} {s t : State} → Near known s t → NextAlike known (Stop ending s) (Stop ending t)
    cut_alike : {known : List Key} {ending : Ending} {s : State} {b : Next} → IsCutBy limits i j k l ending → NextAlike known (Stop ending s) b
    beyond_there : {known : List Key} {a : Next} {ending : Ending} {t : State} → IsBeyondThere a → NextAlike known a (Stop ending t)

  abbrev Moves : (State → Next) → (State → List Access) → Type 0
  Moves f u = (known : List Key) (s t : State) → Near known s t → ReadsWithin known (u s) → NextAlike (known_after known (u s)) (f s) (f t)

  after_then : (known : List Key) (xs ys : List Access) (a b : Next) → NextAlike (known_after (known_after known xs) ys) a b → NextAlike (known_after known (xs ++ ys)) a b
  after_then known xs ys a b h = subst (λ (ks : List Key). NextAlike ks a b) (sym (after_both known xs ys)) h

  after_keys : (known keys : List Key) (ys : List Access) (a b : Next) → NextAlike (known_after known ys) a b → NextAlike (known_after known (all_read keys ++ ys)) a b
  after_keys known keys ys a b h = subst (λ (ks : List Key). NextAlike ks a b) (sym (after_read known keys ys)) h

  if_moves : (known : List Key) (b c : Bool) → c ≡ b → (x y p q : Next) (xs ys : List Access) → (ReadsWithin known xs → NextAlike (known_after known xs) x p) → (ReadsWithin known ys → NextAlike (known_after known ys) y q)
      → ReadsWithin known (elim b [ true ↦ xs | false ↦ ys ]) → NextAlike (known_after known (elim b [ true ↦ xs | false ↦ ys ])) (elim b [ true ↦ x | false ↦ y ]) (elim c [ true ↦ p | false ↦ q ])
  if_moves known true true e x y p q xs ys h g w = h w
  if_moves known true false e x y p q xs ys h g w = absurd (cc)
  if_moves known false true e x y p q xs ys h g w = absurd (cc)
  if_moves known false false e x y p q xs ys h g w = g w

  moves_if : (b : Bool) (f g : State → Next) (u v : State → List Access) → Moves f u → Moves g v → Moves (λ s. elim b [ true ↦ f s | false ↦ g s ]) (λ s. elim b [ true ↦ u s | false ↦ v s ])
  moves_if true f g u v h m = h
  moves_if false f g u v h m = m

  goes_on : (fs : List Frame) → Moves (Go fs) (λ s. [])
  goes_on fs known s t near w = goes_alike near

  stops : (ending : Ending) → Moves (Stop ending) (λ s. [])
  stops ending known s t near w = stops_alike near

  sets_status : (n : ℕ) (fs : List Frame) → Moves (λ s. Go fs (set_status n s)) (λ s. status_written)
  sets_status n fs known s t near w = goes_alike (near_status limits i j k l known s t n near)

  -- ---- `exit`

  -- a `run` goes on or ends by the status
  leaves_run : (run : Frame) (fs : List Frame) (known : List Key) (s t : State) → t.memory.status ≡ s.memory.status → Near known s t → NextAlike known (leave_run run fs s) (leave_run run fs t)
  leaves_run run fs known s t same near =
      subst (λ (n : ℕ). NextAlike known (leave_run run fs s) (elim (nat_eq n 0) [ true ↦ Go (run ∷ fs) t | false ↦ Go fs t ])) (sym same) (by (nat_eq s.memory.status 0))
    where
      by : (b : Bool) → NextAlike known (elim b [ true ↦ Go (run ∷ fs) s | false ↦ Go fs s ]) (elim b [ true ↦ Go (run ∷ fs) t | false ↦ Go fs t ])
      by true = goes_alike near
      by false = goes_alike near

  only_read : (b : Bool) (known : List Key) (x y : Next) → NextAlike known x y → NextAlike (known_after known (elim b [ true ↦ [] | false ↦ Reads Status ∷ [] ])) x y
  only_read true known x y h = h
  only_read false known x y h = h

  -- `exit` in a compound command
  leaves_compound : (shell : Shell) (ps : List Frame) (known : List Key) (s t : State) (xs : List Access) (a b : Next) → t.memory.status ≡ s.memory.status → Near known s t → NextAlike (known_after known xs) a b
      → NextAlike (known_after known (of_leaving_compound shell xs)) (leave_compound shell ps a s) (leave_compound shell ps b t)
  leaves_compound Profile ps known s t xs a b same near h = h
  leaves_compound Old2023 ps known s t xs a b same near h = h
  leaves_compound Old2025 ps known s t xs a b same near h = h
  leaves_compound Modern2025 ps known s t xs a b same near h =
      goes_alike (near_statuses limits i j k l known s t (left_status s.memory.status) (left_status t.memory.status) (ap left_status same) near)

  -- `exit` in the text of a file
  leaves_file : (shell : Shell) (status : ℕ) (fs : List Frame) (known : List Key) (s t : State) → s.memory.status ≡ status → t.memory.status ≡ status → Near known s t → NextAlike known (leave_file shell fs s) (leave_file shell fs t)
  leaves_file Profile status fs known s t e f near = goes_alike near
  leaves_file Old2023 status fs known s t e f near = goes_alike near
  leaves_file Old2025 status fs known s t e f near = goes_alike near
  leaves_file Modern2025 status fs known s t e f near =
      subst (λ (n : ℕ). NextAlike known (Stop (End s.memory.status) s) (Stop (End n) t)) (e ∙ sym f) (stops_alike near)

  -- `exit` has set the status in both
  leaves : (shell : Shell) (status : ℕ) (fs : List Frame) (known : List Key) (s t : State) → s.memory.status ≡ status → t.memory.status ≡ status → Near known s t → NextAlike (known_after known (of_leaving shell status fs)) (leave shell fs s) (leave shell fs t)
  leaves shell status [] known s t e f near =
      subst (λ (n : ℕ). NextAlike known (Stop (End s.memory.status) s) (Stop (End n) t)) (e ∙ sym f) (stops_alike near)
  leaves shell status (RunNames names ∷ fs) known s t e f near = leaves_run (RunNames names) fs known s t (f ∙ sym e) near
  leaves shell status (RunText names ∷ fs) known s t e f near =
      only_read (nat_eq status 0) known (leave_run (RunText names) fs s) (leave_run (RunText names) fs t) (leaves_run (RunText names) fs known s t (f ∙ sym e) near)
  leaves shell status (Lists ls ∷ fs) known s t e f near = leaves shell status fs known s t e f near
  leaves shell status (Linked ls ∷ fs) known s t e f near = leaves shell status fs known s t e f near
  leaves shell status (IfCondition b arms ∷ fs) known s t e f near =
      leaves_compound shell (CommandEnd ∷ fs) known s t (of_leaving shell status fs) (leave shell fs s) (leave shell fs t) (f ∙ sym e) near (leaves shell status fs known s t e f near)
  leaves shell status (LoopCondition until c b last ∷ fs) known s t e f near =
      leaves_compound shell (CommandEnd ∷ fs) known s t (of_leaving shell status fs) (leave shell fs s) (leave shell fs t) (f ∙ sym e) near (leaves shell status fs known s t e f near)
  leaves shell status (LoopBody until c b ∷ fs) known s t e f near =
      leaves_compound shell (CommandEnd ∷ fs) known s t (of_leaving shell status fs) (leave shell fs s) (leave shell fs t) (f ∙ sym e) near (leaves shell status fs known s t e f near)
  leaves shell status (ForBody name fields body ∷ fs) known s t e f near =
      leaves_compound shell fs known s t (of_leaving shell status fs) (leave shell fs s) (leave shell fs t) (f ∙ sym e) near (leaves shell status fs known s t e f near)
  leaves shell status (RunFile name others before ∷ fs) known s t e f near = leaves shell status fs known s t e f near
  leaves shell status (ChosenFile name other others before ∷ fs) known s t e f near = leaves shell status fs known s t e f near
  leaves shell status (FileText ∷ fs) known s t e f near = leaves_file shell status fs known s t e f near
  leaves shell status (CommandEnd ∷ fs) known s t e f near =
      leaves_compound shell (CommandEnd ∷ fs) known s t (of_leaving shell status fs) (leave shell fs s) (leave shell fs t) (f ∙ sym e) near (leaves shell status fs known s t e f near)

  exits : (o : Option ℕ) (other : ℕ) (fs : List Frame) → Moves (begin_exit limits.shell o other fs) (λ s. of_exit limits.shell o fs)
  exits (Some n) other fs known s t near w = leaves limits.shell n fs (Status ∷ known) (set_status n s) (set_status n t) refl refl (near_status limits i j k l known s t n near)
  exits None other fs known s t near w = sets_status other fs known s t near w

  -- ---- device commands

  finishes : (known : List Key) (ends : Option BoardEnd) (name : Text) (fs : List Frame) (s t : State) → Near known s t → NextAlike known (finish_next ends name fs s) (finish_next ends name fs t)
  finishes known (Some finish) name fs s t near = stops_alike near
  finishes known None name fs s t near = goes_alike near

  -- the status that is kept for the text of a file is the same in both
  same_file : (outcome : Outcome) (request : Request) (fs : List Frame) (known : List Key) (s t : State) → Near known s t → ReadsWithin known (outcome_accesses outcome request)
      → with_file t.memory.status request.effect.runs fs ≡ with_file s.memory.status request.effect.runs fs
  same_file outcome request fs known s t near = by request.effect.runs
    where
      by : (runs : List Text) → ReadsWithin known (handing_reads runs ++ (all_read (copied_keys request.effect.sets) ++ outcome_writes outcome request)) → with_file t.memory.status runs fs ≡ with_file s.memory.status runs fs
      by [] w = refl
      by (name ∷ others) w = ap (λ (n : ℕ). RunFile name others n ∷ fs) (near.keys Status w.0)

  after_handing : (runs : List Text) (known : List Key) (xs : List Access) (a b : Next) → NextAlike (known_after known xs) a b → NextAlike (known_after known (handing_reads runs ++ xs)) a b
  after_handing [] known xs a b h = h
  after_handing (name ∷ others) known xs a b h = h

  -- with the same file above the frames of both
  answers_over : (outcome : Outcome) (request : Request) (fs : List Frame) (known : List Key) (s t : State) → Near known s t → with_file t.memory.status request.effect.runs fs ≡ with_file s.memory.status request.effect.runs fs
      → AreAmong (copied_keys request.effect.sets) known → NextAlike (known_after known (outcome_writes outcome request)) (answered outcome request fs s) (answered outcome request fs t)
  answers_over Success request fs known s t near e w =
      let sets : List (Text × NewValue) = sets_in request.words request.effect.sets in
      let here : State = set_environment sets (logged Success request s) in
      let there : State = set_environment sets (logged Success request t) in
      let after : List Key = known_after (Status ∷ known) (names_written (map (λ e. e.0) sets)) in
      let below : List Frame = with_file s.memory.status request.effect.runs fs in
      subst (λ (gs : List Frame). NextAlike after (finish_next request.effect.ends request.name below here) (finish_next request.effect.ends request.name gs there)) (sym e)
      (finishes after request.effect.ends request.name below here there
      (near_set limits i j k l (Status ∷ known) (logged Success request s) (logged Success request t) sets (near_logged limits i j k l known s t Success request near)
      (still_among known Status (copied_in sets) (copies_among known request.words request.effect.sets w))))
  answers_over Failure request fs known s t near e w =
      let below : List Frame = with_file s.memory.status request.effect.runs fs in
      subst (λ (gs : List Frame). NextAlike (Status ∷ known) (Go below (logged Failure request s)) (Go gs (logged Failure request t))) (sym e)
      (goes_alike (near_logged limits i j k l known s t Failure request near))

  pub answers_alike : (outcome : Outcome) (request : Request) (fs : List Frame) → Moves (answered outcome request fs) (λ s. outcome_accesses outcome request)
  answers_alike outcome request fs known s t near w =
      let keys : List Key = copied_keys request.effect.sets in
      let writes : List Access = outcome_writes outcome request in
      after_handing request.effect.runs known (all_read keys ++ writes) (answered outcome request fs s) (answered outcome request fs t)
      (subst (λ (after : List Key). NextAlike after (answered outcome request fs s) (answered outcome request fs t)) (sym (after_read known keys writes))
      (answers_over outcome request fs known s t near (same_file outcome request fs known s t near w) (copies_known limits i j k l known request outcome w)))

  tells : (o : Option Bool) (request : Request) (fs : List Frame) → Moves (tell_or_ask o request fs) (λ s. of_telling o request)
  tells None request fs known s t near w = asks_alike near
  tells (Some true) request fs known s t near w = answers_alike Success (told_again request) fs known s t near w
  tells (Some false) request fs known s t near w = answers_alike Failure (told_again request) fs known s t near w

  answer_needs : (outcome : Outcome) (request : Request) (fs : List Frame) (s : State) → length s.log < next_devices (answered outcome request fs s)
  answer_needs Success request fs s = by request.effect.ends
    where
      by : (ends : Option BoardEnd) → length s.log < next_devices (finish_next ends request.name (with_file s.memory.status request.effect.runs fs) (set_environment (sets_in request.words request.effect.sets) (logged Success request s)))
      by (Some how) = let a = one_more s Success request in omega arith
      by None = let a = one_more s Success request in omega arith
  answer_needs Failure request fs s = let a = one_more s Failure request in omega arith

  tell_needs : (o : Option Bool) (request : Request) (fs : List Frame) (s : State) → length s.log < next_devices (tell_or_ask o request fs s)
  tell_needs None request fs s = omega arith
  tell_needs (Some success) request fs s = answer_needs (outcome_when success) (told_again request) fs s

  ask_by : (o p : Option Bool) (request : Request) (fs : List Frame) (known : List Key) (s t : State) → Near known s t → (b c : Bool) → nat_lt (length s.log) limits.device_bound ≡ b → nat_lt (length t.log) limits.device_bound ≡ c → (b ≡ true → p ≡ o)
      → ReadsWithin known (elim b [ true ↦ all_read (told_reads request) ++ of_telling o request | false ↦ [] ])
      → NextAlike (known_after known (elim b [ true ↦ all_read (told_reads request) ++ of_telling o request | false ↦ [] ])) (elim b [ true ↦ tell_or_ask o request fs s | false ↦ Stop CutDevices s ]) (elim c [ true ↦ tell_or_ask p request fs t | false ↦ Stop CutDevices t ])
  ask_by o p request fs known s t near true true e f same w =
      after_keys known (told_reads request) (of_telling o request) (tell_or_ask o request fs s) (tell_or_ask p request fs t)
      (subst (λ (x : Option Bool). NextAlike (known_after known (of_telling o request)) (tell_or_ask o request fs s) (tell_or_ask x request fs t)) (sym (same refl)) (tells o request fs known s t near (read_then known (told_reads request) (of_telling o request) w)))
  ask_by o p request fs known s t near true false e f same w =
      let full = ltb-false (length t.log) limits.device_bound f in
      let room = ltb-true (length s.log) limits.device_bound e in
      let a = further_apart k l s.log t.log near.logs in
      let needs = tell_needs o request fs s in
      beyond_there (inr (omega arith, omega arith))
  ask_by o p request fs known s t near false true e f same w =
      let full = ltb-false (length s.log) limits.device_bound e in
      let room = ltb-true (length t.log) limits.device_bound f in
      let a = further_apart k l s.log t.log near.logs in
      cut_alike (let less : length l < length k = omega arith in less)
  ask_by o p request fs known s t near false false e f same w = stops_alike near

  asked_within : (known : List Key) (request : Request) (o : Option Bool) (b : Bool) → ReadsWithin known (elim b [ true ↦ all_read (told_reads request) ++ of_telling o request | false ↦ [] ]) → b ≡ true → AreAmong (told_reads request) known
  asked_within known request o true w e = read_first known (told_reads request) (of_telling o request) w
  asked_within known request o false w e = absurd (cc)

  asks : (request : Request) (fs : List Frame) → Moves (ask limits request fs) (of_asking limits request)
  asks request fs known s t near w =
      let room : Bool = nat_lt (length s.log) limits.device_bound in
      ask_by (told request s.log) (told request t.log) request fs known s t near room (nat_lt (length t.log) limits.device_bound) refl refl
      (λ e. told_alike limits i j k l known s t request near (asked_within known request (told request s.log) room w e)) w

  -- ---- parts of commands

  assigns_more : (shell : Shell) (name value : Text) (pairs : List (Text × tree.Word)) (fs : List Frame) (known : List Key) (s t : State) → Moves (begin_assign shell pairs fs) (assign_accesses shell pairs) → Near known s t
      → ReadsWithin known (local_accesses shell name value ++ assign_accesses shell pairs (assign_local shell name value s))
      → NextAlike (known_after known (local_accesses shell name value ++ assign_accesses shell pairs (assign_local shell name value s))) (begin_assign shell pairs fs (assign_local shell name value s)) (begin_assign shell pairs fs (assign_local shell name value t))
  assigns_more shell name value pairs fs known s t does near w =
      let s' : State = assign_local shell name value s in
      let t' : State = assign_local shell name value t in
      after_then known (local_accesses shell name value) (assign_accesses shell pairs s') (begin_assign shell pairs fs s') (begin_assign shell pairs fs t')
      (does (known_after known (local_accesses shell name value)) s' t' (near_assigned limits i j k l known s t shell name value near) (within_then known (local_accesses shell name value) (assign_accesses shell pairs s') w))

  assigns : (shell : Shell) (pairs : List (Text × tree.Word)) (fs : List Frame) → Moves (begin_assign shell pairs fs) (assign_accesses shell pairs)
  assigns shell [] fs known s t near w = sets_status 0 fs known s t near w
  assigns shell (pair ∷ pairs) fs known s t near w =
      let value : Text = assigned_in shell (parameters_in s.memory) pair.1 in
      let keys : List Key = word_reads s.memory pair.1 in
      let rest : List Access = elim (nat_le (length value) most_bytes) [ true ↦ local_accesses shell pair.0 value ++ assign_accesses shell pairs (assign_local shell pair.0 value s) | false ↦ [] ] in
      let there : (v : Text) → Next = λ v. elim (nat_le (length v) most_bytes) [ true ↦ begin_assign shell pairs fs (assign_local shell pair.0 v t) | false ↦ Stop Size t ] in
      subst (λ (v : Text). NextAlike (known_after known (all_read keys ++ rest)) (begin_assign shell (pair ∷ pairs) fs s) (there v)) (sym (assigned_agree known s t near.keys shell pair.1 (read_first known keys rest w)))
      (after_keys known keys rest (begin_assign shell (pair ∷ pairs) fs s) (there value)
      (if_moves known (nat_le (length value) most_bytes) (nat_le (length value) most_bytes) refl (begin_assign shell pairs fs (assign_local shell pair.0 value s)) (Stop Size s) (begin_assign shell pairs fs (assign_local shell pair.0 value t)) (Stop Size t)
      (local_accesses shell pair.0 value ++ assign_accesses shell pairs (assign_local shell pair.0 value s)) []
      (assigns_more shell pair.0 value pairs fs known s t (assigns shell pairs fs) near) (λ x. stops_alike near) (read_then known keys rest w)))

  begins_for : (name : Text) (values : List Text) (body : Script) (fs : List Frame) → Moves (begin_for name values body fs) (λ s. of_beginning_for values)
  begins_for name [] body fs known s t near w = sets_status 0 fs known s t near w
  begins_for name (f ∷ values) body fs known s t near w = goes_alike near

  begins_turns : (name : Text) (values : List Text) (body : Script) (fs : List Frame) → Moves (begin_turns limits.shell name values body fs) (λ s. of_beginning_turns limits.shell name values)
  begins_turns name values body fs =
      moves_if (follows_turns limits.shell name values) (begin_for name values body fs) (Stop (Unsupported name)) (λ x. of_beginning_for values) (λ x. []) (begins_for name values body fs) (stops (Unsupported name))

  -- the status of no command
  keeps_status : (shell : Shell) (fs : List Frame) → Moves (λ s. Go fs (set_status (status_of_nothing shell s.memory.status) s)) (λ s. nothing_accesses shell)
  keeps_status Profile fs known s t near w = sets_status 0 fs known s t near w
  keeps_status Old2023 fs known s t near w = goes_alike near
  keeps_status Old2025 fs known s t near w = goes_alike near
  keeps_status Modern2025 fs known s t near w = goes_alike near

  begins_arms : (shell : Shell) (arms : Arms) (fs : List Frame) → Moves (begin_arms shell arms fs) (λ s. of_beginning_arms shell arms)
  begins_arms shell (tree.Arm c b arms) fs known s t near w = goes_alike near
  begins_arms shell (tree.Else b) fs known s t near w = goes_alike near
  begins_arms shell tree.NoElse fs known s t near w = by shell
    where
      by : (shell : Shell) → NextAlike (known_after known (nothing_accesses shell)) (Go fs (set_status (status_of_no_block shell s.memory.status) s)) (Go fs (set_status (status_of_no_block shell t.memory.status) t))
      by Profile = goes_alike (near_status limits i j k l known s t 0 near)
      by Old2023 = goes_alike near
      by Old2025 = goes_alike near
      by Modern2025 = goes_alike near

  begins_read : (shell : Shell) (found : TextRead) (name : Text) (names : List Text) (fs : List Frame) → Moves (begin_read shell found name names fs) (λ s. of_beginning_read found)
  begins_read shell (Runs tree.Empty) name names fs known s t near w = goes_alike (near_status limits i j k l known s t 0 near)
  begins_read shell (Runs (tree.Runs x xs)) name names fs known s t near w = goes_alike near
  begins_read shell Fails name names fs known s t near w = goes_alike (near_status limits i j k l known s t 1 near)
  begins_read shell Panics name names fs known s t near w = stops_alike near
  begins_read shell Unread name names fs known s t near w = stops_alike near

  begins_text : (shell : Shell) (text : Option Text) (name : Text) (names : List Text) (fs : List Frame) → Moves (begin_text shell text name names fs) (λ s. of_beginning_text shell text)
  begins_text shell None name names fs known s t near w = sets_status 1 fs known s t near w
  begins_text shell (Some text) name names fs known s t near w = begins_read shell (started_in shell text) name names fs known s t near w

  begins_sourced : (shell : Shell) (found : TextRead) (name : Text) (fs : List Frame) → Moves (begin_sourced shell found name fs) (λ s. of_beginning_read found)
  begins_sourced shell (Runs tree.Empty) name fs known s t near w = goes_alike (near_status limits i j k l known s t 0 near)
  begins_sourced shell (Runs (tree.Runs x xs)) name fs known s t near w = goes_alike near
  begins_sourced shell Fails name fs known s t near w = goes_alike (near_status limits i j k l known s t 1 near)
  begins_sourced shell Panics name fs known s t near w = stops_alike near
  begins_sourced shell Unread name fs known s t near w = stops_alike near

  begins_file : (shell : Shell) (text : Option Text) (name : Text) (fs : List Frame) → Moves (begin_file shell text name fs) (λ s. of_beginning_file shell text)
  begins_file shell None name fs known s t near w = sets_status 1 fs known s t near w
  begins_file shell (Some text) name fs known s t near w = begins_sourced shell (sourced_in shell text) name fs known s t near w

  begins_question : (shell : Shell) (found : TextRead) (name : Text) (after : Frame) (fs : List Frame) → Moves (begin_question shell found name after fs) (λ s. of_beginning_question found)
  begins_question shell (Runs tree.Empty) name after fs known s t near w = goes_alike (near_status limits i j k l known s t 0 near)
  begins_question shell (Runs (tree.Runs x xs)) name after fs known s t near w = goes_alike near
  begins_question shell Fails name after fs known s t near w = goes_alike (near_status limits i j k l known s t 1 near)
  begins_question shell Panics name after fs known s t near w = stops_alike near
  begins_question shell Unread name after fs known s t near w = stops_alike near

  begins_one : (name : Text) (others : List Text) (before : ℕ) (fs : List Frame) → Moves (begin_one limits name others before fs) (λ s. of_beginning_one limits name others)
  begins_one name [] before fs known s t near w =
      begins_file limits.shell (file_in limits.devices name) name fs (Status ∷ known) (set_status before s) (set_status before t) (near_status limits i j k l known s t before near) w
  begins_one name (other ∷ others) before fs known s t near w =
      begins_question limits.shell (started_in limits.shell (choice_text name)) name (ChosenFile name other others before) fs known s t near w

  begins_names : (shell : Shell) (names : List Text) (fs : List Frame) → Moves (begin_names shell names fs) (of_beginning_names shell names)
  begins_names shell [] fs known s t near w = goes_alike near
  begins_names shell (name ∷ names) fs known s t near w =
      subst (λ (o : Option Text). NextAlike (known_after known (of_beginning_text shell (get s.memory.environment name))) (begin_text shell (get s.memory.environment name) name names fs s) (begin_text shell o name names fs t)) (sym (near.keys (Environment name) w.0))
      (begins_text shell (get s.memory.environment name) name names fs known s t near w.1)

  -- ---- commands

  begins_builtin : (again : Bool) (b : Builtin) (name : Text) (words : List Text) (fs : List Frame) → Moves (begin_called limits again (BuiltIn (deed_of b)) name words fs) (of_builtin limits again b name words fs)
  begins_builtin again SetEnv name words fs known s t near w = goes_alike (near_sets limits i j k l words known s t near)
  begins_builtin again Run name [] fs known s t near w = sets_status 1 fs known s t near w
  begins_builtin again Run name (x ∷ xs) fs known s t near w = goes_alike near
  begins_builtin again Test name words fs known s t near w =
      moves_if (asks_in limits.shell words) (ask limits (test_request limits name words) fs) (λ x. Go fs (set_status (status_when (truth_in limits.shell words)) x)) (of_asking limits (test_request limits name words)) (λ x. status_written)
      (asks (test_request limits name words) fs) (sets_status (status_when (truth_in limits.shell words)) fs) known s t near w
  begins_builtin again Echo name words fs known s t near w = goes_alike (near_echoed limits i j k l known s t echo words near)
  begins_builtin again True name words fs known s t near w = sets_status 0 fs known s t near w
  begins_builtin again False name words fs known s t near w = sets_status 1 fs known s t near w
  begins_builtin again Leave name words fs known s t near w = exits (leaves_in limits.shell again words) (status_of_exit limits.shell words) fs known s t near w

  begins_listed : (name : Text) (words : List Text) (effect : Effect) (fs : List Frame) → Moves (λ x. ask limits (request_of name words (effect_now limits.room x effect)) fs x) (of_listed limits name words effect)
  begins_listed name words effect fs known s t near w =
      let request : Effect → Request = request_of name words in
      let keys : List Key = success_reads limits.room effect in
      let rest : List Access = of_asking limits (request (effect_now limits.room s effect)) s in
      let now : effect_now limits.room t effect ≡ effect_now limits.room s effect = now_same limits.room effect s t (can_alike limits i j k l known s t effect near (read_first known keys rest w)) in
      after_keys known keys rest (ask limits (request (effect_now limits.room s effect)) fs s) (ask limits (request (effect_now limits.room t effect)) fs t)
      (subst (λ (x : Effect). NextAlike (known_after known rest) (ask limits (request (effect_now limits.room s effect)) fs s) (ask limits (request x) fs t)) (sym now)
      (asks (request (effect_now limits.room s effect)) fs known s t near (read_then known keys rest w)))

  begins_call : (again : Bool) (name : Text) (words : List Text) (fs : List Frame) → Moves (begin_called limits again (called_by limits.devices name words) name words fs) (of_call limits again name words fs)
  begins_call again name words fs = by (computed_by limits.devices name words) (builtin_of name) (effect_of limits.devices name words)
    where
      by : (o : Option Computed) (b : Option Builtin) (f : Option Effect)
          → Moves (begin_called limits again (elim o [ Some computed ↦ BuiltIn (ChangesVariables (λ ws. carried computed)) | None ↦ elim b [ Some builtin ↦ BuiltIn (deed_of builtin) | None ↦ elim f [ Some effect ↦ Device effect | None ↦ NoCommand ] ] ]) name words fs)
          (λ s. elim o [ Some computed ↦ computed_accesses computed | None ↦ elim b [ Some builtin ↦ of_builtin limits again builtin name words fs s | None ↦ elim f [ Some effect ↦ of_listed limits name words effect s | None ↦ [] ] ] ])
      by (Some computed) b f known s t near w = goes_alike (near_computed limits i j k l computed known s t near w)
      by None (Some builtin) f known s t near w = begins_builtin again builtin name words fs known s t near w
      by None None (Some effect) known s t near w = begins_listed name words effect fs known s t near w
      by None None None known s t near w = stops_alike near

  begins_simple_call : (again : Bool) (found : List Text) (fs : List Frame) → Moves (begin_simple_call limits again found fs) (of_simple_call limits again fs found)
  begins_simple_call again [] fs known s t near w = keeps_status limits.shell fs known s t near w
  begins_simple_call again (name ∷ words) fs known s t near w =
      moves_if (follows limits.shell limits.devices name words) (begin_called limits again (called_by limits.devices name words) name words fs) (Stop (Unsupported name)) (of_call limits again name words fs) (λ x. [])
      (begins_call again name words fs) (stops (Unsupported name)) known s t near w

  begins_fields : (again : Bool) (found : List Text) (fs : List Frame) → Moves (begin_fields limits again found fs) (of_fields limits again fs found)
  begins_fields again found = begins_simple_call again (call_in limits.shell found)

  -- fields that are equal
  fits_alike : (known : List Key) (s t : State) (here there : List Text) (f : List Text → State → Next) (u : List Text → State → List Access) → there ≡ here → Moves (f here) (u here) → Near known s t
      → ReadsWithin known (sized_accesses here u s) → NextAlike (known_after known (sized_accesses here u s)) (fitting here f s) (fitting there f t)
  fits_alike known s t here there f u e h near w =
      subst (λ (x : List Text). NextAlike (known_after known (sized_accesses here u s)) (fitting here f s) (fitting x f t)) (sym e)
      (if_moves known (nat_le (size here) most_bytes) (nat_le (size here) most_bytes) refl (f here s) (Stop Size s) (f here t) (Stop Size t) (u here s) [] (h known s t near) (λ x. stops_alike near) w)

  expands : (expand : State → List Text) (words : List tree.Word) → ((known : List Key) (s t : State) → AgreeOn known s t → AreAmong (words_reads s.memory words) known → expand t ≡ expand s)
      → (f : List Text → State → Next) (u : List Text → State → List Access) → ((found : List Text) → Moves (f found) (u found))
      → Moves (λ t. fitting (expand t) f t) (λ t. all_read (words_reads t.memory words) ++ sized_accesses (expand t) u t)
  expands expand words agree f u h known s t near w =
      let rest : List Access = sized_accesses (expand s) u s in
      after_keys known (words_reads s.memory words) rest (fitting (expand s) f s) (fitting (expand t) f t)
      (fits_alike known s t (expand s) (expand t) f u (agree known s t near.keys (read_first known (words_reads s.memory words) rest w)) (h (expand s)) near (read_then known (words_reads s.memory words) rest w))

  -- a step is begun; there, it may be one too many
  abbrev Keeps : (State → Next) → Type 0
  Keeps f = (s : State) → s.steps ≤ next_steps (f s)

  counts_by : (f : State → Next) (u : State → List Access) (known : List Key) (s t : State) → Moves f u → Keeps f → Near known s t → (b c : Bool) → nat_lt s.steps limits.step_bound ≡ b → nat_lt t.steps limits.step_bound ≡ c
      → ReadsWithin known (elim b [ true ↦ u (record s { steps = suc s.steps }) | false ↦ [] ])
      → NextAlike (known_after known (elim b [ true ↦ u (record s { steps = suc s.steps }) | false ↦ [] ])) (elim b [ true ↦ f (record s { steps = suc s.steps }) | false ↦ Stop CutSteps s ]) (elim c [ true ↦ f (record t { steps = suc t.steps }) | false ↦ Stop CutSteps t ])
  counts_by f u known s t does kept near true true p q w = does known (record s { steps = suc s.steps }) (record t { steps = suc t.steps }) (near_begun limits i j k l known s t near) w
  counts_by f u known s t does kept near true false p q w =
      let grown : suc s.steps ≤ next_steps (f (record s { steps = suc s.steps })) = kept (record s { steps = suc s.steps }) in
      let full = ltb-false t.steps limits.step_bound q in
      let room = ltb-true s.steps limits.step_bound p in
      let a = near.steps in
      beyond_there (inl (omega arith, omega arith))
  counts_by f u known s t does kept near false true p q w =
      let full = ltb-false s.steps limits.step_bound p in
      let room = ltb-true t.steps limits.step_bound q in
      let a = near.steps in
      cut_alike (let less : j < i = omega arith in less)
  counts_by f u known s t does kept near false false p q w = stops_alike near

  counts : (f : State → Next) (u : State → List Access) → Moves f u → Keeps f → Moves (counted limits f) (begun_accesses limits u)
  counts f u does kept known s t near w = counts_by f u known s t does kept near (nat_lt s.steps limits.step_bound) (nat_lt t.steps limits.step_bound) refl refl w

  quiet_keeps : (s : State) (next : Next) → IsQuiet limits s next → s.steps ≤ next_steps next
  quiet_keeps s (Go fs u) e = omega arith
  quiet_keeps s (Ask request fs u) e = omega arith
  quiet_keeps s (Stop ending u) e = omega arith

  fitting_quiet : (s : State) (found : List Text) (f : List Text → State → Next) → IsQuiet limits s (f found s) → IsQuiet limits s (fitting found f s)
  fitting_quiet s found f e = either-quiet limits s (nat_le (size found) most_bytes) (f found s) (Stop Size s) e refl

  begins_words : (name : Text) (words : List tree.Word) (body : Script) (fs : List Frame)
      → Moves (λ t. begin_words limits.shell name words body fs (for_begun limits.shell t)) (λ t. modern_accesses limits.shell ++ of_beginning_words limits.shell name words (for_begun limits.shell t))
  begins_words name words body fs known s t near w =
      let first : List Access = modern_accesses limits.shell in
      let s' : State = for_begun limits.shell s in
      let t' : State = for_begun limits.shell t in
      let rest : List Access = of_beginning_words limits.shell name words s' in
      after_then known first rest (begin_words limits.shell name words body fs s') (begin_words limits.shell name words body fs t')
      (expands (λ u. turns_in limits.shell (parameters_in u.memory) words) words (λ ks x y agree v. turns_agree ks x y agree limits.shell words v) (λ values. begin_turns limits.shell name values body fs) (λ values u. of_beginning_turns limits.shell name values) (λ found. begins_turns name found body fs)
      (known_after known first) s' t' (near_for limits i j k l limits.shell known s t near) (within_then known first rest w))

  -- ---- a move

  begins_command : (c : Command) (fs : List Frame) → Moves (begin_command limits c fs) (of_command limits c fs)
  begins_command (tree.Simple words) fs =
      counts (λ t. fitting (fields_in limits.shell (parameters_in t.memory) words) (λ f. begin_fields limits (reads_again words) f fs) t)
      (λ t. all_read (words_reads t.memory words) ++ sized_accesses (fields_in limits.shell (parameters_in t.memory) words) (of_fields limits (reads_again words) fs) t)
      (expands (λ t. fields_in limits.shell (parameters_in t.memory) words) words (λ known s t agree w. fields_agree known s t agree limits.shell words w) (λ f. begin_fields limits (reads_again words) f fs) (of_fields limits (reads_again words) fs) (λ found. begins_fields (reads_again words) found fs))
      (λ s. let found : List Text = fields_in limits.shell (parameters_in s.memory) words in
      quiet_keeps s (fitting found (λ f. begin_fields limits (reads_again words) f fs) s) (fitting_quiet s found (λ f. begin_fields limits (reads_again words) f fs) (fields-quiet limits (reads_again words) found fs s)))
  begins_command (tree.Assign pairs) fs =
      counts (begin_assign limits.shell pairs fs) (assign_accesses limits.shell pairs) (assigns limits.shell pairs fs)
      (λ s. quiet_keeps s (begin_assign limits.shell pairs fs s) (assign-quiet limits pairs fs s s refl))
  begins_command (tree.If arms) fs = begins_arms limits.shell arms fs
  begins_command (tree.Loop until c b) fs = λ known s t near w. goes_alike near
  begins_command (tree.For name words body) fs =
      counts (λ t. begin_words limits.shell name words body fs (for_begun limits.shell t))
      (λ t. modern_accesses limits.shell ++ of_beginning_words limits.shell name words (for_begun limits.shell t))
      (begins_words name words body fs)
      (λ s. quiet_keeps s (begin_words limits.shell name words body fs (for_begun limits.shell s)) (words-quiet limits name words body fs s (for_begun limits.shell s) refl))

  pub moves_alike : (fs : List Frame) → Moves (move limits fs) (of_move limits fs)
  moves_alike [] known s t near w =
      subst (λ (n : ℕ). NextAlike known (Stop (End s.memory.status) s) (Stop (End n) t)) (sym (near.keys Status w.0)) (stops_alike near)
  moves_alike (Lists tree.Empty ∷ fs) known s t near w = goes_alike near
  moves_alike (Lists (tree.Runs (tree.Starts c links) lists) ∷ fs) known s t near w = begins_command c (Linked links ∷ Lists lists ∷ fs) known s t near w
  moves_alike (Linked tree.Alone ∷ fs) known s t near w = goes_alike near
  moves_alike (Linked (tree.Joins op c links) ∷ fs) known s t near w =
      if_moves known (goes op s.memory.status) (goes op t.memory.status) (ap (λ (n : ℕ). goes op n) (near.keys Status w.0))
      (begin_command limits c (Linked links ∷ fs) s) (elim (skips_rest limits.shell) [ true ↦ Go fs s | false ↦ Go (Linked links ∷ fs) s ])
      (begin_command limits c (Linked links ∷ fs) t) (elim (skips_rest limits.shell) [ true ↦ Go fs t | false ↦ Go (Linked links ∷ fs) t ])
      (of_command limits c (Linked links ∷ fs) s) [] (begins_command c (Linked links ∷ fs) known s t near) (λ v. skips (skips_rest limits.shell)) w.1
    where
      skips : (b : Bool) → NextAlike known (elim b [ true ↦ Go fs s | false ↦ Go (Linked links ∷ fs) s ]) (elim b [ true ↦ Go fs t | false ↦ Go (Linked links ∷ fs) t ])
      skips true = goes_alike near
      skips false = goes_alike near
  moves_alike (IfCondition b arms ∷ fs) known s t near w =
      if_moves known (nat_eq s.memory.status 0) (nat_eq t.memory.status 0) (ap (λ (n : ℕ). nat_eq n 0) (near.keys Status w.0))
      (Go (Lists b ∷ behind_block limits.shell fs) s) (begin_arms limits.shell arms fs (block_skipped limits.shell b s)) (Go (Lists b ∷ behind_block limits.shell fs) t) (begin_arms limits.shell arms fs (block_skipped limits.shell b t))
      [] (modern_accesses limits.shell ++ of_beginning_arms limits.shell arms) (λ v. goes_alike near) (skips_block (near.keys Status w.0)) w.1
    where
      skips_block : t.memory.status ≡ s.memory.status → ReadsWithin known (modern_accesses limits.shell ++ of_beginning_arms limits.shell arms)
          → NextAlike (known_after known (modern_accesses limits.shell ++ of_beginning_arms limits.shell arms)) (begin_arms limits.shell arms fs (block_skipped limits.shell b s)) (begin_arms limits.shell arms fs (block_skipped limits.shell b t))
      skips_block e v =
          let first : List Access = modern_accesses limits.shell in
          after_then known first (of_beginning_arms limits.shell arms) (begin_arms limits.shell arms fs (block_skipped limits.shell b s)) (begin_arms limits.shell arms fs (block_skipped limits.shell b t))
          (begins_arms limits.shell arms fs (known_after known first) (block_skipped limits.shell b s) (block_skipped limits.shell b t) (near_skipped limits i j k l limits.shell b known s t e near) (within_then known first (of_beginning_arms limits.shell arms) v))
  moves_alike (LoopCondition until c b last ∷ fs) known s t near w =
      if_moves known (holds until s.memory.status) (holds until t.memory.status) (ap (λ (n : ℕ). holds until n) (near.keys Status w.0))
      (Go (Lists b ∷ LoopBody until c b ∷ fs) s) (Go fs (set_status (status_of_loop limits.shell last s.memory.status) s))
      (Go (Lists b ∷ LoopBody until c b ∷ fs) t) (Go fs (set_status (status_of_loop limits.shell last t.memory.status) t))
      [] status_written (λ v. goes_alike near)
      (λ v. goes_alike (near_statuses limits i j k l known s t (status_of_loop limits.shell last s.memory.status) (status_of_loop limits.shell last t.memory.status) (ap (λ (n : ℕ). status_of_loop limits.shell last n) (near.keys Status w.0)) near)) w.1
  moves_alike (LoopBody until c b ∷ fs) known s t near w =
      subst (λ (n : ℕ). NextAlike known (Go (Lists c ∷ LoopCondition until c b s.memory.status ∷ fs) s) (Go (Lists c ∷ LoopCondition until c b n ∷ fs) t)) (sym (near.keys Status w.0)) (goes_alike near)
  moves_alike (ForBody name [] body ∷ fs) known s t near w = goes_alike near
  moves_alike (ForBody name (f ∷ values) body ∷ fs) known s t near w = goes_alike (near_turn limits i j k l limits.shell known s t name f near)
  moves_alike (RunNames names ∷ fs) known s t near w = begins_names limits.shell names fs known s t near w
  moves_alike (RunText names ∷ fs) known s t near w =
      if_moves known (nat_eq s.memory.status 0) (nat_eq t.memory.status 0) (ap (λ (n : ℕ). nat_eq n 0) (near.keys Status w.0))
      (begin_names limits.shell names fs s) (Go fs (text_failed limits.shell s)) (begin_names limits.shell names fs t) (Go fs (text_failed limits.shell t))
      (of_beginning_names limits.shell names s) [] (begins_names limits.shell names fs known s t near) (λ v. goes_alike (near_failed limits i j k l known s t limits.shell (near.keys Status w.0) near)) w.1
  moves_alike (RunFile name others before ∷ fs) known s t near w =
      if_moves known (nat_eq s.memory.status 0) (nat_eq t.memory.status 0) (ap (λ (n : ℕ). nat_eq n 0) (near.keys Status w.0))
      (begin_one limits name others before fs s) (Go fs s) (begin_one limits name others before fs t) (Go fs t)
      (of_beginning_one limits name others) [] (begins_one name others before fs known s t near) (λ v. goes_alike near) w.1
  moves_alike (ChosenFile name other others before ∷ fs) known s t near w =
      if_moves known (nat_eq s.memory.status 0) (nat_eq t.memory.status 0) (ap (λ (n : ℕ). nat_eq n 0) (near.keys Status w.0))
      (begin_one limits name [] before fs s) (begin_one limits other others before fs s) (begin_one limits name [] before fs t) (begin_one limits other others before fs t)
      (of_beginning_one limits name []) (of_beginning_one limits other others) (begins_one name [] before fs known s t near) (begins_one other others before fs known s t near) w.1
  moves_alike (FileText ∷ fs) known s t near w = by (nat_eq s.memory.status 0) (nat_eq t.memory.status 0) (ap (λ (n : ℕ). nat_eq n 0) (near.keys Status w.0))
    where
      by : (b c : Bool) → c ≡ b → NextAlike known (elim b [ true ↦ Go fs s | false ↦ Go fs (text_failed limits.shell s) ]) (elim c [ true ↦ Go fs t | false ↦ Go fs (text_failed limits.shell t) ])
      by true true e = goes_alike near
      by true false e = absurd (cc)
      by false true e = absurd (cc)
      by false false e = goes_alike (near_failed limits i j k l known s t limits.shell (near.keys Status w.0) near)
  moves_alike (CommandEnd ∷ fs) known s t near w = goes_alike near
