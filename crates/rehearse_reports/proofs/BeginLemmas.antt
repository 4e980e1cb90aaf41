-- What frames read and write with their next move, by what they begin.
use Rattle.std.proofs.Common.{◌≡◌, ◌∙◌, refl, sym, ap, subst, ℕ, zero, suc, Bool, true, false, List, [], ◌∷◌, ◌++◌, drop, Option, Some, None, nat_lt, nat_le, nat_eq}
use Rattle.std.specs.Prelude.{slice_get}
use Rattle.hushlang.specs.Tree as tree
use Rattle.hushlang.specs.Tree.{Script, AndOr, Joined, Command, Arms}
use Rattle.hushlang.specs.Expansion.{size, most_bytes}
use Rattle.hushlang.specs.declared.tree.Op.{Op}
use Rattle.hushlang_shells.specs.TreesByShell.{TextRead, Runs, Fails, Panics, Unread, started_in, sourced_in}
use Rattle.builtins.specs.Builtins.{Builtin, SetEnv, Run, Test, Echo, True, False, Leave, builtin_of}
use Rattle.commands.specs.Computed.{Computed}
use Rattle.device_list.specs.DeviceList.{Effect, effect_of, computed_by, file_in}
use Rattle.bootstore_state.specs.declared.frame.At.{At}
use Rattle.rehearse_terms.specs.State.{Text, State, get}
use Rattle.rehearse_terms.specs.declared.shell.Shell.{Shell}
use Rattle.rehearse_terms.specs.declared.shell.Shell.TheVariants.{Profile, Old2023, Old2025, Modern2025}
use Rattle.rehearse_rules.specs.ByShell.{leaves_in, asks_in, fields_in, turns_in, follows, reads_again, call_in}
use Rattle.rehearse_rules.specs.Parameters.{parameters_in}
use Rattle.rehearse_rules.specs.Execution.{Limits, goes, holds, test_request, choice_text}
use Rattle.rehearse_machine.specs.Frames.{Frame, Lists, Linked, IfCondition, LoopCondition, LoopBody, ForBody, RunNames, RunText, CommandEnd, RunFile, FileText, ChosenFile}
use Rattle.rehearse_machine.specs.Places.{drop_joined, joined_at, drop_arms, condition_frame, phase, from_command, for_frame, run_frame, file_part}
use Rattle.rehearse_reads.specs.Keys.{Key, Access, Reads, Writes, Environment, Local, Status, all_read, Covers}
use Rattle.rehearse_reads.specs.Accesses.{status_written, words_reads, setenv_accesses, computed_accesses, sized_accesses, assign_accesses, turn_accesses, nothing_accesses, modern_accesses}
use Rattle.rehearse_reads.proofs.KeysRead.{covering_joins}
use Rattle.rehearse_frames.specs.MoveAccesses.{of_leaving, of_exit, of_beginning_for, of_beginning_arms, of_beginning_read, of_beginning_text, of_beginning_file, of_beginning_names, of_builtin, of_listed, of_call, of_fields, of_command, of_move, of_leaving_compound, of_simple_call, of_beginning_one, of_beginning_question}
use Rattle.rehearse_reports.proofs.ReportLemmas.{covers_itself, covers_through, covers_less, covers_write, reads_cover, reads_alone}
use Rattle.rehearse_reports.proofs.CoverLemmas.{covers_status, covers_nothing, covers_arms, covers_modern}

abbrev status_read : List Access
status_read = Reads Status ∷ []

nothing_read : Covers status_read []
nothing_read = reads_alone (Status ∷ [])

-- ---- a command reads and writes the same over any frames

compound_covers : (shell : Shell) (xs : List Access) → Covers status_read xs → Covers status_read (of_leaving_compound shell xs)
compound_covers Profile xs h = h
compound_covers Old2023 xs h = h
compound_covers Old2025 xs h = h
compound_covers Modern2025 xs h = covers_less status_read status_written covers_status

leaving_covers : (shell : Shell) (status : ℕ) (fs : List Frame) → Covers status_read (of_leaving shell status fs)
leaving_covers shell status [] = covers_itself status_read
leaving_covers shell status (RunNames names ∷ fs) = covers_itself status_read
leaving_covers shell status (RunText names ∷ fs) = by (nat_eq status 0)
  where
    by : (b : Bool) → Covers status_read (elim b [ true ↦ [] | false ↦ Reads Status ∷ [] ])
    by true = nothing_read
    by false = covers_itself status_read
leaving_covers shell status (Lists ls ∷ fs) = leaving_covers shell status fs
leaving_covers shell status (Linked ls ∷ fs) = leaving_covers shell status fs
leaving_covers shell status (IfCondition b arms ∷ fs) = compound_covers shell (of_leaving shell status fs) (leaving_covers shell status fs)
leaving_covers shell status (LoopCondition until c b last ∷ fs) = compound_covers shell (of_leaving shell status fs) (leaving_covers shell status fs)
leaving_covers shell status (LoopBody until c b ∷ fs) = compound_covers shell (of_leaving shell status fs) (leaving_covers shell status fs)
leaving_covers shell status (ForBody name fields body ∷ fs) = compound_covers shell (of_leaving shell status fs) (leaving_covers shell status fs)
leaving_covers shell status (RunFile name others before ∷ fs) = leaving_covers shell status fs
leaving_covers shell status (ChosenFile name other others before ∷ fs) = leaving_covers shell status fs
leaving_covers shell status (FileText ∷ fs) = covers_itself status_read
leaving_covers shell status (CommandEnd ∷ fs) = compound_covers shell (of_leaving shell status fs) (leaving_covers shell status fs)

exit_over : (shell : Shell) (o : Option ℕ) (fs : List Frame) → Covers (of_exit shell o []) (of_exit shell o fs)
exit_over shell None fs = covers_itself status_written
exit_over shell (Some status) fs = covering_joins status_written (of_leaving shell status fs) status_written status_read (covers_itself status_written) (leaving_covers shell status fs)

module _ (limits : Limits) (fs : List Frame) where
  builtin_over : (again : Bool) (builtin : Builtin) (name : Text) (words : List Text) (s : State) → Covers (of_builtin limits again builtin name words [] s) (of_builtin limits again builtin name words fs s)
  builtin_over again SetEnv name words s = covers_itself (setenv_accesses words)
  builtin_over again Run name [] s = covers_itself status_written
  builtin_over again Run name (w ∷ ws) s = covers_itself []
  builtin_over again Test name words s = covers_itself (of_builtin limits again Test name words [] s)
  builtin_over again Echo name words s = covers_itself status_written
  builtin_over again True name words s = covers_itself status_written
  builtin_over again False name words s = covers_itself status_written
  builtin_over again Leave name words s = exit_over limits.shell (leaves_in limits.shell again words) fs

  call_over : (again : Bool) (name : Text) (words : List Text) (s : State) → Covers (of_call limits again name words [] s) (of_call limits again name words fs s)
  call_over again name words s = by (computed_by limits.devices name words) (builtin_of name)
    where
      other : Option Effect → List Access
      other o = elim o [ Some effect ↦ of_listed limits name words effect s | None ↦ [] ]

      by : (o : Option Computed) (b : Option Builtin) → Covers
          (elim o [ Some computed ↦ computed_accesses computed | None ↦ elim b [ Some builtin ↦ of_builtin limits again builtin name words [] s | None ↦ elim (effect_of limits.devices name words) [ Some effect ↦ of_listed limits name words effect s | None ↦ [] ] ] ])
          (elim o [ Some computed ↦ computed_accesses computed | None ↦ elim b [ Some builtin ↦ of_builtin limits again builtin name words fs s | None ↦ elim (effect_of limits.devices name words) [ Some effect ↦ of_listed limits name words effect s | None ↦ [] ] ] ])
      by (Some computed) b = covers_itself (computed_accesses computed)
      by None (Some builtin) = builtin_over again builtin name words s
      by None None = covers_itself (elim (effect_of limits.devices name words) [ Some effect ↦ of_listed limits name words effect s | None ↦ [] ])

  simple_call_over : (again : Bool) (fields : List Text) (s : State) → Covers (of_simple_call limits again [] fields s) (of_simple_call limits again fs fields s)
  simple_call_over again [] s = covers_itself (nothing_accesses limits.shell)
  simple_call_over again (name ∷ words) s = by (follows limits.shell limits.devices name words)
    where
      by : (b : Bool) → Covers (elim b [ true ↦ of_call limits again name words [] s | false ↦ [] ]) (elim b [ true ↦ of_call limits again name words fs s | false ↦ [] ])
      by true = call_over again name words s
      by false = covers_itself []

  fields_over : (again : Bool) (fields : List Text) (s : State) → Covers (of_fields limits again [] fields s) (of_fields limits again fs fields s)
  fields_over again fields = simple_call_over again (call_in limits.shell fields)

  pub command_over : (command : Command) (s : State) → Covers (of_command limits command [] s) (of_command limits command fs s)
  command_over (tree.Simple words) s = by (nat_lt s.steps limits.step_bound)
    where
      sized : (b : Bool) (fields : List Text) (t : State) → Covers (elim b [ true ↦ of_fields limits (reads_again words) [] fields t | false ↦ [] ]) (elim b [ true ↦ of_fields limits (reads_again words) fs fields t | false ↦ [] ])
      sized true fields t = fields_over (reads_again words) fields t
      sized false fields t = covers_itself []

      by : (b : Bool) → Covers
          (elim b [ true ↦ all_read (words_reads s.memory words) ++ sized_accesses (fields_in limits.shell (parameters_in s.memory) words) (of_fields limits (reads_again words) []) (record s { steps = suc s.steps }) | false ↦ [] ])
          (elim b [ true ↦ all_read (words_reads s.memory words) ++ sized_accesses (fields_in limits.shell (parameters_in s.memory) words) (of_fields limits (reads_again words) fs) (record s { steps = suc s.steps }) | false ↦ [] ])
      by true =
          covering_joins (all_read (words_reads s.memory words)) (sized_accesses (fields_in limits.shell (parameters_in s.memory) words) (of_fields limits (reads_again words) fs) (record s { steps = suc s.steps }))
          (all_read (words_reads s.memory words)) (sized_accesses (fields_in limits.shell (parameters_in s.memory) words) (of_fields limits (reads_again words) []) (record s { steps = suc s.steps })) (covers_itself (all_read (words_reads s.memory words)))
          (sized (nat_le (size (fields_in limits.shell (parameters_in s.memory) words)) most_bytes) (fields_in limits.shell (parameters_in s.memory) words) (record s { steps = suc s.steps }))
      by false = covers_itself []
  command_over (tree.Assign pairs) s = covers_itself (of_command limits (tree.Assign pairs) [] s)
  command_over (tree.If arms) s = covers_itself (of_beginning_arms limits.shell arms)
  command_over (tree.Loop until c b) s = covers_itself []
  command_over (tree.For name words body) s = covers_itself (of_command limits (tree.For name words body) [] s)

-- ---- frames that run a script

module _ (limits : Limits) (s : State) where
  -- the first command of a list
  pub first_begins : (c : Command) (joins : Joined) (rest : Script) (fs : List Frame) → Covers (Reads Status ∷ of_command limits c [] s) (of_move limits (Lists (tree.Runs (tree.Starts c joins) rest) ∷ fs) s)
  first_begins c joins rest fs = reads_cover (Status ∷ []) (of_command limits c [] s) (of_command limits c (Linked joins ∷ Lists rest ∷ fs) s) (command_over limits (Linked joins ∷ Lists rest ∷ fs) c s)

  pub none_joined : (joins : Joined) (j : ℕ) (fs : List Frame) → joined_at joins j ≡ None → Covers status_read (of_move limits (Linked (drop_joined j joins) ∷ fs) s)
  none_joined tree.Alone zero fs e = nothing_read
  none_joined tree.Alone (suc j) fs e = nothing_read
  none_joined (tree.Joins op c rest) zero fs e = absurd (let f = e in cc)
  none_joined (tree.Joins op c rest) (suc j) fs e = none_joined rest j fs e

  pub some_joined : (joins : Joined) (j : ℕ) (fs : List Frame) (op : Op) (c : Command) → joined_at joins j ≡ Some (op, c) → goes op s.memory.status ≡ true → Covers (Reads Status ∷ of_command limits c [] s) (of_move limits (Linked (drop_joined j joins) ∷ fs) s)
  some_joined tree.Alone zero fs op c e g = absurd (let f = e in cc)
  some_joined tree.Alone (suc j) fs op c e g = absurd (let f = e in cc)
  some_joined (tree.Joins o d rest) zero fs op c e g =
      let same : (o, d) ≡ (op, c) = (let f = e in cc) in
      let runs : goes o s.memory.status ≡ true = ap (λ (p : Op × Command). goes p.0 s.memory.status) same ∙ g in
      subst (λ (b : Bool). Covers (Reads Status ∷ of_command limits c [] s) (Reads Status ∷ (elim b [ true ↦ of_command limits d (Linked rest ∷ fs) s | false ↦ [] ]))) (sym runs)
      (subst (λ (p : Op × Command). Covers (Reads Status ∷ of_command limits c [] s) (Reads Status ∷ of_command limits p.1 (Linked rest ∷ fs) s)) (sym same)
      (covering_joins status_read (of_command limits c (Linked rest ∷ fs) s) status_read (of_command limits c [] s) (covers_itself status_read) (command_over limits (Linked rest ∷ fs) c s)))
  some_joined (tree.Joins o d rest) (suc j) fs op c e g = some_joined rest j fs op c e g

  pub join_passed : (joins : Joined) (j : ℕ) (fs : List Frame) (op : Op) (c : Command) → joined_at joins j ≡ Some (op, c) → goes op s.memory.status ≡ false → Covers status_read (of_move limits (Linked (drop_joined j joins) ∷ fs) s)
  join_passed tree.Alone zero fs op c e g = absurd (let f = e in cc)
  join_passed tree.Alone (suc j) fs op c e g = absurd (let f = e in cc)
  join_passed (tree.Joins o d rest) zero fs op c e g =
      let same : (o, d) ≡ (op, c) = (let f = e in cc) in
      let passed : goes o s.memory.status ≡ false = ap (λ (p : Op × Command). goes p.0 s.memory.status) same ∙ g in
      subst (λ (b : Bool). Covers status_read (Reads Status ∷ (elim b [ true ↦ of_command limits d (Linked rest ∷ fs) s | false ↦ [] ]))) (sym passed) (covers_itself status_read)
  join_passed (tree.Joins o d rest) (suc j) fs op c e g = join_passed rest j fs op c e g

  -- a block has ended
  arms_end : (arms : Arms) (fs : List Frame) → Covers status_read (of_move limits (condition_frame arms ∷ fs) s)
  arms_end (tree.Arm c b more) fs = by (nat_eq s.memory.status 0)
    where
      by : (x : Bool) → Covers status_read (Reads Status ∷ (elim x [ true ↦ [] | false ↦ modern_accesses limits.shell ++ of_beginning_arms limits.shell more ]))
      by true = covers_itself status_read
      by false = covers_less status_read (modern_accesses limits.shell ++ of_beginning_arms limits.shell more) (covers_modern limits.shell [] (of_beginning_arms limits.shell more) (covers_arms limits.shell more))
  arms_end (tree.Else b) fs = nothing_read
  arms_end tree.NoElse fs = nothing_read

  condition_ends : (until : Bool) (c b : Script) (last : ℕ) (fs : List Frame) → Covers status_read (of_move limits (LoopCondition until c b last ∷ fs) s)
  condition_ends until c b last fs = by (holds until s.memory.status)
    where
      by : (x : Bool) → Covers status_read (Reads Status ∷ (elim x [ true ↦ [] | false ↦ status_written ]))
      by true = covers_itself status_read
      by false = covers_less status_read status_written covers_status

  pub block_ends : (o : Option Command) (a last : ℕ) (fs : List Frame) → Covers status_read (of_move limits (phase o a last ∷ fs) s)
  block_ends None a last fs = nothing_read
  block_ends (Some (tree.Simple words)) a last fs = nothing_read
  block_ends (Some (tree.Assign pairs)) a last fs = nothing_read
  block_ends (Some (tree.If arms)) a zero fs = arms_end (drop_arms a arms) fs
  block_ends (Some (tree.If arms)) a (suc last) fs = nothing_read
  block_ends (Some (tree.Loop until c b)) zero last fs = condition_ends until c b last fs
  block_ends (Some (tree.Loop until c b)) (suc a) zero fs = covers_itself status_read
  block_ends (Some (tree.Loop until c b)) (suc a) (suc last) fs = nothing_read
  block_ends (Some (tree.For name words body)) a last fs = nothing_read

  -- ---- a `for`

  turn_covers : (shell : Shell) (name : Text) → Covers (Reads Status ∷ Writes (Local name) ∷ []) (turn_accesses shell name)
  turn_covers Profile name = reads_cover (Status ∷ []) (Writes (Local name) ∷ []) (Writes (Local name) ∷ []) (covers_itself (Writes (Local name) ∷ []))
  turn_covers Old2023 name = reads_cover (Status ∷ []) (Writes (Local name) ∷ []) (Writes (Local name) ∷ status_written) (covers_less (Writes (Local name) ∷ []) status_written covers_status)
  turn_covers Old2025 name = reads_cover (Status ∷ []) (Writes (Local name) ∷ []) (Writes (Local name) ∷ status_written) (covers_less (Writes (Local name) ∷ []) status_written covers_status)
  turn_covers Modern2025 name = reads_cover (Status ∷ []) (Writes (Local name) ∷ []) (Writes (Local name) ∷ []) (covers_itself (Writes (Local name) ∷ []))

  pub turn_begins : (name : Text) (values : List Text) (turn : ℕ) (body : Script) (fs : List Frame) (v : Text) → slice_get values turn ≡ Some v → Covers (Reads Status ∷ Writes (Local name) ∷ []) (of_move limits (ForBody name (drop turn values) body ∷ fs) s)
  turn_begins name [] turn body fs v e = absurd (let f = e in cc)
  turn_begins name (x ∷ values) zero body fs v e = turn_covers limits.shell name
  turn_begins name (x ∷ values) (suc turn) body fs v e = turn_begins name values turn body fs v e

  pub turns_end : (name : Text) (values : List Text) (turn : ℕ) (body : Script) (fs : List Frame) → slice_get values turn ≡ None → Covers status_read (of_move limits (ForBody name (drop turn values) body ∷ fs) s)
  turns_end name [] zero body fs e = nothing_read
  turns_end name [] (suc turn) body fs e = nothing_read
  turns_end name (x ∷ values) zero body fs e = absurd (let f = e in cc)
  turns_end name (x ∷ values) (suc turn) body fs e = turns_end name values turn body fs e

  -- ---- a `run`

  read_covers : (found : TextRead) → Covers [] (of_beginning_read found)
  read_covers (Runs tree.Empty) = covers_status
  read_covers (Runs (tree.Runs list more)) = covers_itself []
  read_covers Fails = covers_write Status [] (covers_itself [])
  read_covers Panics = covers_itself []
  read_covers Unread = covers_itself []

  text_covers : (shell : Shell) (o : Option Text) → Covers [] (of_beginning_text shell o)
  text_covers shell None = covers_status
  text_covers shell (Some text) = read_covers (started_in shell text)

  file_covers : (shell : Shell) (o : Option Text) → Covers [] (of_beginning_file shell o)
  file_covers shell None = covers_status
  file_covers shell (Some text) = read_covers (sourced_in shell text)

  names_cover : (names : List Text) (j : ℕ) (name : Text) → slice_get names j ≡ Some name → Covers (Reads (Environment name) ∷ []) (of_beginning_names limits.shell (drop j names) s)
  names_cover [] j name e = absurd (let f = e in cc)
  names_cover (x ∷ names) zero name e =
      let same : x ≡ name = (let f = e in cc) in
      subst (λ (y : Text). Covers (Reads (Environment y) ∷ []) (Reads (Environment x) ∷ of_beginning_text limits.shell (get s.memory.environment x))) same
      (covers_less (Reads (Environment x) ∷ []) (of_beginning_text limits.shell (get s.memory.environment x)) (text_covers limits.shell (get s.memory.environment x)))
  names_cover (x ∷ names) (suc j) name e = names_cover names j name e

  names_over : (names : List Text) (j : ℕ) → slice_get names j ≡ None → of_beginning_names limits.shell (drop j names) s ≡ []
  names_over [] zero e = refl
  names_over [] (suc j) e = refl
  names_over (x ∷ names) zero e = absurd (let f = e in cc)
  names_over (x ∷ names) (suc j) e = names_over names j e

  -- the next name, if the text before it has ended with status 0
  pub name_begins : (names : List Text) (turn : ℕ) (fs : List Frame) (name : Text) → slice_get names turn ≡ Some name → Covers (Reads Status ∷ Reads (Environment name) ∷ []) (of_move limits (run_frame turn names ∷ fs) s)
  name_begins names zero fs name e = reads_cover (Status ∷ []) (Reads (Environment name) ∷ []) (of_beginning_names limits.shell names s) (names_cover names zero name e)
  name_begins names (suc k) fs name e = by (nat_eq s.memory.status 0)
    where
      by : (x : Bool) → Covers (Reads Status ∷ Reads (Environment name) ∷ []) (Reads Status ∷ (elim x [ true ↦ of_beginning_names limits.shell (drop (suc k) names) s | false ↦ [] ]))
      by true = covering_joins status_read (of_beginning_names limits.shell (drop (suc k) names) s) status_read (Reads (Environment name) ∷ []) (covers_itself status_read) (names_cover names (suc k) name e)
      by false = covering_joins status_read [] status_read (Reads (Environment name) ∷ []) (covers_itself status_read) (reads_alone (Environment name ∷ []))

  pub names_end : (names : List Text) (turn : ℕ) (fs : List Frame) → slice_get names turn ≡ None → Covers status_read (of_move limits (run_frame turn names ∷ fs) s)
  names_end names zero fs e = subst (Covers status_read) (sym (names_over names zero e)) nothing_read
  names_end names (suc k) fs e = by (nat_eq s.memory.status 0)
    where
      by : (x : Bool) → Covers status_read (Reads Status ∷ (elim x [ true ↦ of_beginning_names limits.shell (drop (suc k) names) s | false ↦ [] ]))
      by true = subst (λ (xs : List Access). Covers status_read (Reads Status ∷ xs)) (sym (names_over names (suc k) e)) (covers_itself status_read)
      by false = covers_itself status_read

  -- a text that has failed ends its `run`
  pub run_fails : (names : List Text) (k : ℕ) (fs : List Frame) → nat_eq s.memory.status 0 ≡ false → Covers status_read (of_move limits (run_frame (suc k) names ∷ fs) s)
  run_fails names k fs e = subst (λ (b : Bool). Covers status_read (Reads Status ∷ (elim b [ true ↦ of_beginning_names limits.shell (drop (suc k) names) s | false ↦ [] ]))) (sym e) (covers_itself status_read)

  -- ---- the text of a file

  question_covers : (found : TextRead) → Covers [] (of_beginning_question found)
  question_covers (Runs tree.Empty) = covers_status
  question_covers (Runs (tree.Runs list more)) = covers_itself []
  question_covers Fails = covers_status
  question_covers Panics = covers_itself []
  question_covers Unread = covers_itself []

  one_covers : (name : Text) (others : List Text) → Covers [] (of_beginning_one limits name others)
  one_covers name [] = covers_write Status (of_beginning_file limits.shell (file_in limits.devices name)) (file_covers limits.shell (file_in limits.devices name))
  one_covers name (other ∷ others) = question_covers (started_in limits.shell (choice_text name))

  either_covers : (x : Bool) (these those : List Access) → Covers [] these → Covers [] those → Covers status_read (Reads Status ∷ (elim x [ true ↦ these | false ↦ those ]))
  either_covers true these those h k = covers_less status_read these h
  either_covers false these those h k = covers_less status_read those k

  pub file_moves : (turn last : ℕ) (names : List Text) (fs : List Frame) → Covers status_read (of_move limits (file_part turn last names ∷ fs) s)
  file_moves zero last [] fs = nothing_read
  file_moves zero last (name ∷ others) fs = either_covers (nat_eq s.memory.status 0) (of_beginning_one limits name others) [] (one_covers name others) (covers_itself [])
  file_moves (suc zero) last names fs = covers_itself status_read
  file_moves (suc (suc k)) last [] fs = nothing_read
  file_moves (suc (suc k)) last (name ∷ []) fs = nothing_read
  file_moves (suc (suc k)) last (name ∷ other ∷ others) fs =
      either_covers (nat_eq s.memory.status 0) (of_beginning_one limits name []) (of_beginning_one limits other others) (one_covers name []) (one_covers other others)
