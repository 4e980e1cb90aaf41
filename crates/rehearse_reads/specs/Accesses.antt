-- What a stretch of a run reads and writes, in order: beside the execution (Execution.antt of rehearse_rules), by the same
-- recursion. A key that is read may be named more than once, and one whose value changes nothing may be named: what is
-- read is among what is named. Ours.
use Rattle.std.specs.Prelude.{ℕ, zero, suc, nat_lt, nat_le, nat_eq, Bool, true, false, cond, List, [], ◌∷◌, ◌++◌, map, length, Option, Some, None, if◌then◌else◌}
use Rattle.std.specs.List.{flat_map}
use Rattle.hushlang.specs.Tree as tree
use Rattle.hushlang.specs.Tree.{Script, AndOr, Joined, Command, Arms}
use Rattle.hushlang.specs.Expansion.{size, most_bytes}
use Rattle.hushlang_old.specs.Defaults.{variable_of, has_more}
use Rattle.hushlang_shells.specs.TreesByShell.{TextRead, Runs, Fails, Panics, Unread, first_in, started_in, sourced_in}
use Rattle.builtins.specs.Builtins.{Builtin, SetEnv, Run, Test, Echo, True, False, Leave, builtin_of}
use Rattle.commands.specs.Computed.{Computed, Gives, Exists, Sets, Deletes, SetsNumber}
use Rattle.commands.specs.VariableNames.{is_bad_name}
use Rattle.device_list.specs.Called.{sets_in}
use Rattle.device_list.specs.DeviceList.{RightSide, Literal, ValueAt, LastValue, Deleted, CopyOf, Setting, Effect, effect_of, computed_by, file_in}
use Rattle.rehearse_terms.specs.Outcomes.{Outcome, Success, Failure, OutcomeWord}
use Rattle.rehearse_terms.specs.State.{Text, get, Memory, State}
use Rattle.rehearse_terms.specs.declared.shell.Shell.{Shell}
use Rattle.rehearse_terms.specs.declared.shell.Shell.TheVariants.{Profile, Old2023, Old2025, Modern2025}
use Rattle.rehearse_rules.specs.Parameters.{parameters_in}
use Rattle.rehearse_rules.specs.ByShell.{call_in, asks_in, fields_in, turns_in, skips_rest, follows, assigned_in, is_refused, follows_turns}
use Rattle.rehearse_rules.specs.Needs.{effect_now}
use Rattle.rehearse_rules.specs.Execution.{choice_text, Limits, Answer, Normal, Exit, Ended, Dry, CutSteps, Request, set_status, goes, holds, outcome_when, told, assign_local, begin_turn, request_of, test_request, started_text, sourced_text, run_read, run_text, exec_script, exec_list, exec_command, exec, for_begun, block_skipped, turns, for_each, exec_arms, device}
use Rattle.rehearse_reads.specs.Keys.{Key, Environment, Local, AnswerTo, Succeeded, Status, Access, Reads, Writes, all_read}

-- what the next part of a script accesses, if this one has ended normally
abbrev pub behind : Answer → (State → List Access) → List Access
behind (Normal s) next = next s
behind (Exit s) next = []
behind (Ended ending s) next = []
behind (Dry s) next = []

-- only the status is written
abbrev pub status_written : List Access
status_written = Writes Status ∷ []

-- ---- words

-- a variable is read in the environment, and if it is not set there, among the shell variables
abbrev pub variable_reads : Memory → Text → List Key
variable_reads m name =
    Environment name ∷ elim (get m.environment name) [ Some value ↦ [] | None ↦ Local name ∷ [] ]

-- to U-Boot's old shell what is in braces may name a variable by its first bytes (hushlang_old/specs/Defaults.antt)
abbrev pub inside_reads : Memory → (inside : Text) → List Key
inside_reads m inside =
    variable_reads m inside
    ++ (if has_more inside then variable_reads m (variable_of inside) else [])

abbrev pub piece_reads : Memory → tree.Piece → List Key
piece_reads m (tree.Bytes bytes) = []
piece_reads m tree.Mark = []
piece_reads m (tree.Var name split) = inside_reads m name
piece_reads m tree.Status = Status ∷ []

abbrev pub word_reads : Memory → tree.Word → List Key
word_reads m word = flat_map (piece_reads m) word

abbrev pub words_reads : Memory → List tree.Word → List Key
words_reads m words = flat_map (word_reads m) words

-- ---- commands that change variables

-- each name is written
abbrev pub names_written : List Text → List Access
names_written names = map (λ name. Writes (Environment name)) names

abbrev pub setenv_accesses : List Text → List Access
setenv_accesses [] = status_written
setenv_accesses (name ∷ words) = cond (is_bad_name name) status_written (Writes (Environment name) ∷ status_written)

-- the status of `env delete` says whether all its names were set
abbrev pub deletion_accesses : List Text → List Access
deletion_accesses [] = status_written
deletion_accesses (name ∷ names) = Reads (Environment name) ∷ Writes (Environment name) ∷ deletion_accesses names

abbrev pub computed_accesses : Computed → List Access
computed_accesses (Gives status) = status_written
computed_accesses (Exists name) = Reads (Environment name) ∷ status_written
computed_accesses (Sets words) = setenv_accesses words
computed_accesses (Deletes names) = deletion_accesses names
computed_accesses (SetsNumber name number) = Writes (Environment name) ∷ status_written

-- ---- device commands

-- a command that needs a call reads whether it has succeeded
abbrev pub needs_reads : (needs : List Text) → List Key
needs_reads [] = []
needs_reads (name ∷ words) = Succeeded (name ∷ words) ∷ []

-- a command whose answers stay reads whether it has one
abbrev pub told_reads : Request → List Key
told_reads request = if request.effect.stays then AnswerTo (request.name ∷ request.words) ∷ [] else []

-- a command that may hand over to the text of a file keeps the status for it
abbrev pub handing_reads : (runs : List Text) → List Access
handing_reads [] = []
handing_reads (name ∷ others) = Reads Status ∷ []

-- a variable of which it sets a copy
abbrev pub copied_key : RightSide → List Key
copied_key (Literal text) = []
copied_key (ValueAt place) = []
copied_key LastValue = []
copied_key Deleted = []
copied_key (CopyOf name) = Environment name ∷ []

abbrev pub copied_keys : List Setting → List Key
copied_keys sets = flat_map (λ set. copied_key set.1) sets

-- if there is not room for all, it reads the variables that it copies to know whether there is room for them
abbrev pub room_reads : (room : Option ℕ) → List Setting → List Key
room_reads None sets = []
room_reads (Some room) sets = copied_keys sets

-- what a command reads to know whether it can succeed
abbrev pub success_reads : (room : Option ℕ) → Effect → List Key
success_reads room effect = needs_reads effect.needs ++ room_reads room effect.sets

-- on success it sets what its settings say
abbrev pub outcome_writes : Outcome → Request → List Access
outcome_writes Success request =
    Writes Status ∷ names_written (map (λ e. e.0) (sets_in request.words request.effect.sets))
outcome_writes Failure request = status_written

abbrev pub outcome_accesses : Outcome → Request → List Access
outcome_accesses outcome request =
    handing_reads request.effect.runs ++ (all_read (copied_keys request.effect.sets) ++ outcome_writes outcome request)

abbrev pub taken_accesses : Request → OutcomeWord → List Access
taken_accesses request [] = []
taken_accesses request (outcome ∷ rest) = outcome_accesses outcome request

abbrev pub answer_accesses : (told : Option Bool) → Request → State → List Access
answer_accesses (Some success) request s = outcome_accesses (outcome_when success) request
answer_accesses None request s = taken_accesses request s.word

-- ---- parts of scripts, by the accesses of what they are made of

-- a text that `run` started has ended, also by `exit`: the next one follows by the status
abbrev pub behind_text : Answer → (State → List Access) → List Access
behind_text (Normal s) next = Reads Status ∷ elim (nat_eq s.memory.status 0) [ true ↦ next s | false ↦ [] ]
behind_text (Exit s) next = Reads Status ∷ elim (nat_eq s.memory.status 0) [ true ↦ next s | false ↦ [] ]
behind_text (Ended ending s) next = []
behind_text (Dry s) next = []

-- an `exit` that leaves a compound command: in the modern shell the status of that command follows from that of the `exit`
abbrev pub left_accesses : Shell → List Access
left_accesses Profile = []
left_accesses Old2023 = []
left_accesses Old2025 = []
left_accesses Modern2025 = Reads Status ∷ status_written

-- a compound command has ended, also by `exit`
abbrev pub compound_accesses : Shell → Answer → List Access
compound_accesses shell (Normal s) = []
compound_accesses shell (Exit s) = left_accesses shell
compound_accesses shell (Ended ending s) = []
compound_accesses shell (Dry s) = []

-- an `exit` in the text of a file: in the modern shell the run ends with its status
abbrev pub prompt_accesses : Shell → List Access
prompt_accesses Profile = []
prompt_accesses Old2023 = []
prompt_accesses Old2025 = []
prompt_accesses Modern2025 = Reads Status ∷ []

-- the text of a file has ended, also by `exit`
abbrev pub sourced_accesses : Shell → Answer → List Access
sourced_accesses shell (Normal s) = []
sourced_accesses shell (Exit s) = prompt_accesses shell
sourced_accesses shell (Ended ending s) = []
sourced_accesses shell (Dry s) = []

-- fields that hold too many bytes end the run
abbrev pub sized_accesses : List Text → (List Text → State → List Access) → State → List Access
sized_accesses fs next s = elim (nat_le (size fs) most_bytes) [ true ↦ next fs s | false ↦ [] ]

-- a shell variable is written, unless it stays as it is
abbrev pub local_accesses : Shell → (name value : Text) → List Access
local_accesses shell name value = if is_refused shell value then [] else Writes (Local name) ∷ []

abbrev pub assign_accesses : Shell → List (Text × tree.Word) → State → List Access
assign_accesses shell [] s = status_written
assign_accesses shell (pair ∷ pairs) s =
    let value = assigned_in shell (parameters_in s.memory) pair.1 in
    all_read (word_reads s.memory pair.1) ++ elim (nat_le (length value) most_bytes) [
      | true ↦ local_accesses shell pair.0 value ++ assign_accesses shell pairs (assign_local shell pair.0 value s)
      | false ↦ []
    ]

-- the turns of a loop: each condition's status is read, and that of each body, which may be the loop's
abbrev pub turns_accesses : Shell → (left : ℕ) → (until : Bool) → (cond body : State → Answer) →
    (of_cond of_body : State → List Access) → State → List Access
turns_accesses shell zero until cond body of_cond of_body s = []
turns_accesses shell (suc left) until cond body of_cond of_body s =
    of_cond s ++ behind (cond s) (λ t. Reads Status ∷ elim (holds until t.memory.status) [
      | true ↦ of_body t
          ++ behind (body t) (λ u. Reads Status ∷ turns_accesses shell left until cond body of_cond of_body u)
      | false ↦ status_written
    ])

-- the variable of a `for` is assigned, in U-Boot's old shell as by a command
abbrev pub turn_accesses : Shell → (name : Text) → List Access
turn_accesses Profile name = Writes (Local name) ∷ []
turn_accesses Old2023 name = Writes (Local name) ∷ status_written
turn_accesses Old2025 name = Writes (Local name) ∷ status_written
turn_accesses Modern2025 name = Writes (Local name) ∷ []

-- the body once for each field. The status of the last body is that of the `for`
abbrev pub each_accesses : Shell → (name : Text) → (body : State → Answer) → (of_body : State → List Access) →
    List Text → State → List Access
each_accesses shell name body of_body [] s = []
each_accesses shell name body of_body (f ∷ fs) s =
    let turn = begin_turn shell name f s in
    turn_accesses shell name
    ++ (of_body turn ++ behind (body turn) (each_accesses shell name body of_body fs))

-- without a field it sets the status
abbrev pub for_accesses : Shell → (name : Text) → (body : State → Answer) → (of_body : State → List Access) →
    List Text → State → List Access
for_accesses shell name body of_body [] s = status_written
for_accesses shell name body of_body (f ∷ fs) s = each_accesses shell name body of_body (f ∷ fs) s

-- in U-Boot's modern shell a `for` that begins sets the status, and so may a block of an `if` that is not run
abbrev pub modern_accesses : Shell → List Access
modern_accesses Profile = []
modern_accesses Old2023 = []
modern_accesses Old2025 = []
modern_accesses Modern2025 = status_written

-- the turns of a `for`, if they are followed
abbrev pub turns_of_accesses : Shell → (name : Text) → (body : State → Answer) → (of_body : State → List Access) →
    List Text → State → List Access
turns_of_accesses shell name body of_body fs s =
    elim (follows_turns shell name fs) [
      | true ↦ for_accesses shell name body of_body fs s ++ compound_accesses shell (for_each shell name body 0 fs s)
      | false ↦ []
    ]

-- a `for` that has begun finds its words
abbrev pub for_words_accesses : Shell → (name : Text) → List tree.Word → (body : State → Answer) →
    (of_body : State → List Access) → State → List Access
for_words_accesses shell name words body of_body s =
    all_read (words_reads s.memory words)
    ++ sized_accesses (turns_in shell (parameters_in s.memory) words) (turns_of_accesses shell name body of_body) s

-- ---- beside the execution

-- the status of no command is that of before in U-Boot's shells
abbrev pub nothing_accesses : Shell → List Access
nothing_accesses Profile = status_written
nothing_accesses Old2023 = []
nothing_accesses Old2025 = []
nothing_accesses Modern2025 = []

module _ (limits : Limits) where
  -- a step is begun if the bound allows one more
  abbrev pub begun_accesses : (State → List Access) → State → List Access
  begun_accesses body s =
      elim (nat_lt s.steps limits.step_bound) [ true ↦ body (record s { steps = suc s.steps }) | false ↦ [] ]

  abbrev pub device_accesses : Request → State → List Access
  device_accesses request s =
      elim (nat_lt (length s.log) limits.device_bound) [
        | true ↦ all_read (told_reads request) ++ answer_accesses (told request s.log) request s
        | false ↦ []
      ]

  -- a command of the list, also one that fails since it cannot succeed
  abbrev pub listed_accesses : (name : Text) → (words : List Text) → Effect → State → List Access
  listed_accesses name words effect s =
      all_read (success_reads limits.room effect) ++ device_accesses (request_of name words (effect_now limits.room s effect)) s

  -- `script` is what the tree of a text does, and `of_script` what it accesses
  module _ (script : Script → State → Answer) (of_script : Script → State → List Access) where
    abbrev pub tree_accesses : Script → State → List Access
    tree_accesses tree.Empty s = Writes Status ∷ of_script tree.Empty (set_status 0 s)
    tree_accesses (tree.Runs list more) s = of_script (tree.Runs list more) s

    abbrev pub read_accesses : TextRead → State → List Access
    read_accesses (Runs t) s = tree_accesses t s
    read_accesses Fails s = status_written
    read_accesses Panics s = []
    read_accesses Unread s = []

    abbrev pub text_accesses : (text : Text) → State → List Access
    text_accesses text = read_accesses (first_in limits.shell text)

    abbrev pub started_accesses : (text : Text) → State → List Access
    started_accesses text = read_accesses (started_in limits.shell text)

    -- `run` reads each variable when its turn comes, in the environment alone
    abbrev pub run_accesses : List Text → State → List Access
    run_accesses [] s = []
    run_accesses (name ∷ names) s =
        Reads (Environment name) ∷ elim (get s.memory.environment name) [
          | None ↦ status_written
          | Some text ↦ started_accesses text s
              ++ behind_text (started_text limits script name text s) (run_accesses names)
        ]

    -- no variable is read for the text of a file
    abbrev pub sourced_text_accesses : (name text : Text) → State → List Access
    sourced_text_accesses name text s =
        read_accesses (sourced_in limits.shell text) s
        ++ sourced_accesses limits.shell (run_read limits script name (sourced_in limits.shell text) s)

    abbrev pub file_accesses : (name : Text) → State → List Access
    file_accesses name s =
        elim (file_in limits.devices name) [
          | None ↦ status_written
          | Some text ↦ sourced_text_accesses name text s
              ++ behind_text (sourced_text limits script name text s) (λ t. [])
        ]

    -- the text of a file starts with the status from before
    abbrev pub here_accesses : (name : Text) → (before : ℕ) → State → List Access
    here_accesses name before s = Writes Status ∷ file_accesses name (set_status before s)

    -- the status says whether it is this file
    abbrev pub chosen_accesses : (name : Text) → (before : ℕ) → (next : State → List Access) → State → List Access
    chosen_accesses name before next s =
        Reads Status ∷ elim (nat_eq s.memory.status 0) [ true ↦ here_accesses name before s | false ↦ next s ]

    -- which one it is, is asked of each but the last, in turn
    abbrev pub one_accesses : (name : Text) → (others : List Text) → (before : ℕ) → State → List Access
    one_accesses name [] before s = here_accesses name before s
    one_accesses name (other ∷ others) before s = started_accesses (choice_text name) s
        ++ behind (started_text limits script name (choice_text name) s) (chosen_accesses name before (one_accesses other others before))

    -- the status says whether the text of one of the files follows
    abbrev pub follow_accesses : (name : Text) → (others : List Text) → (before : ℕ) → State → List Access
    follow_accesses name others before s =
        Reads Status ∷ elim (nat_eq s.memory.status 0) [ true ↦ one_accesses name others before s | false ↦ [] ]

    -- `asked` is what a device command has accessed that came to an answer; then it may hand over
    abbrev pub handed_accesses : (runs : List Text) → (before : ℕ) → (asked : List Access) → Answer → List Access
    handed_accesses [] before asked a = asked
    handed_accesses (name ∷ others) before asked a = asked ++ behind a (follow_accesses name others before)

    abbrev pub builtin_accesses : Builtin → (name : Text) → (words : List Text) → State → List Access
    builtin_accesses SetEnv name words s = setenv_accesses words
    builtin_accesses Run name [] s = status_written
    builtin_accesses Run name (w ∷ ws) s = run_accesses (w ∷ ws) s
    builtin_accesses Test name words s =
        elim (asks_in limits.shell words) [
          | true ↦ device_accesses (test_request limits name words) s
          | false ↦ status_written
        ]
    builtin_accesses Echo name words s = status_written
    builtin_accesses True name words s = status_written
    builtin_accesses False name words s = status_written
    builtin_accesses Leave name words s = status_written

    -- a command by its fields, the name first: it is computed, built in, or of the device list
    abbrev pub call_accesses : (name : Text) → (words : List Text) → State → List Access
    call_accesses name words s =
        elim (computed_by limits.devices name words) [
          | Some computed ↦ computed_accesses computed
          | None ↦ elim (builtin_of name) [
            | Some builtin ↦ builtin_accesses builtin name words s
            | None ↦ elim (effect_of limits.devices name words) [
              | Some effect ↦ handed_accesses effect.runs s.memory.status (listed_accesses name words effect s)
                  (device limits (request_of name words (effect_now limits.room s effect)) s)
              | None ↦ []
            ]
          ]
        ]

    abbrev pub simple_call_accesses : List Text → State → List Access
    simple_call_accesses [] s = nothing_accesses limits.shell
    simple_call_accesses (name ∷ words) s =
        elim (follows limits.shell limits.devices name words) [ true ↦ call_accesses name words s | false ↦ [] ]

    abbrev pub simple_accesses : List Text → State → List Access
    simple_accesses found s = simple_call_accesses (call_in limits.shell found) s

  -- over the tree, with this many steps left; `text` is what the texts do that `run` starts, and `of_text` what they access
  module _ (left : ℕ) (text : Script → State → Answer) (of_text : Script → State → List Access) where
    abbrev mutual
      pub script_accesses : Script → State → List Access
      script_accesses tree.Empty s = []
      script_accesses (tree.Runs list more) s =
          list_accesses list s ++ behind (exec_list limits left text list s) (script_accesses more)

      pub list_accesses : AndOr → State → List Access
      list_accesses (tree.Starts first rest) s =
          command_accesses first s ++ behind (exec_command limits left text first s) (joined_accesses rest)

      -- `&&` and `||` read the status
      pub joined_accesses : Joined → State → List Access
      joined_accesses tree.Alone s = []
      joined_accesses (tree.Joins op next rest) s =
          Reads Status ∷ elim (goes op s.memory.status) [
            | true ↦ command_accesses next s ++ behind (exec_command limits left text next s) (joined_accesses rest)
            | false ↦ elim (skips_rest limits.shell) [ true ↦ [] | false ↦ joined_accesses rest s ]
          ]

      pub command_accesses : Command → State → List Access
      command_accesses (tree.Simple words) s =
          begun_accesses (λ t. all_read (words_reads t.memory words)
          ++ sized_accesses (fields_in limits.shell (parameters_in t.memory) words) (simple_accesses text of_text) t) s
      command_accesses (tree.Assign values) s = begun_accesses (assign_accesses limits.shell values) s
      command_accesses (tree.If arms) s =
          arms_accesses arms s ++ compound_accesses limits.shell (exec_arms limits left text arms s)
      command_accesses (tree.Loop until cond body) s =
          turns_accesses limits.shell left until (exec_script limits left text cond) (exec_script limits left text body)
          (script_accesses cond) (script_accesses body) s
          ++ compound_accesses limits.shell
          (turns limits.shell left until (exec_script limits left text cond) (exec_script limits left text body) 0 s)
      command_accesses (tree.For name words body) s =
          begun_accesses (λ t. modern_accesses limits.shell
          ++ for_words_accesses limits.shell name words (exec_script limits left text body) (script_accesses body)
          (for_begun limits.shell t)) s

      -- the status of each condition is read
      pub arms_accesses : Arms → State → List Access
      arms_accesses tree.NoElse s = nothing_accesses limits.shell
      arms_accesses (tree.Else body) s = script_accesses body s
      arms_accesses (tree.Arm cond body more) s =
          script_accesses cond s ++ behind (exec_script limits left text cond s) (λ t. Reads Status
          ∷ elim (nat_eq t.memory.status 0) [
            | true ↦ script_accesses body t
            | false ↦ modern_accesses limits.shell ++ arms_accesses more (block_skipped limits.shell body t)
          ])

  -- a script with this many steps left, as `exec` runs it
  abbrev pub accesses : (left : ℕ) → Script → State → List Access
  accesses zero = script_accesses zero (λ t s. Ended CutSteps s) (λ t s. [])
  accesses (suc left) = script_accesses (suc left) (exec limits left) (accesses left)

-- the status that a run ends with is read, if its text has ended
abbrev pub end_accesses : Answer → List Access
end_accesses (Normal s) = Reads Status ∷ []
end_accesses (Exit s) = Reads Status ∷ []
end_accesses (Ended ending s) = []
end_accesses (Dry s) = []

-- the text of a variable as a run, to its end
abbrev pub run_text_accesses : Limits → (left : ℕ) → (name text : Text) → State → List Access
run_text_accesses limits left name text s =
    text_accesses limits (exec limits left) (accesses limits left) text s
    ++ end_accesses (run_text limits (exec limits left) name text s)
