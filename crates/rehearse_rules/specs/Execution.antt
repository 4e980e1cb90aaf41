-- What a script does to a state, for the outcomes that its word still holds (U-Boot documentation, doc/usage/cmdline
-- and doc/usage/cmd). The bounds are ours, and so is how a run ends that meets one.
use Rattle.std.specs.Prelude.{ℕ, zero, suc, nat_lt, nat_le, nat_eq, Bool, true, false, not, List, [], ◌∷◌, ◌++◌, length, Option, Some, None, codes, if◌then◌else◌}
use Rattle.device_list.specs.declared.finish.BoardEnd.{BoardEnd}
use Rattle.hushlang.specs.Tree as tree
use Rattle.hushlang.specs.Tree.{Script, AndOr, Joined, Command, Arms}
use Rattle.hushlang.specs.Expansion.{size, most_bytes}
use Rattle.hushlang.specs.declared.tree.Op.{Op}
use Rattle.hushlang.specs.declared.tree.Op.TheVariants.{And, Or}
use Rattle.rehearse_terms.specs.Outcomes.{Outcome, Success, Failure, OutcomeWord}
use Rattle.hushlang_shells.specs.TreesByShell.{TextRead, Runs, Fails, Panics, Unread, first_in, started_in, sourced_in}
use Rattle.rehearse_terms.specs.State.{Text, Variables, get, with_value, without, Memory, LoggedCommand, answer_in, State}
use Rattle.rehearse_terms.specs.declared.shell.Shell.{Shell}
use Rattle.rehearse_terms.specs.declared.shell.Shell.TheVariants.{Profile, Old2023, Old2025, Modern2025}
use Rattle.rehearse_rules.specs.Needs.{effect_now}
pub use Rattle.rehearse_rules.specs.Ending.{Ending, End, CutDevices, CutSteps, Unknown, Syntax, Unsupported, Panic, Size, Finished}
use Rattle.rehearse_rules.specs.Parameters.{parameters_in}
use Rattle.rehearse_rules.specs.ByShell.{unread, reads_again, leaves_in, status_of_exit, left_status, status_of_text, call_in, asks_in, question_in, truth_in, truth_if, fields_in, turns_in, skips_rest, status_of_nothing, status_of_no_block, status_of_loop, status_in_turn, status_of_for, status_of_skipped, follows, follows_turns, assigned_in, locals_in}
use Rattle.device_list.specs.DeviceList.{Effect, Devices, file_in}
use Rattle.device_list.specs.Called.{Called, BuiltIn, NoCommand, Device, called_by, NewValue, Value, Copied, Unset, sets_in}
use Rattle.device_list.specs.Saving.{copy_of}
use Rattle.commands.specs.BuiltInCommands.{ChangesVariables, WritesText, RunsTexts, Tests, Exits, variables_changed, text_written}

-- the device list, how many device commands a run may ask, how many steps it may begin, the shell, and how many bytes there are
-- for the variables that a call saves, none if there is room for all
pub record Limits : Type 0 where
  pub devices : Devices
  pub device_bound : ℕ
  pub step_bound : ℕ
  pub shell : Shell
  pub room : Option ℕ

-- the result of a part of a script
pub data Answer : Type 0 where
  -- the next command follows
  Normal : State → Answer
  -- the text that is running ends, with the status
  Exit : State → Answer
  -- the run ends
  Ended : Ending → State → Answer
  -- a device command found no outcome left
  Dry : State → Answer

-- first this, and then that if the first has ended normally
abbrev pub go_on : Answer → (State → Answer) → Answer
go_on (Normal s) next = next s
go_on (Exit s) next = Exit s
go_on (Ended ending s) next = Ended ending s
go_on (Dry s) next = Dry s

abbrev pub remember : (Memory → Memory) → State → State
remember change s = record s { memory = change s.memory }

abbrev pub set_status : ℕ → State → State
set_status status = remember (λ m. record m { status = status })

-- sets a shell variable
abbrev pub set_local : Text → Text → State → State
set_local name value = remember (λ m. record m { locals = with_value m.locals name value })

-- assigns a shell variable
abbrev pub assigned : Shell → (name value : Text) → Memory → Memory
assigned shell name value m = record m { locals = locals_in shell name value m.locals }

abbrev pub assign_local : Shell → Text → Text → State → State
assign_local shell name value = remember (assigned shell name value)

abbrev pub status_when : Bool → ℕ
status_when true = 0
status_when false = 1

abbrev pub succeeds : Outcome → Bool
succeeds Success = true
succeeds Failure = false

abbrev pub outcome_when : (success : Bool) → Outcome
outcome_when true = Success
outcome_when false = Failure

-- `a && b` runs b if the status is 0, `a || b` if it is not
abbrev pub goes : Op → ℕ → Bool
goes And status = nat_eq status 0
goes Or status = not (nat_eq status 0)

-- whether a loop runs its body after its condition has ended with this status
abbrev pub holds : (until : Bool) → (status : ℕ) → Bool
holds false status = nat_eq status 0
holds true status = not (nat_eq status 0)

-- ---- device commands

-- a device command that is asked: its name, its words, and what it does on success; whether it has its
-- answer without an outcome; and its status on success, and on failure
pub record Request : Type 0 where
  pub name : Text
  pub words : List Text
  pub effect : Effect
  pub again : Bool
  pub on_success : ℕ
  pub on_failure : ℕ

-- a command that has the status of its outcome
abbrev pub request_of : (name : Text) → (words : List Text) → Effect → Request
request_of name words effect = record { name = name; words = words; effect = effect; again = false; on_success = 0; on_failure = 1 }

abbrev pub status_after : Outcome → Request → ℕ
status_after Success request = request.on_success
status_after Failure request = request.on_failure

-- `test -e` changes nothing; its answers stay if the list says so
abbrev pub test_effect : Devices → Effect
test_effect devices = record { ends = None; stays = devices.test_stays; always = None; needs = []; normal = false; runs = []; sets = [] }

-- the question of a `test`: its status says whether the words hold
abbrev pub test_request : Limits → (name : Text) → (words : List Text) → Request
test_request limits name words = record {
  name = name;
  words = question_in limits.shell words;
  effect = test_effect limits.devices;
  again = false;
  on_success = status_when (truth_if limits.shell true words);
  on_failure = status_when (truth_if limits.shell false words);
}

-- the command and its outcome are in the log, and its status is as it says
abbrev pub logged : Outcome → Request → State → State
logged outcome request s =
    set_status (status_after outcome request)
    (record s {
      log = s.log ++ record {
        success = succeeds outcome;
        words = request.name ∷ request.words;
        stays = request.effect.stays;
        again = request.again;
      } ∷ [];
    })

-- a variable is set, also to a copy of another one, or it is deleted
abbrev pub changed : Variables → Text → NewValue → Variables
changed variables name Unset = without variables name
changed variables name (Value value) = with_value variables name value
changed variables name (Copied other) = with_value variables name (copy_of (get variables other))

abbrev pub with_all : List (Text × NewValue) → Variables → Variables
with_all [] variables = variables
with_all (e ∷ es) variables = with_all es (changed variables e.0 e.1)

-- sets and deletes environment variables, one after another
abbrev pub set_environment : List (Text × NewValue) → State → State
set_environment sets = remember (λ m. record m { environment = with_all sets m.environment })

-- a command that ends the run, or another one
abbrev pub finish : Option BoardEnd → (name : Text) → State → Answer
finish (Some how) name s = Ended (Finished how name) s
finish None name s = Normal s

-- a device command with its outcome
abbrev pub with_outcome : Outcome → Request → State → Answer
with_outcome Success request s =
    finish request.effect.ends request.name
    (set_environment (sets_in request.words request.effect.sets) (logged Success request s))
with_outcome Failure request s = Normal (logged Failure request s)

-- it takes the next outcome of the word
abbrev pub take_outcome : Request → OutcomeWord → State → Answer
take_outcome request [] s = Dry s
take_outcome request (outcome ∷ rest) s = with_outcome outcome request (record s { word = rest })

-- the answer that it has without an outcome: that of before, if its answers stay and it was asked before with the same words;
-- or the only one that it has
abbrev pub told : Request → List LoggedCommand → Option Bool
told request log =
    if request.effect.stays then answer_in log (request.name ∷ request.words) else request.effect.always

abbrev pub told_again : Request → Request
told_again request = record request { again = true }

-- it has an answer, and takes no outcome; or else it takes one
abbrev pub tell_or_take : (told : Option Bool) → Request → State → Answer
tell_or_take (Some success) request s = with_outcome (outcome_when success) (told_again request) s
tell_or_take None request s = take_outcome request s.word s

-- the question whether a file is the one whose text runs, as a text
abbrev pub choice_text : (name : Text) → Text
choice_text name = codes "runs " ++ name

-- ---- parts of scripts, by the meaning of what they are made of

-- a text that `run` started has ended by itself with a status that is not 0: so does the `run`
abbrev pub text_failed : Shell → State → State
text_failed shell s = set_status (status_of_text shell s.memory.status) s

-- a text that `run` started has ended, also by `exit`; the next one follows if its status is 0
abbrev pub text_end : Shell → Answer → (State → Answer) → Answer
text_end shell (Normal s) next = elim (nat_eq s.memory.status 0) [ true ↦ next s | false ↦ Normal (text_failed shell s) ]
text_end shell (Exit s) next = elim (nat_eq s.memory.status 0) [ true ↦ next s | false ↦ Normal s ]
text_end shell (Ended ending s) next = Ended ending s
text_end shell (Dry s) next = Dry s

-- an `exit` in a compound command has left that command
abbrev pub compound_left : State → State
compound_left s = set_status (left_status s.memory.status) s

-- and what comes after the command follows
abbrev pub compound_end : Answer → Answer
compound_end (Normal s) = Normal s
compound_end (Exit s) = Normal (compound_left s)
compound_end (Ended ending s) = Ended ending s
compound_end (Dry s) = Dry s

-- the result of a compound command, by what is in it: `exit` ends the text that is running, in the modern shell the innermost
-- compound command alone
abbrev pub compound : Shell → Answer → Answer
compound Profile a = a
compound Old2023 a = a
compound Old2025 a = a
compound Modern2025 a = compound_end a

-- in the text of a file `exit` ends the run: U-Boot's prompt takes over
abbrev pub left_to_prompt : Answer → Answer
left_to_prompt (Normal s) = Normal s
left_to_prompt (Exit s) = Ended (End s.memory.status) s
left_to_prompt (Ended ending s) = Ended ending s
left_to_prompt (Dry s) = Dry s

-- the result of the text of a file, by what is in it: `exit` ends this text alone, in the modern shell the run, as it sets the input
-- of the shell to the console (`parse_and_run_stream`, `setup_file_in_str`)
abbrev pub sourced : Shell → Answer → Answer
sourced Profile a = a
sourced Old2023 a = a
sourced Old2025 a = a
sourced Modern2025 a = left_to_prompt a

-- fields that hold too many bytes end the run
abbrev pub sized : List Text → (List Text → State → Answer) → State → Answer
sized fs next s = elim (nat_le (size fs) most_bytes) [ true ↦ next fs s | false ↦ Ended Size s ]

-- assignments, from the left; if one ends the run, the ones before it are kept
abbrev pub assign : Shell → List (Text × tree.Word) → State → Answer
assign shell [] s = Normal (set_status 0 s)
assign shell (pair ∷ pairs) s =
    let value = assigned_in shell (parameters_in s.memory) pair.1 in elim (nat_le (length value) most_bytes) [
      | true ↦ assign shell pairs (assign_local shell pair.0 value s)
      | false ↦ Ended Size s
    ]

-- the turns of a loop; `last` is the status of the last body. Each condition holds a command, so it begins a step.
-- After as many turns as there were steps left, the step of the next turn is cut
abbrev pub turns : Shell → (left : ℕ) → (until : Bool) → (cond body : State → Answer) → (last : ℕ) → State → Answer
turns shell zero until cond body last s = Ended CutSteps s
turns shell (suc left) until cond body last s = go_on (cond s) (λ t. elim (holds until t.memory.status) [
  | true ↦ go_on (body t) (λ u. turns shell left until cond body u.memory.status u)
  | false ↦ Normal (set_status (status_of_loop shell last t.memory.status) t)
])

-- the variable of a `for` has the field of a turn as its value
abbrev pub begin_turn : Shell → (name value : Text) → State → State
begin_turn shell name value s = set_status (status_in_turn shell s.memory.status) (set_local name value s)

-- the body once for each field
abbrev pub for_each : Shell → (name : Text) → (body : State → Answer) → (last : ℕ) → List Text → State → Answer
for_each shell name body last [] s = Normal (set_status last s)
for_each shell name body last (f ∷ fs) s =
    go_on (body (begin_turn shell name f s)) (λ t. for_each shell name body t.memory.status fs t)

-- the turns of a `for`, if they are followed
abbrev pub turns_of : Shell → (name : Text) → (body : State → Answer) → List Text → State → Answer
turns_of shell name body fs s = elim (follows_turns shell name fs) [
  | true ↦ compound shell (for_each shell name body 0 fs s)
  | false ↦ Ended (Unsupported name) s
]

abbrev pub for_begun : Shell → State → State
for_begun shell s = set_status (status_of_for shell s.memory.status) s

-- a `for` that has begun finds its words, and then its turns follow
abbrev pub for_words : Shell → (name : Text) → List tree.Word → (body : State → Answer) → State → Answer
for_words shell name words body s = sized (turns_in shell (parameters_in s.memory) words) (turns_of shell name body) s

-- a block of an `if` is not run
abbrev pub block_skipped : Shell → (block : Script) → State → State
block_skipped shell block s = set_status (status_of_skipped shell block s.memory.status) s

-- ---- execution; `script` is what the tree of a text does to a state

module _ (limits : Limits) where
  -- a step is begun and counted if the bound allows one more
  abbrev pub begin : (State → Answer) → State → Answer
  begin body s =
      elim (nat_lt s.steps limits.step_bound) [
        | true ↦ body (record s { steps = suc s.steps })
        | false ↦ Ended CutSteps s
      ]

  -- a device command is asked if the bound allows one more in the log
  abbrev pub device : Request → State → Answer
  device request s =
      elim (nat_lt (length s.log) limits.device_bound) [
        | true ↦ tell_or_take (told request s.log) request s
        | false ↦ Ended CutDevices s
      ]

  -- the text of a variable that has been read. A text without a command gives the status 0, and one with a fault the status 1
  abbrev pub run_read : (script : Script → State → Answer) → (name : Text) → TextRead → State → Answer
  run_read script name (Runs t) s = script t (elim t [ tree.Empty ↦ set_status 0 s | tree.Runs list more ↦ s ])
  run_read script name Fails s = Normal (set_status 1 s)
  run_read script name Panics s = Ended (Panic name) s
  run_read script name Unread s = Ended (unread limits.shell name) s

  -- the text with which a run begins
  abbrev pub run_text : (script : Script → State → Answer) → (name text : Text) → State → Answer
  run_text script name text = run_read script name (first_in limits.shell text)

  -- a text that `run` starts, read when its turn comes
  abbrev pub started_text : (script : Script → State → Answer) → (name text : Text) → State → Answer
  started_text script name text = run_read script name (started_in limits.shell text)

  -- the texts of these variables in turn, up to the first that fails or is not set
  abbrev pub run_all : (script : Script → State → Answer) → List Text → State → Answer
  run_all script [] s = Normal s
  run_all script (name ∷ names) s =
      elim (get s.memory.environment name) [
        | None ↦ Normal (set_status 1 s)
        | Some text ↦ text_end limits.shell (started_text script name text s) (run_all script names)
      ]

  -- the text of a file, read when its turn comes
  abbrev pub sourced_text : (script : Script → State → Answer) → (name text : Text) → State → Answer
  sourced_text script name text s = sourced limits.shell (run_read script name (sourced_in limits.shell text) s)

  -- the text of a file, as `source` runs it
  abbrev pub run_file : (script : Script → State → Answer) → (name : Text) → State → Answer
  run_file script name s =
      elim (file_in limits.devices name) [
        | None ↦ Normal (set_status 1 s)
        | Some text ↦ text_end limits.shell (sourced_text script name text s) Normal
      ]

  -- the text of this file runs if the question has said so, with the status that was before the command
  abbrev pub chosen : (script : Script → State → Answer) → (name : Text) → (before : ℕ) → (next : State → Answer) → State →
      Answer
  chosen script name before next s =
      elim (nat_eq s.memory.status 0) [ true ↦ run_file script name (set_status before s) | false ↦ next s ]

  -- the text of one of these files: which one it is, is asked of each but the last, in turn
  abbrev pub run_one : (script : Script → State → Answer) → (name : Text) → (others : List Text) → (before : ℕ) → State →
      Answer
  run_one script name [] before s = run_file script name (set_status before s)
  run_one script name (other ∷ others) before s =
      go_on (started_text script name (choice_text name) s) (chosen script name before (run_one script other others before))

  -- after a success the text of one of the files runs
  abbrev pub file_follows : (script : Script → State → Answer) → (name : Text) → (others : List Text) → (before : ℕ) → State →
      Answer
  file_follows script name others before s =
      elim (nat_eq s.memory.status 0) [ true ↦ run_one script name others before s | false ↦ Normal s ]

  -- a device command hands over to the text of a file if it names one and has succeeded
  abbrev pub handed_over : (script : Script → State → Answer) → (runs : List Text) → (before : ℕ) → Answer → Answer
  handed_over script [] before a = a
  handed_over script (name ∷ others) before a = go_on a (file_follows script name others before)

  -- a command by its fields, the name first; `again` says whether it is read again
  abbrev pub command : (again : Bool) → (script : Script → State → Answer) → Called → (name : Text) →
      (words : List Text) → State → Answer
  command again script (BuiltIn (ChangesVariables change)) name words s = Normal (remember (variables_changed change words) s)
  command again script (BuiltIn RunsTexts) name [] s = Normal (set_status 1 s)
  command again script (BuiltIn RunsTexts) name (w ∷ ws) s = run_all script (w ∷ ws) s
  command again script (BuiltIn Tests) name words s =
      elim (asks_in limits.shell words) [
        | true ↦ device (test_request limits name words) s
        | false ↦ Normal (set_status (status_when (truth_in limits.shell words)) s)
      ]
  command again script (BuiltIn (WritesText written)) name words s = Normal (remember (text_written written words) s)
  command again script (BuiltIn Exits) name words s =
      elim (leaves_in limits.shell again words) [
        | Some status ↦ Exit (set_status status s)
        | None ↦ Normal (set_status (status_of_exit limits.shell words) s)
      ]
  command again script (Device effect) name words s =
      handed_over script effect.runs s.memory.status (device (request_of name words (effect_now limits.room s effect)) s)
  command again script NoCommand name words s = Ended (Unknown name) s

  -- a call by its fields. Without a field it does nothing
  abbrev pub simple_call : (again : Bool) → (script : Script → State → Answer) → List Text → State → Answer
  simple_call again script [] s = Normal (set_status (status_of_nothing limits.shell s.memory.status) s)
  simple_call again script (name ∷ words) s =
      elim (follows limits.shell limits.devices name words) [
        | true ↦ command again script (called_by limits.devices name words) name words s
        | false ↦ Ended (Unsupported name) s
      ]

  -- a simple command, by the fields of its words
  abbrev pub simple : (again : Bool) → (script : Script → State → Answer) → List Text → State → Answer
  simple again script found s = simple_call again script (call_in limits.shell found) s

  -- over the tree, with this many steps left; `text` is what the texts do that `run` starts
  module _ (left : ℕ) (text : Script → State → Answer) where
    abbrev mutual
      pub exec_script : Script → State → Answer
      exec_script tree.Empty s = Normal s
      exec_script (tree.Runs list more) s = go_on (exec_list list s) (exec_script more)

      pub exec_list : AndOr → State → Answer
      exec_list (tree.Starts first rest) s = go_on (exec_command first s) (exec_joined rest)

      -- a skipped command leaves the status as it is
      pub exec_joined : Joined → State → Answer
      exec_joined tree.Alone s = Normal s
      exec_joined (tree.Joins op next rest) s =
          elim (goes op s.memory.status) [
            | true ↦ go_on (exec_command next s) (exec_joined rest)
            | false ↦ elim (skips_rest limits.shell) [ true ↦ Normal s | false ↦ exec_joined rest s ]
          ]

      pub exec_command : Command → State → Answer
      exec_command (tree.Simple words) s =
          begin (λ t. sized (fields_in limits.shell (parameters_in t.memory) words)
          (simple (reads_again words) text) t) s
      exec_command (tree.Assign values) s = begin (assign limits.shell values) s
      exec_command (tree.If arms) s = compound limits.shell (exec_arms arms s)
      exec_command (tree.Loop until cond body) s =
          compound limits.shell (turns limits.shell left until (exec_script cond) (exec_script body) 0 s)
      exec_command (tree.For name words body) s =
          begin (λ t. for_words limits.shell name words (exec_script body) (for_begun limits.shell t)) s

      -- the block after the first condition that ends with status 0, else the `else` block
      pub exec_arms : Arms → State → Answer
      exec_arms tree.NoElse s = Normal (set_status (status_of_no_block limits.shell s.memory.status) s)
      exec_arms (tree.Else body) s = exec_script body s
      exec_arms (tree.Arm cond body more) s = go_on (exec_script cond s) (λ t. elim (nat_eq t.memory.status 0) [
        | true ↦ exec_script body t
        | false ↦ exec_arms more (block_skipped limits.shell body t)
      ])

  -- a script with this many steps left; the texts that `run` starts have one less, which the `run` takes
  abbrev pub exec : (left : ℕ) → Script → State → Answer
  exec zero = exec_script zero (λ t s. Ended CutSteps s)
  exec (suc left) = exec_script (suc left) (exec left)
