-- What one move of the machine reads and writes, beside the moves (Frames.antt of rehearse_machine): up to a device command
-- that asks, and without its outcome. It is the same for every word. Ours.
use Rattle.std.specs.Prelude.{ℕ, nat_lt, nat_eq, Bool, true, false, List, [], ◌∷◌, ◌++◌, length, Option, Some, None}
use Rattle.hushlang.specs.Tree as tree
use Rattle.hushlang.specs.Tree.{Script, Command, Arms}
use Rattle.hushlang_shells.specs.TreesByShell.{TextRead, Runs, Fails, Panics, Unread, started_in, sourced_in}
use Rattle.builtins.specs.Builtins.{Builtin, SetEnv, Run, Test, Echo, True, False, Leave, builtin_of}
use Rattle.device_list.specs.DeviceList.{Effect, effect_of, computed_by, file_in}
use Rattle.rehearse_terms.specs.State.{Text, get, State}
use Rattle.rehearse_terms.specs.declared.shell.Shell.{Shell}
use Rattle.rehearse_terms.specs.declared.shell.Shell.TheVariants.{Profile, Old2023, Old2025, Modern2025}
use Rattle.rehearse_rules.specs.Parameters.{parameters_in}
use Rattle.rehearse_rules.specs.ByShell.{reads_again, call_in, leaves_in, asks_in, fields_in, turns_in, follows, follows_turns}
use Rattle.rehearse_rules.specs.Needs.{effect_now}
use Rattle.rehearse_rules.specs.Execution.{Limits, goes, holds, outcome_when, Request, told, request_of, test_request, for_begun, choice_text}
use Rattle.rehearse_machine.specs.Frames.{Frame, Lists, Linked, IfCondition, LoopCondition, LoopBody, ForBody, RunNames, RunText, CommandEnd, RunFile, ChosenFile, FileText}
use Rattle.rehearse_reads.specs.Keys.{Access, Reads, Writes, Environment, Status, all_read}
use Rattle.rehearse_reads.specs.Accesses.{status_written, words_reads, setenv_accesses, computed_accesses, success_reads, told_reads, outcome_accesses, sized_accesses, assign_accesses, turn_accesses, nothing_accesses, begun_accesses, modern_accesses}

-- `exit` in a compound command goes further outwards, but not in the modern shell: the status of the command follows from its own
abbrev pub of_leaving_compound : Shell → (outwards : List Access) → List Access
of_leaving_compound Profile outwards = outwards
of_leaving_compound Old2023 outwards = outwards
of_leaving_compound Old2025 outwards = outwards
of_leaving_compound Modern2025 outwards = Reads Status ∷ status_written

-- `exit` passes the frames up to the `run` of its text, which ends with this status if it is not 0, or up to the text of a file.
-- With none it ends the run, whose status is read
abbrev pub of_leaving : Shell → (status : ℕ) → List Frame → List Access
of_leaving shell status [] = Reads Status ∷ []
of_leaving shell status (RunNames names ∷ fs) = Reads Status ∷ []
of_leaving shell status (RunText names ∷ fs) = elim (nat_eq status 0) [ true ↦ [] | false ↦ Reads Status ∷ [] ]
of_leaving shell status (Lists ls ∷ fs) = of_leaving shell status fs
of_leaving shell status (Linked ls ∷ fs) = of_leaving shell status fs
of_leaving shell status (IfCondition b arms ∷ fs) = of_leaving_compound shell (of_leaving shell status fs)
of_leaving shell status (LoopCondition until c b last ∷ fs) = of_leaving_compound shell (of_leaving shell status fs)
of_leaving shell status (LoopBody until c b ∷ fs) = of_leaving_compound shell (of_leaving shell status fs)
of_leaving shell status (ForBody name fields body ∷ fs) = of_leaving_compound shell (of_leaving shell status fs)
of_leaving shell status (RunFile name others before ∷ fs) = of_leaving shell status fs
of_leaving shell status (ChosenFile name other others before ∷ fs) = of_leaving shell status fs
of_leaving shell status (FileText ∷ fs) = Reads Status ∷ []
of_leaving shell status (CommandEnd ∷ fs) = of_leaving_compound shell (of_leaving shell status fs)

abbrev pub of_exit : Shell → Option ℕ → List Frame → List Access
of_exit shell (Some status) fs = Writes Status ∷ of_leaving shell status fs
of_exit shell None fs = status_written

-- a command that is given an answer goes on with it
abbrev pub of_telling : (told : Option Bool) → Request → List Access
of_telling (Some success) request = outcome_accesses (outcome_when success) request
of_telling None request = []

abbrev pub of_beginning_for : List Text → List Access
of_beginning_for [] = status_written
of_beginning_for (f ∷ values) = []

-- the turns of a `for`, if they are followed
abbrev pub of_beginning_turns : Shell → (name : Text) → List Text → List Access
of_beginning_turns shell name values =
    elim (follows_turns shell name values) [ true ↦ of_beginning_for values | false ↦ [] ]

-- a `for` that has begun finds its words
abbrev pub of_beginning_words : Shell → (name : Text) → List tree.Word → State → List Access
of_beginning_words shell name words s =
    all_read (words_reads s.memory words)
    ++ sized_accesses (turns_in shell (parameters_in s.memory) words) (λ values u. of_beginning_turns shell name values) s

abbrev pub of_beginning_arms : Shell → Arms → List Access
of_beginning_arms shell (tree.Arm c b arms) = []
of_beginning_arms shell (tree.Else b) = []
of_beginning_arms shell tree.NoElse = nothing_accesses shell

-- a text without a command sets the status; so does one with a fault, and its `run` ends by it
abbrev pub of_beginning_read : TextRead → List Access
of_beginning_read (Runs tree.Empty) = status_written
of_beginning_read (Runs (tree.Runs list more)) = []
of_beginning_read Fails = Writes Status ∷ Reads Status ∷ []
of_beginning_read Panics = []
of_beginning_read Unread = []

abbrev pub of_beginning_text : Shell → Option Text → List Access
of_beginning_text shell None = status_written
of_beginning_text shell (Some text) = of_beginning_read (started_in shell text)

abbrev pub of_beginning_file : Shell → Option Text → List Access
of_beginning_file shell None = status_written
of_beginning_file shell (Some text) = of_beginning_read (sourced_in shell text)

-- a text that asks something is read, and the frame after it reads its status
abbrev pub of_beginning_question : TextRead → List Access
of_beginning_question (Runs tree.Empty) = status_written
of_beginning_question (Runs (tree.Runs list more)) = []
of_beginning_question Fails = status_written
of_beginning_question Panics = []
of_beginning_question Unread = []

abbrev pub of_beginning_names : Shell → List Text → State → List Access
of_beginning_names shell [] s = []
of_beginning_names shell (name ∷ names) s =
    Reads (Environment name) ∷ of_beginning_text shell (get s.memory.environment name)

module _ (limits : Limits) where
  abbrev pub of_asking : Request → State → List Access
  of_asking request s =
      elim (nat_lt (length s.log) limits.device_bound) [
        | true ↦ all_read (told_reads request) ++ of_telling (told request s.log) request
        | false ↦ []
      ]

  -- a command of the list, also one that fails since it cannot succeed
  abbrev pub of_listed : (name : Text) → (words : List Text) → Effect → State → List Access
  of_listed name words effect s =
      all_read (success_reads limits.room effect) ++ of_asking (request_of name words (effect_now limits.room s effect)) s

  -- `again` says whether the command is read again
  abbrev pub of_builtin : (again : Bool) → Builtin → (name : Text) → (words : List Text) → List Frame → State → List Access
  of_builtin again SetEnv name words fs s = setenv_accesses words
  of_builtin again Run name [] fs s = status_written
  of_builtin again Run name (w ∷ ws) fs s = []
  of_builtin again Test name words fs s =
      elim (asks_in limits.shell words) [
        | true ↦ of_asking (test_request limits name words) s
        | false ↦ status_written
      ]
  of_builtin again Echo name words fs s = status_written
  of_builtin again True name words fs s = status_written
  of_builtin again False name words fs s = status_written
  of_builtin again Leave name words fs s = of_exit limits.shell (leaves_in limits.shell again words) fs

  abbrev pub of_call : (again : Bool) → (name : Text) → (words : List Text) → List Frame → State → List Access
  of_call again name words fs s =
      elim (computed_by limits.devices name words) [
        | Some computed ↦ computed_accesses computed
        | None ↦ elim (builtin_of name) [
          | Some builtin ↦ of_builtin again builtin name words fs s
          | None ↦ elim (effect_of limits.devices name words) [
            | Some effect ↦ of_listed name words effect s
            | None ↦ []
          ]
        ]
      ]

  abbrev pub of_simple_call : (again : Bool) → List Frame → List Text → State → List Access
  of_simple_call again fs [] s = nothing_accesses limits.shell
  of_simple_call again fs (name ∷ words) s =
      elim (follows limits.shell limits.devices name words) [ true ↦ of_call again name words fs s | false ↦ [] ]

  abbrev pub of_fields : (again : Bool) → List Frame → List Text → State → List Access
  of_fields again fs found s = of_simple_call again fs (call_in limits.shell found) s

  abbrev pub of_command : Command → List Frame → State → List Access
  of_command (tree.Simple words) fs s =
      begun_accesses limits (λ t. all_read (words_reads t.memory words)
      ++ sized_accesses (fields_in limits.shell (parameters_in t.memory) words) (of_fields (reads_again words) fs) t) s
  of_command (tree.Assign pairs) fs s = begun_accesses limits (assign_accesses limits.shell pairs) s
  of_command (tree.If arms) fs s = of_beginning_arms limits.shell arms
  of_command (tree.Loop until c b) fs s = []
  of_command (tree.For name words body) fs s =
      begun_accesses limits (λ t. modern_accesses limits.shell
      ++ of_beginning_words limits.shell name words (for_begun limits.shell t)) s

  -- the text of a file starts with the status from before, and the question whether it is this one does not
  abbrev pub of_beginning_one : (name : Text) → (others : List Text) → List Access
  of_beginning_one name [] = Writes Status ∷ of_beginning_file limits.shell (file_in limits.devices name)
  of_beginning_one name (other ∷ others) = of_beginning_question (started_in limits.shell (choice_text name))

  abbrev pub of_move : List Frame → State → List Access
  of_move [] s = Reads Status ∷ []
  of_move (Lists tree.Empty ∷ fs) s = []
  of_move (Lists (tree.Runs (tree.Starts c links) lists) ∷ fs) s = of_command c (Linked links ∷ Lists lists ∷ fs) s
  of_move (Linked tree.Alone ∷ fs) s = []
  of_move (Linked (tree.Joins op c links) ∷ fs) s =
      Reads Status ∷ elim (goes op s.memory.status) [ true ↦ of_command c (Linked links ∷ fs) s | false ↦ [] ]
  of_move (IfCondition b arms ∷ fs) s =
      Reads Status ∷ elim (nat_eq s.memory.status 0) [
        | true ↦ []
        | false ↦ modern_accesses limits.shell ++ of_beginning_arms limits.shell arms
      ]
  of_move (LoopCondition until c b last ∷ fs) s =
      Reads Status ∷ elim (holds until s.memory.status) [ true ↦ [] | false ↦ status_written ]
  of_move (LoopBody until c b ∷ fs) s = Reads Status ∷ []
  of_move (ForBody name [] body ∷ fs) s = []
  of_move (ForBody name (f ∷ values) body ∷ fs) s = turn_accesses limits.shell name
  of_move (RunNames names ∷ fs) s = of_beginning_names limits.shell names s
  of_move (RunText names ∷ fs) s =
      Reads Status ∷ elim (nat_eq s.memory.status 0) [ true ↦ of_beginning_names limits.shell names s | false ↦ [] ]
  of_move (RunFile name others before ∷ fs) s =
      Reads Status ∷ elim (nat_eq s.memory.status 0) [ true ↦ of_beginning_one name others | false ↦ [] ]
  of_move (ChosenFile name other others before ∷ fs) s =
      Reads Status ∷ elim (nat_eq s.memory.status 0) [ true ↦ of_beginning_one name [] | false ↦ of_beginning_one other others ]
  of_move (FileText ∷ fs) s = Reads Status ∷ []
  of_move (CommandEnd ∷ fs) s = []
