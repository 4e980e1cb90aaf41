-- Execution that is given what a command does that is not built in, and in which `test -e` asks each time: the recursion
-- of Execution.antt over the tree, for the laws of device lists of names alone. Ours.
use Rattle.std.specs.Prelude.{ℕ, zero, suc, nat_lt, nat_eq, true, false, List, [], ◌∷◌, length, Some, None}
use Rattle.hushlang.specs.Tree as tree
use Rattle.hushlang.specs.Tree.{Script, AndOr, Joined, Command, Arms}
use Rattle.hushlang.specs.Expansion.{fields}
use Rattle.rehearse_terms.specs.Outcomes.{OutcomeWord}
use Rattle.rehearse_terms.specs.State.{Text, Variables, State, start}
use Rattle.rehearse_terms.specs.declared.written.Written.TheVariants.{Kept}
use Rattle.rehearse_terms.specs.declared.shell.Shell.TheVariants.{Profile}
use Rattle.rehearse_rules.specs.Parameters.{parameters_in}
use Rattle.builtins.specs.Builtins.{builtin_of}
use Rattle.commands.specs.Verdict.{verdict}
use Rattle.device_list.specs.Called.{BuiltIn}
use Rattle.commands.specs.BuiltInCommands.{Deed, Tests, deed_of, asks_device}
use Rattle.device_list.specs.DeviceLaws.{quiet}
use Rattle.rehearse_rules.specs.Execution.{Limits, Answer, Normal, Ended, CutDevices, CutSteps, Request, take_outcome, go_on, set_status, status_when, goes, begin, command, sized, assign, turns, for_each, run_text, request_of}

-- what a command does that is not built in, by its name and its words
abbrev pub Others : Type 0
Others = (name : Text) → (words : List Text) → State → Answer

-- a device command takes the next outcome of the word, if the bound allows one more
abbrev pub asked_anew : Limits → Request → State → Answer
asked_anew bounds request s =
    elim (nat_lt (length s.log) bounds.device_bound) [
      | true ↦ take_outcome request s.word s
      | false ↦ Ended CutDevices s
    ]

-- a built-in command
abbrev pub given_builtin : Limits → (script : Script → State → Answer) → Deed → (name : Text) → (words : List Text) →
    State → Answer
given_builtin bounds script Tests name words s =
    elim (asks_device words) [
      | true ↦ asked_anew bounds (request_of name words quiet) s
      | false ↦ Normal (set_status (status_when (verdict words)) s)
    ]
given_builtin bounds script deed name words s = command bounds false script (BuiltIn deed) name words s

module _ (bounds : Limits) (others : Others) where
  -- a command by its fields, the name first
  abbrev pub given_simple : (script : Script → State → Answer) → List Text → State → Answer
  given_simple script [] s = Normal (set_status 0 s)
  given_simple script (name ∷ words) s =
      elim (builtin_of name) [
        | Some builtin ↦ given_builtin bounds script (deed_of builtin) name words s
        | None ↦ others name words s
      ]

  -- over the tree as in Execution.antt, by these simple commands
  module _ (left : ℕ) (text : Script → State → Answer) where
    abbrev mutual
      pub given_script : Script → State → Answer
      given_script tree.Empty s = Normal s
      given_script (tree.Runs list more) s = go_on (given_list list s) (given_script more)

      pub given_list : AndOr → State → Answer
      given_list (tree.Starts first rest) s = go_on (given_command first s) (given_joined rest)

      pub given_joined : Joined → State → Answer
      given_joined tree.Alone s = Normal s
      given_joined (tree.Joins op next rest) s =
          elim (goes op s.memory.status) [
            | true ↦ go_on (given_command next s) (given_joined rest)
            | false ↦ given_joined rest s
          ]

      pub given_command : Command → State → Answer
      given_command (tree.Simple words) s =
          begin bounds (λ t. sized (fields (parameters_in t.memory) words) (given_simple text) t) s
      given_command (tree.Assign values) s = begin bounds (assign Profile values) s
      given_command (tree.If arms) s = given_arms arms s
      given_command (tree.Loop until cond body) s =
          turns Profile left until (given_script cond) (given_script body) 0 s
      given_command (tree.For name words body) s =
          begin bounds (λ t. sized (fields (parameters_in t.memory) words)
          (for_each Profile name (given_script body) 0) t) s

      pub given_arms : Arms → State → Answer
      given_arms tree.NoElse s = Normal (set_status 0 s)
      given_arms (tree.Else body) s = given_script body s
      given_arms (tree.Arm cond body more) s = go_on (given_script cond s) (λ t. elim (nat_eq t.memory.status 0) [
        | true ↦ given_script body t
        | false ↦ given_arms more t
      ])

  abbrev pub given_exec : (left : ℕ) → Script → State → Answer
  given_exec zero = given_script zero (λ t s. Ended CutSteps s)
  given_exec (suc left) = given_script (suc left) (given_exec left)

  -- the result of the text of a variable with the outcomes of a word
  abbrev pub given_run_on : Variables → (name text : Text) → OutcomeWord → Answer
  given_run_on environment name text w = run_text bounds (given_exec bounds.step_bound) name text (start Kept environment w)
