-- The names that a text runs. `run NAME..` runs the commands in the variables of these names (U-Boot documentation,
-- doc/usage/cmd/run). That only names that are written out count is ours.
use Rattle.std.specs.Prelude.{◌++◌, ◌∷◌, Bool, false, List, [], Option, Some, None, Result, Ok, Err, codes, if◌then◌else◌}
use Rattle.std.specs.List.{filter_map}
pub use Rattle.text.specs.Lines.{Text}
use Rattle.envtools.specs.Environment.{same}
use Rattle.hushlang.specs.CursorShown.{input_in}
use Rattle.hushlang.specs.Grammar.{max_nesting}
use Rattle.hushlang.specs.Parsing.{whole}
use Rattle.hushlang.specs.Tree.{Script, Empty, Runs, AndOr, Starts, Joined, Alone, Joins, Command, Simple, Assign, If, Loop, For, Arms, NoElse, Else, Arm, Word, Bytes, Mark, Var, Status}
use Rattle.hushlang.specs.TreesShown as view
use Rattle.hushlang.specs.declared.tree.Script as code_script
use Rattle.hushlang.specs.declared.token.SyntaxError.{SyntaxError}
use Rattle.hushlang_shells.specs.TreesByShell.{TextRead, Runs, Fails, Panics, Unread, started_in}
use Rattle.rehearse_terms.specs.declared.shell.Shell.{Shell}
use Rattle.rehearse_terms.specs.declared.shell.Shell.TheVariants.{Profile}

-- bytes before what follows, if that is known
abbrev pub in_front : Text → Option Text → Option Text
in_front bytes None = None
in_front bytes (Some rest) = Some (bytes ++ rest)

-- the bytes of a word that holds no variable and no status, with what its quotes hold
abbrev pub written_out : Word → Option Text
written_out [] = Some []
written_out (Bytes bytes ∷ more) = in_front bytes (written_out more)
written_out (Mark ∷ more) = written_out more
written_out (Var name split ∷ more) = None
written_out (Status ∷ more) = None

-- the word is `run`
abbrev pub is_run : Option Text → Bool
is_run None = false
is_run (Some command) = same command (codes "run")

-- the names that a simple command runs: after `run`, its words that are written out
abbrev pub run_by_words : List Word → List Text
run_by_words [] = []
run_by_words (word ∷ words) = if is_run (written_out word) then filter_map written_out words else []

-- the names that a tree runs, in the order of the text
abbrev mutual
  pub run_by_script : Script → List Text
  run_by_script Empty = []
  run_by_script (Runs list more) = run_by_list list ++ run_by_script more

  pub run_by_list : AndOr → List Text
  run_by_list (Starts first rest) = run_by_command first ++ run_by_joined rest

  pub run_by_joined : Joined → List Text
  run_by_joined Alone = []
  run_by_joined (Joins op command rest) = run_by_command command ++ run_by_joined rest

  pub run_by_command : Command → List Text
  run_by_command (Simple words) = run_by_words words
  run_by_command (Assign values) = []
  run_by_command (If arms) = run_by_arms arms
  run_by_command (Loop until cond body) = run_by_script cond ++ run_by_script body
  run_by_command (For name words body) = run_by_script body

  pub run_by_arms : Arms → List Text
  run_by_arms NoElse = []
  run_by_arms (Else body) = run_by_script body
  run_by_arms (Arm cond body more) = (run_by_script cond ++ run_by_script body) ++ run_by_arms more

-- a condition and its block
abbrev pub run_by_arm : Script × Script → List Text
run_by_arm arm = run_by_script arm.0 ++ run_by_script arm.1

-- what the language reads in a text: its tree, or why it has none
abbrev pub read_in : Text → Result Script SyntaxError
read_in text = whole max_nesting (input_in text)

-- a text without a tree runs nothing
abbrev pub run_by_read : Result Script SyntaxError → List Text
run_by_read (Ok script) = run_by_script script
run_by_read (Err error) = []

-- the script of a text that is run
abbrev pub script_run : TextRead → Option Script
script_run (Runs script) = Some script
script_run Fails = None
script_run Panics = None
script_run Unread = None

-- what a shell of U-Boot reads in a text, if the call names one
abbrev pub uboot_script : Option Shell → Text → Option Script
uboot_script None text = None
uboot_script (Some Profile) text = None
uboot_script (Some shell) text = script_run (started_in shell text)

abbrev pub or_uboot : Option Script → Result Script SyntaxError → Result Script SyntaxError
or_uboot old (Ok script) = Ok script
or_uboot (Some script) (Err error) = Ok script
or_uboot None (Err error) = Err error

-- What is read in a text: by the language; and if that refuses it, by the shell of U-Boot that the call names.
abbrev pub read_by : Option Shell → Text → Result Script SyntaxError
read_by shell text = or_uboot (uboot_script shell text) (read_in text)

abbrev pub run_by_text : Option Shell → Text → List Text
run_by_text shell text = run_by_read (read_by shell text)

-- the names that the text of a variable or of a file runs; a variable that is not set runs nothing
abbrev pub run_by_value : Option Shell → Option Text → List Text
run_by_value shell None = []
run_by_value shell (Some text) = run_by_text shell text

-- the names that a script runs, if one was found
abbrev pub run_by_found : Option code_script.Script → List Text
run_by_found None = []
run_by_found (Some script) = run_by_script (view.script script)
