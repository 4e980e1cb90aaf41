-- The scripts of texts that were read. Ours.
use Rattle.std.specs.Prelude.{◌≡◌, ℕ, List, Option, Some, None}
use Rattle.std.specs.List.{All}
use Rattle.std.specs.Coded.{Coded-set}
use Rattle.std.specs.declared.alloc.Global.{Global}
use Rattle.std.specs.declared.rc.Rc.{Rc}
use Rattle.std.specs.declared.vec.Vec.{Vec}
use Rattle.hushlang.specs.Tree.{Script}
use Rattle.hushlang.specs.TreesShown as view
use Rattle.hushlang.specs.declared.tree.Script.{Script as Code}
use Rattle.hushlang_shells.specs.TreesByShell as read
use Rattle.rehearse_terms.specs.declared.shell.Shell.{Shell}
use Rattle.bootstore_state.specs.ScriptCode.{coded_read}
use Rattle.bootstore_state.specs.declared.scripts.Runner.{Runner}
use Rattle.bootstore_state.specs.declared.scripts.Runner.TheVariants as run
use Rattle.bootstore_state.specs.declared.scripts.TextFound.{TextFound}
use Rattle.bootstore_state.specs.declared.scripts.TextFound.TheVariants as found

-- the most bytes of texts whose scripts are kept at one time
abbrev pub most_kept : ℕ
most_kept = 262144

-- the script that is shared
abbrev pub script_shown : Rc Code Global → Script
script_shown shared = view.script shared.value

-- what becomes of a text that this command runs
abbrev pub read_as : Runner → Shell → List ℕ → read.TextRead
read_as run.Run = read.started_in
read_as run.Source = read.sourced_in

-- each script is that of its text, for this command and in this shell
abbrev pub AreOfTexts : Runner → Shell → List (Vec ℕ Global × Rc Code Global) → Type 0
AreOfTexts runner shell kept = All (λ e. read_as runner shell e.0.items ≡ read.Runs (script_shown e.1)) kept

-- (a fact with at most one proof, as a field of a type has to be)
pub one_proof : (runner : Runner) (shell : Shell) (kept : List (Vec ℕ Global × Rc Code Global)) → IsProp (AreOfTexts runner shell kept)
one_proof runner shell kept p q = λ i k d below. Coded-set coded_read _ _ (p k d below) (q k d below) i

-- what becomes of the text of a variable that `run` starts, or of a file that `source` runs; none if the variable is not set
abbrev pub text_found : TextFound → Option read.TextRead
text_found found.Unset = None
text_found (found.Script script) = Some (read.Runs (script_shown script))
text_found found.Fails = Some read.Fails
text_found found.Panics = Some read.Panics
text_found found.Unread = Some read.Unread
