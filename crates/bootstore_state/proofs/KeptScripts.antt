-- Scripts that are kept: what is found is the script of its text, and one more is kept.
use Rattle.std.proofs.Common.{◌≡◌, ℕ, Bool, true, false, cond, List, [], ◌∷◌, Option, Some, None, refl, sym, ap, ◌∙◌}
use Rattle.std.specs.declared.cmp.Ordering.{Ordering}
use Rattle.std.specs.declared.cmp.Ordering.TheVariants.{Less, Equal, Greater}
use Rattle.std.specs.Ordering.{match_ordering}
use Rattle.std.specs.Map.{lookup}
use Rattle.std.proofs.lemmas.List.Elements.{All-head, All-tail, All-cons}
use Rattle.std.specs.BTreeMap.{insert_entry}
use Rattle.std.specs.declared.alloc.Global.{Global}
use Rattle.std.specs.declared.rc.Rc.{Rc}
use Rattle.std.specs.declared.vec.Vec.{Vec}
use Rattle.hushlang.specs.declared.tree.Script.{Script as Code}
use Rattle.hushlang_shells.specs.TreesByShell.{TextRead, Runs}
use Rattle.rehearse_terms.specs.declared.shell.Shell.{Shell}
use Rattle.bootstore_state.specs.Moment.{Bytes}
use Rattle.bootstore_state.specs.Scripts.{AreOfTexts, read_as, script_shown}
use Rattle.bootstore_state.specs.declared.scripts.Runner.{Runner}
use Rattle.bootstore_state.specs.Table.{is_name}
use Rattle.bootstore_state.proofs.TableLemmas.{key_cmp, same_name, same_key}

abbrev Kept : Type 0
Kept = Vec ℕ Global × Rc Code Global

abbrev IsRight : Runner → Shell → Kept → Type 0
IsRight runner shell e = read_as runner shell e.0.items ≡ Runs (script_shown e.1)

-- what a look-up finds is the script of the text
pub script_found : (runner : Runner) (shell : Shell) (es : List Kept) (text : Bytes) (s : Rc Code Global) → AreOfTexts runner shell es → Some s ≡ lookup (is_name text) es → Runs (script_shown s) ≡ read_as runner shell text
script_found runner shell [] text s right found = absurd (let f = found in cc)
script_found runner shell (e ∷ es) text s right found = at (script_found runner shell es text s (All-tail (IsRight runner shell) e es right)) (is_name text e.0) refl found
  where
    at : (Some s ≡ lookup (is_name text) es → Runs (script_shown s) ≡ read_as runner shell text) → (b : Bool) → is_name text e.0 ≡ b → Some s ≡ cond b (Some e.1) (lookup (is_name text) es) → Runs (script_shown s) ≡ read_as runner shell text
    at rest true here f =
        ap (λ (o : Option (Rc Code Global)). elim o [ None ↦ Runs (script_shown s) | Some r ↦ Runs (script_shown r) ]) f
        ∙ sym (All-head (IsRight runner shell) e es right) ∙ ap (read_as runner shell) (sym (same_name text e.0.items here))
    at rest false here f = rest f

-- one more is kept
pub scripts_kept : (runner : Runner) (shell : Shell) (es : List Kept) (k : Vec ℕ Global) (s : Rc Code Global) → AreOfTexts runner shell es → IsRight runner shell (k, s) → AreOfTexts runner shell (insert_entry key_cmp es k s)
scripts_kept runner shell [] k s right one = All-cons (IsRight runner shell) (k, s) [] one right
scripts_kept runner shell (e ∷ es) k s right one = at (scripts_kept runner shell es k s (All-tail (IsRight runner shell) e es right) one) (key_cmp k e.0) refl
  where
    at : AreOfTexts runner shell (insert_entry key_cmp es k s) → (r : Ordering) → key_cmp k e.0 ≡ r
        → AreOfTexts runner shell (match_ordering r ((k, s) ∷ e ∷ es) ((e.0, s) ∷ es) (e ∷ insert_entry key_cmp es k s))
    at rest Less t = All-cons (IsRight runner shell) (k, s) (e ∷ es) one right
    at rest Equal t = All-cons (IsRight runner shell) (e.0, s) es (ap (read_as runner shell) (sym (same_key k.items e.0.items t)) ∙ one) (All-tail (IsRight runner shell) e es right)
    at rest Greater t = All-cons (IsRight runner shell) e (insert_entry key_cmp es k s) (All-head (IsRight runner shell) e es right) rest
