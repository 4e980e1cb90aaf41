-- In each shell the trees of texts hold a command in each block.
use Rattle.std.proofs.Common.{◌≡◌, ℕ, Bool, true, false, not, ◌&&◌, if◌then◌else◌, List, Option, Some, None, option_map, refl, subst}
use Rattle.hushlang.specs.Tree as tree
use Rattle.hushlang.specs.Tree.{Script, IsProper}
use Rattle.hushlang.proofs.ProperLemmas.{trees_are_proper}
use Rattle.hushlang.specs.Trees.{tree_of}
use Rattle.hushlang_old.specs.OldTrees.{old_tree_of, has_fault}
use Rattle.hushlang_old.proofs.OldTreeLemmas.{old_trees_are_proper}
use Rattle.hushlang_modern.specs.ModernTrees as modern
use Rattle.hushlang_modern.specs.ModernTrees.{ModernText, modern_text}
use Rattle.hushlang_modern.specs.declared.stop.Stop.TheVariants as stop
use Rattle.hushlang_modern.proofs.ModernTreeLemmas.{modern_trees_are_proper}
use Rattle.hushlang_shells.specs.TreesByShell.{TextRead, Runs, Fails, Panics, Unread, script_or, modern_read, ends_open, empty_when, fails_when, is_empty, ends_empty, with_nothing, with_end, first_in, started_in, sourced_in}
use Rattle.rehearse_terms.specs.declared.shell.Shell.{Shell}
use Rattle.rehearse_terms.specs.declared.shell.Shell.TheVariants.{Profile, Old2023, Old2025, Modern2025}

-- what is run, if anything, holds a command in each block
abbrev pub MayRun : TextRead → Type 0
MayRun (Runs script) = IsProper script
MayRun Fails = Unit {0}
MayRun Panics = Unit {0}
MayRun Unread = Unit {0}

may_run_or : (otherwise : TextRead) → MayRun otherwise → (found : Option Script) → ((script : Script) → found ≡ Some script → IsProper script) → MayRun (script_or otherwise found)
may_run_or otherwise may None proper = may
may_run_or otherwise may (Some script) proper = proper script refl

may_run_empty : (ends : Bool) → MayRun (empty_when ends)
may_run_empty true = tt
may_run_empty false = tt

may_run_none : (fault : Bool) → MayRun (fails_when fault)
may_run_none true = tt
may_run_none false = tt

may_run_modern : (found : ModernText) → ((script : Script) → found ≡ modern.Read script → IsProper script) → MayRun (modern_read found)
may_run_modern (modern.Read script) proper = proper script refl
may_run_modern (modern.Unread stop.Fails) proper = tt
may_run_modern (modern.Unread stop.Panics) proper = tt
may_run_modern (modern.Unread stop.Unsupported) proper = tt

pub first_may_run : (shell : Shell) (text : List ℕ) → MayRun (first_in shell text)
first_may_run Profile text = may_run_or Unread tt (tree_of text) (trees_are_proper text)
first_may_run Old2023 text = may_run_or (empty_when (ends_open false text)) (may_run_empty (ends_open false text)) (old_tree_of false text) (old_trees_are_proper false text)
first_may_run Old2025 text = may_run_or (empty_when (ends_open true text)) (may_run_empty (ends_open true text)) (old_tree_of true text) (old_trees_are_proper true text)
first_may_run Modern2025 text = may_run_modern (modern_text text) (modern_trees_are_proper text)

pub started_may_run : (shell : Shell) (text : List ℕ) → MayRun (started_in shell text)
started_may_run Profile text = may_run_or Unread tt (tree_of text) (trees_are_proper text)
started_may_run Old2023 text = may_run_or (fails_when (has_fault false text)) (may_run_none (has_fault false text)) (old_tree_of false text) (old_trees_are_proper false text)
started_may_run Old2025 text = may_run_or (fails_when (has_fault true text)) (may_run_none (has_fault true text)) (old_tree_of true text) (old_trees_are_proper true text)
started_may_run Modern2025 text = may_run_modern (modern_text text) (modern_trees_are_proper text)

nothing_is_proper : (script : Script) → IsProper script → IsProper (with_nothing script)
nothing_is_proper tree.Empty proper = ((tt, tt), tt)
nothing_is_proper (tree.Runs list more) proper = (proper.0, nothing_is_proper more proper.1)

ended_is_proper : (ends : Bool) (script : Script) → IsProper script → IsProper (if ends then with_nothing script else script)
ended_is_proper true script proper = nothing_is_proper script proper
ended_is_proper false script proper = proper

end_is_proper : (newer : Bool) (text : List ℕ) (script : Script) → IsProper script → IsProper (with_end newer text script)
end_is_proper newer text script proper = ended_is_proper (not (is_empty script) && ends_empty newer text) script proper

may_run_ended : (newer : Bool) (text : List ℕ) (otherwise : TextRead) → MayRun otherwise → (found : Option Script) → ((script : Script) → found ≡ Some script → IsProper script) → MayRun (script_or otherwise (option_map (with_end newer text) found))
may_run_ended newer text otherwise may None proper = may
may_run_ended newer text otherwise may (Some script) proper = end_is_proper newer text script (proper script refl)

pub sourced_may_run : (shell : Shell) (text : List ℕ) → MayRun (sourced_in shell text)
sourced_may_run Profile text = may_run_or Unread tt (tree_of text) (trees_are_proper text)
sourced_may_run Old2023 text = may_run_ended false text (fails_when (ends_open false text)) (may_run_none (ends_open false text)) (old_tree_of false text) (old_trees_are_proper false text)
sourced_may_run Old2025 text = may_run_ended true text (fails_when (ends_open true text)) (may_run_none (ends_open true text)) (old_tree_of true text) (old_trees_are_proper true text)
sourced_may_run Modern2025 text = may_run_modern (modern_text text) (modern_trees_are_proper text)

pub first_texts_are_proper : (shell : Shell) (text : List ℕ) (script : Script) → first_in shell text ≡ Runs script → IsProper script
first_texts_are_proper shell text script e = subst MayRun e (first_may_run shell text)

pub started_texts_are_proper : (shell : Shell) (text : List ℕ) (script : Script) → started_in shell text ≡ Runs script → IsProper script
started_texts_are_proper shell text script e = subst MayRun e (started_may_run shell text)

pub sourced_texts_are_proper : (shell : Shell) (text : List ℕ) (script : Script) → sourced_in shell text ≡ Runs script → IsProper script
sourced_texts_are_proper shell text script e = subst MayRun e (sourced_may_run shell text)
