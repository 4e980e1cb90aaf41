-- Worked examples of texts that the shells read in their own ways, computed.
use Rattle.std.proofs.Common.{◌≡◌, ℕ, List, [], ◌∷◌, map, refl}
use Rattle.std.specs.Prelude.{codes}
use Rattle.hushlang.specs.Expansion.{fields, atoms}
use Rattle.hushlang.specs.Tree as tree
use Rattle.hushlang.specs.Tree.{AndOr, Arms}
use Rattle.hushlang.specs.TreesShown.{runs}
use Rattle.hushlang.specs.Trees.{tree_of}
use Rattle.hushlang_old.specs.OldTrees.{old_tree_of, has_fault, lacks_end}
use Rattle.hushlang_modern.specs.ModernTrees.{modern_text}
use Rattle.hushlang_shells.specs.TreesByShell.{TextRead, Runs, Fails, Panics, Unread, nothing, first_in, started_in, sourced_in}
use Rattle.rehearse_terms.specs.declared.shell.Shell.TheVariants.{Profile, Old2023, Old2025, Modern2025}

-- a text whose end is missing, and a name in braces with a byte that is in no name: these are faults of the modern shell that it reports.
-- By a reserved word that has no place, and by a word after a closed compound command, it gives up; and a single `|` is not followed
abbrev faulty : List (List ℕ)
faulty = codes "if true; then echo a" ∷ codes "echo \"a" ∷ codes "echo ${a.b}" ∷ codes "fi" ∷ codes "if true; then echo a; fi b" ∷ codes "a | b" ∷ []

faults : map (started_in Modern2025) faulty ≡ Fails ∷ Fails ∷ Fails ∷ Panics ∷ Panics ∷ Unread ∷ []
unfolding modern_text
faults = refl

first_faults : map (first_in Modern2025) faulty ≡ Fails ∷ Fails ∷ Fails ∷ Panics ∷ Panics ∷ Unread ∷ []
unfolding modern_text
first_faults = refl

-- in the old shells the text of `bootcmd` whose end is missing is run as an empty one, if it has no newline; and other faults of it are
-- not followed
abbrev faulty_in_old : List (List ℕ)
faulty_in_old = codes "if true; then echo a" ∷ codes "echo b\nif true; then echo a" ∷ codes "echo b; fi" ∷ []

old_faults : map (started_in Old2023) faulty_in_old ≡ Fails ∷ Fails ∷ Fails ∷ []
unfolding old_tree_of has_fault
old_faults = refl

old_first_faults : map (first_in Old2023) faulty_in_old ≡ Runs tree.Empty ∷ Unread ∷ Unread ∷ []
unfolding old_tree_of lacks_end
old_first_faults = refl

newer_first_faults : map (first_in Old2025) faulty_in_old ≡ Runs tree.Empty ∷ Unread ∷ Unread ∷ []
unfolding old_tree_of lacks_end
newer_first_faults = refl

-- a file whose text's end is missing fails, if it has no newline
old_sourced_faults : map (sourced_in Old2023) faulty_in_old ≡ Fails ∷ Unread ∷ Unread ∷ []
unfolding old_tree_of lacks_end
old_sourced_faults = refl

newer_sourced_faults : map (sourced_in Old2025) faulty_in_old ≡ Fails ∷ Unread ∷ Unread ∷ []
unfolding old_tree_of lacks_end
newer_sourced_faults = refl

sourced_faults : map (sourced_in Modern2025) faulty ≡ Fails ∷ Fails ∷ Fails ∷ Panics ∷ Panics ∷ Unread ∷ []
unfolding modern_text
sourced_faults = refl

-- In U-Boot's old shells the status of a file is that of its text's last line, and such a line gives 0 if it has no command. A newline
-- is added at the end of a text, unless its first newline is its last byte
abbrev bytes : List ℕ → tree.Word
bytes word = tree.Bytes word ∷ []

abbrev calls : List tree.Word → AndOr
calls words = tree.Starts (tree.Simple words) tree.Alone

abbrev false_alone : AndOr
false_alone = calls (bytes (codes "false") ∷ [])

abbrev echo_a : AndOr
echo_a = calls (bytes (codes "echo") ∷ bytes (codes "a") ∷ [])

abbrev false_by_newline : AndOr
false_by_newline = calls (bytes (codes "false") ∷ bytes (codes "\n") ∷ [])

abbrev arm_of_true : Arms
arm_of_true = tree.Arm (runs (calls (bytes (codes "true") ∷ []) ∷ [])) (runs (false_alone ∷ [])) tree.NoElse

abbrev if_true : AndOr
if_true = tree.Starts (tree.If arm_of_true) tree.Alone

abbrev run : List AndOr → TextRead
run lists = Runs (runs lists)

-- the last line has the last command
abbrev kept : List (List ℕ)
kept = codes "false" ∷ codes "false\n" ∷ codes "echo a\nfalse" ∷ codes "if true\nthen\nfalse\nfi" ∷ []

abbrev kept_trees : List TextRead
kept_trees = run (false_alone ∷ []) ∷ run (false_alone ∷ []) ∷ run (echo_a ∷ false_alone ∷ []) ∷ run (if_true ∷ []) ∷ []

sourced_kept : map (sourced_in Old2023) kept ≡ kept_trees
unfolding old_tree_of
sourced_kept = refl

newer_sourced_kept : map (sourced_in Old2025) kept ≡ kept_trees
unfolding old_tree_of fields atoms
newer_sourced_kept = refl

-- the last line has no command
abbrev ended : List (List ℕ)
ended = codes "echo a\nfalse\n" ∷ codes "if true\nthen\nfalse\nfi\n" ∷ codes "false\n# end" ∷ codes "false\n\n" ∷ codes "\nfalse\n" ∷ []

abbrev ended_trees : List TextRead
ended_trees =
    run (echo_a ∷ false_alone ∷ nothing ∷ []) ∷ run (if_true ∷ nothing ∷ []) ∷ run (false_alone ∷ nothing ∷ []) ∷ run (false_alone ∷ nothing ∷ [])
    ∷ run (false_alone ∷ nothing ∷ []) ∷ []

sourced_ended : map (sourced_in Old2023) ended ≡ ended_trees
unfolding old_tree_of
sourced_ended = refl

newer_sourced_ended : map (sourced_in Old2025) ended ≡ ended_trees
unfolding old_tree_of fields atoms
newer_sourced_ended = refl

-- a newline in quotes, and one straight after a backslash, ends no line; a backslash in a comment does not count. A text of blanks
-- has no command at all
abbrev odd : List (List ℕ)
odd = codes "echo \"a\n# b\"" ∷ codes "false # c\\\n\n" ∷ codes "false \\\n" ∷ codes "false \\\n\n" ∷ codes "echo a\nfalse \\\n" ∷ codes " \n\t\n" ∷ []

abbrev odd_trees : List TextRead
odd_trees =
    run (calls (bytes (codes "echo") ∷ (tree.Mark ∷ bytes (codes "a\n# b")) ∷ []) ∷ []) ∷ run (false_alone ∷ nothing ∷ []) ∷ run (false_by_newline ∷ [])
    ∷ run (false_by_newline ∷ nothing ∷ []) ∷ run (echo_a ∷ false_by_newline ∷ []) ∷ Runs tree.Empty ∷ []

sourced_odd : map (sourced_in Old2023) odd ≡ odd_trees
unfolding old_tree_of
sourced_odd = refl

newer_sourced_odd : map (sourced_in Old2025) odd ≡ odd_trees
unfolding old_tree_of fields atoms
newer_sourced_odd = refl

-- the modern shell reads a newline after `&&` as ubtool's own grammar does, and the old one otherwise
joined : started_in Modern2025 (codes "a &&\nb") ≡ started_in Profile (codes "a && b")
unfolding modern_text tree_of
joined = refl
