-- What is read and reported for a shell that is named, computed.
use Rattle.std.proofs.Common.{◌≡◌, true, false, [], ◌∷◌, Some, None, refl}
use Rattle.std.specs.Prelude.{codes}
use Rattle.hushlang.specs.Grammar.{reserved_of, assignment, name_in, name_of, is_in_word}
use Rattle.hushlang.specs.Tokenizing.{step, bare, dollar, braced, inside, front, word_front}
use Rattle.hushlang.specs.Words.{reserved}
use Rattle.hushlang.specs.WordPieces.{pieces}
use Rattle.hushlang.specs.Parsing.{whole, script, command, simple, keyword, next, behind, sees, expect, joined, joined_all, and_or, lists, lists_all, block, arm, arms, arms_all, if_command, body_of, loop_command, for_command, name, name_next, expect_in, in_next, all_words, separators, separator_next, closes_next, op_next, refusal, missing, at_last, word_next, assignment_next, assignments}
use Rattle.hushlang.specs.Expansion.{atoms, fields}
use Rattle.hushlang_old.specs.OldTrees.{old_tree_of, has_fault}
use Rattle.hushlang_modern.specs.ModernTrees.{modern_text}
use Rattle.hushcheck.specs.Calls.{Lacks, NotFollowed, Warns}
use Rattle.hushcheck.specs.Names.{run_by_text}
use Rattle.hushcheck.specs.WarningsByShell.{is_unread, told_by}
use Rattle.hushcheck.specs.declared.warning.Warning.TheVariants.{Exit, FileTest, ManyWords, MixedList, OptionOfSetenv, Parenthesis, ReservedName, StraightBehind, WordOfFor}
use Rattle.rehearse_terms.specs.declared.shell.Shell.TheVariants.{Profile, Old2023, Old2025, Modern2025}

-- ---- a text that is not followed: by no shell, by ubtool's own reading, and by a shell of U-Boot; and one that is followed

unread_none : is_unread None (codes "fi") ≡ false
unread_none = refl

unread_profile : is_unread (Some Profile) (codes "fi") ≡ false
unread_profile = refl

unread_old : is_unread (Some Old2023) (codes "if a; then b; fi fi") ≡ true
unfolding old_tree_of has_fault
unread_old = refl

unread_newer : is_unread (Some Old2025) (codes "a & b") ≡ true
unfolding old_tree_of has_fault
unread_newer = refl

unread_modern : is_unread (Some Modern2025) (codes "a | b") ≡ true
unfolding modern_text
unread_modern = refl

-- also one that the shell answers with a fault, and one by which it gives up
fault_in_modern : is_unread (Some Modern2025) (codes "echo ${a.b}") ≡ true
unfolding modern_text
fault_in_modern = refl

panic_in_modern : is_unread (Some Modern2025) (codes "fi") ≡ true
unfolding modern_text
panic_in_modern = refl

read_modern : is_unread (Some Modern2025) (codes "if a; then else b; fi") ≡ false
unfolding modern_text
read_modern = refl

read_old : is_unread (Some Old2023) (codes "if a; then else b; fi") ≡ false
unfolding old_tree_of
read_old = refl

-- ---- what a text runs that only an old shell reads

run_by_none : run_by_text None (codes "if a; then else run b; fi") ≡ []
unfolding whole script command simple keyword next behind sees expect joined joined_all and_or lists lists_all block arm arms arms_all if_command body_of loop_command for_command name name_next expect_in in_next all_words separators separator_next closes_next op_next refusal missing at_last word_next assignment_next assignments reserved_of reserved assignment name_in name_of is_in_word pieces step bare dollar braced inside front word_front
run_by_none = refl

run_by_old : run_by_text (Some Old2025) (codes "if a; then else run b; fi") ≡ codes "b" ∷ []
unfolding whole script command simple keyword next behind sees expect joined joined_all and_or lists lists_all block arm arms arms_all if_command body_of loop_command for_command name name_next expect_in in_next all_words separators separator_next closes_next op_next refusal missing at_last word_next assignment_next assignments reserved_of reserved assignment name_in name_of is_in_word pieces step bare dollar braced inside front word_front old_tree_of fields atoms
run_by_old = refl

-- ---- what is reported

told_none : told_by None ((0, Warns MixedList) ∷ (1, Warns Exit) ∷ []) ≡ (0, Warns MixedList) ∷ (1, Warns Exit) ∷ []
told_none = refl

told_profile : told_by (Some Profile) ((0, Warns MixedList) ∷ (1, Warns Exit) ∷ (2, NotFollowed) ∷ (3, Lacks (codes "a")) ∷ []) ≡ (2, NotFollowed) ∷ (3, Lacks (codes "a")) ∷ []
told_profile = refl

told_2023 : told_by (Some Old2023) ((0, Warns MixedList) ∷ (1, Warns Exit) ∷ (2, Warns WordOfFor) ∷ (3, Warns OptionOfSetenv) ∷ (4, Warns FileTest) ∷ (5, Warns ManyWords) ∷ []) ≡ (3, Warns OptionOfSetenv) ∷ (5, Warns ManyWords) ∷ []
told_2023 = refl

told_2025 : told_by (Some Old2025) ((0, Warns MixedList) ∷ (1, Warns Exit) ∷ (2, Warns ManyWords) ∷ (3, Warns ReservedName) ∷ (4, Warns StraightBehind) ∷ []) ≡ (3, Warns ReservedName) ∷ (4, Warns StraightBehind) ∷ []
told_2025 = refl

told_modern : told_by (Some Modern2025) ((0, Warns MixedList) ∷ (1, Warns Exit) ∷ (2, Warns ManyWords) ∷ (3, Warns OptionOfSetenv) ∷ (4, Warns Parenthesis) ∷ []) ≡ (3, Warns OptionOfSetenv) ∷ (4, Warns Parenthesis) ∷ []
told_modern = refl
