-- What the words of the command read that asks, and which reports may replace others, computed.
use Rattle.std.proofs.Common.{◌≡◌, refl, ℕ, [], ◌∷◌, Some, None, codes}
use Rattle.std.specs.Fmt.{digits}
use Rattle.hushlang.specs.Expansion.{fields, joined, atoms}
use Rattle.hushlang.specs.Tree as tree
use Rattle.hushlang.specs.Tree.{Script}
use Rattle.hushlang.specs.Trees.{tree_of}
use Rattle.bootstore_state.specs.Moment.{RunningFrame}
use Rattle.bootstore_state.specs.declared.frame.FrameKind.TheVariants.{Text}
use Rattle.hushlang_old.specs.Defaults.{behind_variable}
use Rattle.rehearse_terms.specs.State as terms
use Rattle.rehearse_terms.specs.State.{Memory, start}
use Rattle.rehearse_terms.specs.declared.written.Written.TheVariants.{Kept}
use Rattle.rehearse_reads.specs.Keys.{Key, Environment, Local, Status, Reads, Writes}
use Rattle.rehearse_reports.specs.Asked.{asked_by}
use Rattle.rehearse_reports.specs.Reports.{Reports, Adds}

-- ---- the command that asks

unfoldable script_of : terms.Text → Script
unfolding tree_of
script_of text = elim (tree_of text) [ None ↦ tree.Empty | Some t ↦ t ]

-- a text that has begun this many commands of its first list
unfoldable after : terms.Text → (begun : ℕ) → RunningFrame
unfolding script_of
after text begun = record { kind = Text; script = script_of text; words = []; place = record { list = 0; command = begun; turn = 0; last = 0 } }

-- `a` is set in the environment
abbrev memory : Memory
memory = (start Kept ((codes "a", codes "1") ∷ []) []).memory

abbrev a : Key
a = Environment (codes "a")

abbrev b : Key
b = Environment (codes "b")

-- the words of the command that has begun
words_are_read : asked_by memory (after (codes "load $a") 1 ∷ []) ≡ a ∷ []
unfolding after fields joined atoms digits behind_variable
words_are_read = refl

-- a variable that the environment does not have may be a shell variable
both_are_looked_up : asked_by memory (after (codes "load ${b}x") 1 ∷ []) ≡ b ∷ Local (codes "b") ∷ []
unfolding after fields joined atoms digits behind_variable
both_are_looked_up = refl

the_status_too : asked_by memory (after (codes "load $? $a") 1 ∷ []) ≡ Status ∷ a ∷ []
unfolding after fields joined atoms digits behind_variable
the_status_too = refl

-- of a list, the command before the place
second_of_a_list : asked_by memory (after (codes "load && load $a") 2 ∷ []) ≡ a ∷ []
unfolding after fields joined atoms digits behind_variable
second_of_a_list = refl

first_of_a_list : asked_by memory (after (codes "load && load $a") 1 ∷ []) ≡ []
unfolding after fields joined atoms digits behind_variable
first_of_a_list = refl

-- of the innermost frame alone
innermost : asked_by memory (after (codes "load") 1 ∷ after (codes "run $a") 1 ∷ []) ≡ []
unfolding after fields joined atoms digits behind_variable
innermost = refl

no_simple_command : asked_by memory (after (codes "if load $a; then load; fi") 1 ∷ []) ≡ []
unfolding after fields joined atoms digits behind_variable
no_simple_command = refl

no_frame : asked_by memory [] ≡ []
no_frame = refl

-- ---- reports

-- one that leaves out what is read may not be for it
left_out : Reports [] [] (Reads a ∷ []) → ⊥
left_out h = (h []).0

-- nor one that says of a key that it is written, if it is not
never_written : Reports [] (Writes a ∷ []) [] → ⊥
never_written h = (h (a ∷ [])).0

-- a key too many, or what is written left out, keeps keys that play no part
a_key_too_many : Adds [] (Reads a ∷ []) [] → ⊥
a_key_too_many h = (h.no_more []).0

a_write_left_out : Adds [] [] (Writes a ∷ []) → ⊥
a_write_left_out h = (h.no_more (a ∷ [])).0
