-- Worked examples, computed: frames that may be dropped, and frames that may not.
use Rattle.std.proofs.Common.{◌≡◌, refl, ℕ, false, [], ◌∷◌, codes}
use Rattle.hushlang.specs.Tree as tree
use Rattle.hushlang.specs.Tree.{Script}
use Rattle.bootstore_state.specs.Moment.{RunningFrame}
use Rattle.rehearse_machine.specs.Places.{place, moved_to, names_frame, text_frame, block_frame}
use Rattle.rehearse_machine.specs.EndedTexts.{lightened}

-- a text of one command, and a text of two lists
abbrev one : Script
one = tree.Runs (tree.Starts (tree.Simple []) tree.Alone) tree.Empty

abbrev two : Script
two = tree.Runs (tree.Starts (tree.Simple []) tree.Alone) one

-- a text at this command of this list
abbrev text_at : (list command : ℕ) → Script → RunningFrame
text_at list command script = moved_to (place list command 0 0) (text_frame script)

-- a `run` of one variable, that has begun it or not
abbrev begun : RunningFrame
begun = moved_to (place 0 0 1 0) (names_frame one (codes "a" ∷ []))

abbrev new : RunningFrame
new = names_frame one (codes "b" ∷ [])

abbrev ended : RunningFrame
ended = text_at 0 1 one

-- after the last command of the last list, and after the last list
two_ways_to_end : lightened (new ∷ text_at 1 1 two ∷ begun ∷ text_at 2 0 two ∷ begun ∷ ended ∷ begun ∷ [])
    ≡ new ∷ text_at 2 0 two ∷ begun ∷ ended ∷ begun ∷ []
two_ways_to_end = refl

-- what is below three of them stays
below_stays : lightened (new ∷ ended ∷ begun ∷ ended ∷ begun ∷ ended ∷ begun ∷ ended ∷ begun ∷ text_at 0 0 one ∷ [])
    ≡ new ∷ ended ∷ begun ∷ ended ∷ begun ∷ ended ∷ begun ∷ text_at 0 0 one ∷ []
below_stays = refl

-- ---- a `run` that is the last command in a block

-- an `if`, alone, and with a command after it
abbrev branch : Script
branch = tree.Runs (tree.Starts (tree.If (tree.Arm one one tree.NoElse)) tree.Alone) tree.Empty

abbrev branch_and_one : Script
branch_and_one = tree.Runs (tree.Starts (tree.If (tree.Arm one one tree.NoElse)) tree.Alone) one

abbrev loop : Script
loop = tree.Runs (tree.Starts (tree.Loop false one one) tree.Alone) tree.Empty

abbrev block_at : (list command : ℕ) → Script → RunningFrame
block_at list command script = moved_to (place list command 0 0) (block_frame script)

abbrev done : RunningFrame
done = block_at 0 1 one

-- in the last `if` of a text
in_an_if : lightened (new ∷ done ∷ text_at 0 1 branch ∷ begun ∷ ended ∷ begun ∷ done ∷ text_at 0 1 branch ∷ begun ∷ [])
    ≡ new ∷ ended ∷ begun ∷ done ∷ text_at 0 1 branch ∷ begun ∷ []
in_an_if = refl

-- in an `if` that is the last command of a block
in_nested_ifs : lightened (new ∷ done ∷ block_at 0 1 branch ∷ block_at 1 0 branch ∷ text_at 0 1 branch ∷ begun ∷ ended ∷ begun ∷ ended ∷ begun ∷ done ∷ [])
    ≡ new ∷ ended ∷ begun ∷ ended ∷ begun ∷ done ∷ []
in_nested_ifs = refl

-- the modern shell: the text is in the `if`, which is over
in_an_if_that_is_over : lightened (new ∷ done ∷ moved_to (place 0 0 2 1) (text_frame branch) ∷ begun ∷ ended ∷ begun ∷ ended ∷ begun ∷ []) ≡ new ∷ ended ∷ begun ∷ ended ∷ begun ∷ []
in_an_if_that_is_over = refl

-- a command after the `if`, in the old shell and in the modern one
command_behind_if : lightened (new ∷ done ∷ text_at 0 1 branch_and_one ∷ begun ∷ ended ∷ begun ∷ ended ∷ begun ∷ []) ≡ new ∷ done ∷ text_at 0 1 branch_and_one ∷ begun ∷ ended ∷ begun ∷ ended ∷ begun ∷ []
command_behind_if = refl

command_behind_if_that_is_over : lightened (new ∷ done ∷ moved_to (place 0 0 2 1) (text_frame branch_and_one) ∷ begun ∷ ended ∷ begun ∷ ended ∷ begun ∷ [])
    ≡ new ∷ done ∷ moved_to (place 0 0 2 1) (text_frame branch_and_one) ∷ begun ∷ ended ∷ begun ∷ ended ∷ begun ∷ []
command_behind_if_that_is_over = refl

-- a block that has a command left
command_left_in_block : lightened (new ∷ block_at 0 0 one ∷ text_at 0 1 branch ∷ begun ∷ ended ∷ begun ∷ ended ∷ begun ∷ []) ≡ new ∷ block_at 0 0 one ∷ text_at 0 1 branch ∷ begun ∷ ended ∷ begun ∷ ended ∷ begun ∷ []
command_left_in_block = refl

-- the body of a loop, whose condition comes next
in_a_loop : lightened (new ∷ done ∷ moved_to (place 0 0 2 0) (text_frame loop) ∷ begun ∷ ended ∷ begun ∷ ended ∷ begun ∷ []) ≡ new ∷ done ∷ moved_to (place 0 0 2 0) (text_frame loop) ∷ begun ∷ ended ∷ begun ∷ ended ∷ begun ∷ []
in_a_loop = refl

-- ---- what stays

-- two of them stay
two_stay : lightened (new ∷ ended ∷ begun ∷ ended ∷ begun ∷ []) ≡ new ∷ ended ∷ begun ∷ ended ∷ begun ∷ []
two_stay = refl

-- a text that has a command left stays, in its list or in another one
command_left : lightened (new ∷ ended ∷ begun ∷ text_at 0 0 one ∷ begun ∷ ended ∷ begun ∷ []) ≡ new ∷ ended ∷ begun ∷ text_at 0 0 one ∷ begun ∷ ended ∷ begun ∷ []
command_left = refl

list_left : lightened (new ∷ ended ∷ begun ∷ text_at 0 1 two ∷ begun ∷ ended ∷ begun ∷ []) ≡ new ∷ ended ∷ begun ∷ text_at 0 1 two ∷ begun ∷ ended ∷ begun ∷ []
list_left = refl

-- a `run` that has a name left stays
name_left : lightened (new ∷ ended ∷ moved_to (place 0 0 1 0) (names_frame one (codes "a" ∷ codes "b" ∷ [])) ∷ ended ∷ begun ∷ ended ∷ begun ∷ [])
    ≡ new ∷ ended ∷ moved_to (place 0 0 1 0) (names_frame one (codes "a" ∷ codes "b" ∷ [])) ∷ ended ∷ begun ∷ ended ∷ begun ∷ []
name_left = refl

-- without a `run` that begins nothing is dropped
none_begins : lightened (ended ∷ begun ∷ ended ∷ begun ∷ ended ∷ begun ∷ []) ≡ ended ∷ begun ∷ ended ∷ begun ∷ ended ∷ begun ∷ []
none_begins = refl
