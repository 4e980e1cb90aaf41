-- An upper bound of the moves to the next step or to the end. Ours.
use Rattle.std.specs.Prelude.{ℕ, suc, ◌+◌, List, [], ◌∷◌, Option, Some, None}
use Rattle.hushlang.specs.Tree as tree
use Rattle.hushlang.specs.Tree.{Script, AndOr, Joined, Command, Arms}
use Rattle.hushlang_shells.specs.TreesByShell.{TextRead, Runs, Fails, Panics, Unread, started_in, sourced_in}
use Rattle.device_list.specs.DeviceList.{file_in}
use Rattle.rehearse_terms.specs.State.{Text, Variables, get}
use Rattle.rehearse_terms.specs.declared.shell.Shell.{Shell}
use Rattle.rehearse_rules.specs.Execution.{choice_text, Limits}
use Rattle.rehearse_machine.specs.Frames.{ChosenFile, Frame, Lists, Linked, IfCondition, LoopCondition, LoopBody, ForBody, RunNames, RunText, CommandEnd, RunFile, FileText}

-- how many moves lead from a command to the first step in it
abbrev mutual
  pub command_depth : Command → ℕ
  command_depth (tree.Simple words) = 0
  command_depth (tree.Assign pairs) = 0
  command_depth (tree.If arms) = arms_depth arms
  command_depth (tree.Loop until c b) = script_depth c
  command_depth (tree.For name words body) = 0

  pub arms_depth : Arms → ℕ
  arms_depth (tree.Arm c b arms) = script_depth c
  arms_depth (tree.Else b) = 0
  arms_depth tree.NoElse = 0

  pub script_depth : Script → ℕ
  script_depth tree.Empty = 0
  script_depth (tree.Runs l ls) = suc (list_depth l)

  pub list_depth : AndOr → ℕ
  list_depth (tree.Starts c links) = command_depth c

-- an upper bound of the moves to a step or to the end, if m is one for what is below
abbrev pub block_weight : Script → ℕ → ℕ
block_weight tree.Empty m = suc m
block_weight (tree.Runs l ls) m = suc (list_depth l)

abbrev pub links_weight : Joined → ℕ → ℕ
links_weight tree.Alone m = suc m
links_weight (tree.Joins op c links) m = suc (command_depth c + links_weight links m)

abbrev pub arms_weight : Arms → ℕ → ℕ
arms_weight (tree.Arm c b arms) m = block_weight c m
arms_weight (tree.Else b) m = block_weight b (suc m)
arms_weight tree.NoElse m = m

abbrev pub for_weight : Script → List Text → ℕ → ℕ
for_weight body [] m = suc m
for_weight body (f ∷ values) m = suc (block_weight body (for_weight body values m))

abbrev pub read_weight : TextRead → ℕ → ℕ → ℕ
read_weight (Runs tree.Empty) x m = suc x
read_weight (Runs (tree.Runs l ls)) x m = suc (list_depth l)
read_weight Fails x m = m
read_weight Panics x m = 0
read_weight Unread x m = 0

abbrev pub text_weight : Shell → Option Text → ℕ → ℕ → ℕ
text_weight shell None x m = m
text_weight shell (Some text) x m = read_weight (started_in shell text) x m

abbrev pub file_weight : Shell → Option Text → ℕ → ℕ
file_weight shell None m = m
file_weight shell (Some text) m = read_weight (sourced_in shell text) (suc m) m

abbrev pub names_weight : Shell → Variables → List Text → ℕ → ℕ
names_weight shell environment [] m = m
names_weight shell environment (name ∷ names) m =
    text_weight shell (get environment name) (suc (names_weight shell environment names m + m)) m

-- one of these files, which the question is after
abbrev pub one_weight : Limits → (name : Text) → (others : List Text) → ℕ → ℕ
one_weight limits name [] m = file_weight limits.shell (file_in limits.devices name) m
one_weight limits name (other ∷ others) m =
    let behind = suc (file_weight limits.shell (file_in limits.devices name) m + one_weight limits other others m) in
    read_weight (started_in limits.shell (choice_text name)) behind behind

abbrev pub frame_weight : Limits → Variables → Frame → ℕ → ℕ
frame_weight limits environment (Lists lists) m = block_weight lists m
frame_weight limits environment (Linked links) m = links_weight links m
frame_weight limits environment (IfCondition b arms) m = suc (block_weight b (suc m) + arms_weight arms m)
frame_weight limits environment (LoopCondition until c b last) m = suc (block_weight b (suc (block_weight c m)) + m)
frame_weight limits environment (LoopBody until c b) m = suc (block_weight c m)
frame_weight limits environment (ForBody name values body) m = for_weight body values m
frame_weight limits environment (RunNames names) m = suc (names_weight limits.shell environment names m)
frame_weight limits environment (RunText names) m = suc (names_weight limits.shell environment names m + m)
frame_weight limits environment (RunFile name others before) m = suc (one_weight limits name others m + m)
frame_weight limits environment (ChosenFile name other others before) m =
    suc (file_weight limits.shell (file_in limits.devices name) m + one_weight limits other others m)
frame_weight limits environment FileText m = suc m
frame_weight limits environment CommandEnd m = suc m

abbrev pub weight : Limits → Variables → List Frame → ℕ
weight limits environment [] = 0
weight limits environment (f ∷ fs) = frame_weight limits environment f (weight limits environment fs)
