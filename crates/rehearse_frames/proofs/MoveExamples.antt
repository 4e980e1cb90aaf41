-- What single moves of the machine read and write, and what is to come after a device command, computed.
use Rattle.std.proofs.Common.{◌≡◌, refl, true, false, List, [], ◌∷◌, length, Some, None, codes}
use Rattle.std.specs.Fmt.{digits}
use Rattle.hushlang.specs.Expansion.{fields, joined, atoms}
use Rattle.hushlang.specs.Tree as tree
use Rattle.hushlang.specs.Tree.{Script}
use Rattle.hushlang.specs.Trees.{tree_of}
use Rattle.hushlang_old.specs.Defaults.{behind_variable}
use Rattle.device_list.specs.DeviceList.{Devices, only}
use Rattle.device_list.specs.Settings as known
use Rattle.device_list.specs.DeviceLaws.{quiet}
use Rattle.rehearse_terms.specs.Outcomes.{OutcomeWord, Success, Failure}
use Rattle.rehearse_terms.specs.State.{Text, State, LoggedCommand, start}
use Rattle.rehearse_terms.specs.declared.written.Written.TheVariants.{Kept}
use Rattle.rehearse_terms.specs.declared.shell.Shell.TheVariants.{Profile}
use Rattle.rehearse_rules.specs.Execution.{Limits, Request, request_of, set_status}
use Rattle.rehearse_machine.specs.Frames.{Frame, Lists, IfCondition, LoopCondition, LoopBody, ForBody, RunNames, RunText, RunFile, ChosenFile, FileText, Ask}
use Rattle.rehearse_reads.specs.Keys.{Key, Environment, Local, AnswerTo, Status, Access, Reads, Writes, keys_read}
use Rattle.rehearse_frames.specs.MoveAccesses.{of_move}
use Rattle.rehearse_frames.specs.ToCome.{of_next}

-- ---- what they are computed with

-- a text that is no image
abbrev plain : Text → known.FileText
plain text = record { text = text; size = length text }

abbrev devices : Devices
devices = record (only ((codes "load", quiet) ∷ (codes "stay", record quiet { stays = true }) ∷ [])) {
  files = (codes "boot.scr", plain (codes "echo $a")) ∷ (codes "empty", plain []) ∷ (codes "no script", plain (codes "fi")) ∷ [];
}

abbrev limits : Limits
limits = record { devices = devices; device_bound = 4; step_bound = 8; shell = Profile; room = None }

abbrev before : State
before = start Kept ((codes "a", codes "1") ∷ (codes "x", codes "true") ∷ []) []

unfoldable script_of : Text → Script
unfolding tree_of
script_of text = elim (tree_of text) [ None ↦ tree.Empty | Some t ↦ t ]

-- the move that begins a text, above these frames
unfoldable begins : Text → List Frame → State → List Access
unfolding script_of fields joined atoms digits behind_variable
begins text fs s = of_move limits (Lists (script_of text) ∷ fs) s

abbrev a : Key
a = Environment (codes "a")

abbrev b : Key
b = Environment (codes "b")

-- ---- moves

command_begins : begins (codes "echo $a; echo $b") [] before ≡ Reads a ∷ Writes Status ∷ []
unfolding begins
command_begins = refl

-- a device command that asks: its outcome is not one of the move
asks : begins (codes "load") [] before ≡ []
unfolding begins
asks = refl

asks_if_it_has_no_answer : begins (codes "stay") [] before ≡ Reads (AnswerTo (codes "stay" ∷ [])) ∷ []
unfolding begins
asks_if_it_has_no_answer = refl

abbrev logged : LoggedCommand
logged = record { success = true; words = codes "stay" ∷ []; stays = true; again = false }

told : begins (codes "stay") [] (record before { log = logged ∷ [] }) ≡ Reads (AnswerTo (codes "stay" ∷ [])) ∷ Writes Status ∷ []
unfolding begins
told = refl

-- an `if` and a loop begin without reading anything
if_begins : begins (codes "if echo $a; then true; fi") [] before ≡ []
unfolding begins
if_begins = refl

loop_begins : begins (codes "while echo $a; do true; done") [] before ≡ []
unfolding begins
loop_begins = refl

-- `exit` in the text of a `run`, and in the text that is rehearsed, whose status is the run's
exit_of_a_text : begins (codes "exit 3") (RunText [] ∷ []) before ≡ Writes Status ∷ Reads Status ∷ []
unfolding begins
exit_of_a_text = refl

-- with status 0 that `run` goes on, and reads the status itself
exit_with_status_0 : begins (codes "exit") (RunText [] ∷ []) before ≡ Writes Status ∷ []
unfolding begins
exit_with_status_0 = refl

exit_of_the_run : begins (codes "exit 3") [] before ≡ Writes Status ∷ Reads Status ∷ []
unfolding begins
exit_of_the_run = refl

end_of_the_run : of_move limits [] before ≡ Reads Status ∷ []
end_of_the_run = refl

block_follows : of_move limits (IfCondition tree.Empty tree.NoElse ∷ []) before ≡ Reads Status ∷ []
block_follows = refl

no_block_follows : of_move limits (IfCondition tree.Empty tree.NoElse ∷ []) (set_status 1 before) ≡ Reads Status ∷ Writes Status ∷ []
no_block_follows = refl

turn_follows : of_move limits (LoopCondition false tree.Empty tree.Empty 0 ∷ []) before ≡ Reads Status ∷ []
turn_follows = refl

loop_ends : of_move limits (LoopCondition true tree.Empty tree.Empty 0 ∷ []) before ≡ Reads Status ∷ Writes Status ∷ []
loop_ends = refl

-- the status of the body may be the loop's
body_ended : of_move limits (LoopBody false tree.Empty tree.Empty ∷ []) before ≡ Reads Status ∷ []
body_ended = refl

turn_of_a_for : of_move limits (ForBody (codes "i") (codes "1" ∷ []) tree.Empty ∷ []) before ≡ Writes (Local (codes "i")) ∷ []
turn_of_a_for = refl

for_ends : of_move limits (ForBody (codes "i") [] tree.Empty ∷ []) before ≡ []
for_ends = refl

run_begins : of_move limits (RunNames (codes "x" ∷ []) ∷ []) before ≡ Reads (Environment (codes "x")) ∷ []
unfolding tree_of
run_begins = refl

run_of_no_variable : of_move limits (RunNames (codes "b" ∷ []) ∷ []) before ≡ Reads b ∷ Writes Status ∷ []
run_of_no_variable = refl

next_text : of_move limits (RunText (codes "b" ∷ []) ∷ []) before ≡ Reads Status ∷ Reads b ∷ Writes Status ∷ []
next_text = refl

no_next_text : of_move limits (RunText (codes "b" ∷ []) ∷ []) (set_status 1 before) ≡ Reads Status ∷ []
no_next_text = refl

-- the text of a file begins after a success, which no variable is read for
file_begins : of_move limits (RunFile (codes "boot.scr") [] 1 ∷ []) before ≡ Reads Status ∷ Writes Status ∷ []
unfolding tree_of
file_begins = refl

empty_file_begins : of_move limits (RunFile (codes "empty") [] 1 ∷ []) before ≡ Reads Status ∷ Writes Status ∷ Writes Status ∷ []
unfolding tree_of
empty_file_begins = refl

no_script_begins : of_move limits (RunFile (codes "no script") [] 1 ∷ []) before ≡ Reads Status ∷ Writes Status ∷ []
unfolding tree_of
no_script_begins = refl

no_file_begins : of_move limits (RunFile (codes "none") [] 1 ∷ []) before ≡ Reads Status ∷ Writes Status ∷ Writes Status ∷ []
no_file_begins = refl

file_after_a_failure : of_move limits (RunFile (codes "boot.scr") [] 1 ∷ []) (set_status 1 before) ≡ Reads Status ∷ []
file_after_a_failure = refl

-- which of two it is, is asked first, with the status of the call
question_begins : of_move limits (RunFile (codes "boot.scr") (codes "empty" ∷ []) 1 ∷ []) before ≡ Reads Status ∷ []
unfolding tree_of
question_begins = refl

-- the answer is the status: the first of them begins, or the other
first_is_chosen : of_move limits (ChosenFile (codes "boot.scr") (codes "empty") [] 1 ∷ []) before ≡ Reads Status ∷ Writes Status ∷ []
unfolding tree_of
first_is_chosen = refl

other_is_chosen : of_move limits (ChosenFile (codes "boot.scr") (codes "empty") [] 1 ∷ []) (set_status 1 before) ≡ Reads Status ∷ Writes Status ∷ Writes Status ∷ []
unfolding tree_of
other_is_chosen = refl

file_ended : of_move limits (FileText ∷ []) before ≡ Reads Status ∷ []
file_ended = refl

-- `exit` in it, whose status is the call's, or the run's
exit_of_a_file : begins (codes "exit") (FileText ∷ []) before ≡ Writes Status ∷ Reads Status ∷ []
unfolding begins
exit_of_a_file = refl

-- ---- what is to come after a device command, with the value of b at the end

abbrev load : Request
load = request_of (codes "load") (codes "a" ∷ []) quiet

unfoldable to_come_of : Request → Text → OutcomeWord → List Key
unfolding script_of fields joined atoms digits behind_variable
to_come_of request text w = keys_read (of_next limits (codes "b" ∷ []) w (Ask request (Lists (script_of text) ∷ []) before))

abbrev to_come : Text → OutcomeWord → List Key
to_come text w = to_come_of load text w

-- the status is written by the outcome
status_is_dead : to_come (codes "echo $?") (Success ∷ []) ≡ b ∷ []
unfolding to_come_of
status_is_dead = refl

-- a value that is set is not read
set_before_the_end : to_come (codes "setenv b $a") (Success ∷ []) ≡ a ∷ []
unfolding to_come_of
set_before_the_end = refl

-- the text of a file comes before what follows, after a success alone; the status is kept for it
abbrev file_to_come : Text → OutcomeWord → List Key
file_to_come text w = to_come_of (record load { effect = record quiet { runs = codes "boot.scr" ∷ [] } }) text w

file_after_a_success : file_to_come (codes "setenv a 2") (Success ∷ []) ≡ Status ∷ a ∷ b ∷ []
unfolding to_come_of
file_after_a_success = refl

no_file_after_a_failure : file_to_come (codes "setenv a 2") (Failure ∷ []) ≡ Status ∷ b ∷ []
unfolding to_come_of
no_file_after_a_failure = refl

-- what follows a failure alone
after_a_failure : to_come (codes "if test $? = 0; then echo $a; fi") (Failure ∷ []) ≡ b ∷ []
unfolding to_come_of
after_a_failure = refl

after_a_success : to_come (codes "if test $? = 0; then echo $a; fi") (Success ∷ []) ≡ a ∷ b ∷ []
unfolding to_come_of
after_a_success = refl

-- without an outcome nothing is to come
no_outcome : to_come (codes "echo $a") [] ≡ []
unfolding to_come_of
no_outcome = refl
