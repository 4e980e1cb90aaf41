-- What each kind of command and each part of a script reads and writes, computed from the script's text.
use Rattle.std.proofs.Common.{◌≡◌, refl, true, false, List, [], ◌∷◌, length, map, Some, None, codes}
use Rattle.std.specs.Fmt.{digits}
use Rattle.hushlang.specs.Expansion.{fields, joined, atoms}
use Rattle.hushlang.specs.Trees.{tree_of}
use Rattle.hushlang_old.specs.OldTrees.{has_fault, lacks_end, old_tree_of}
use Rattle.hushlang_old.specs.Defaults.{variable_of, behind_variable}
use Rattle.hushlang_old.specs.OldFields.{old_fields, old_turns, inserted, word_text, command_text, read, reread}
use Rattle.hushlang_modern.specs.ModernFields.{expanded, modern_fields}
use Rattle.hushlang_modern.specs.ModernTrees.{modern_text}
use Rattle.hushlang_shells.specs.TreesByShell.{TextRead, Runs, Fails, Panics, Unread, first_in}
use Rattle.device_list.specs.DeviceList.{FileText, Variable, Literal, CopyOf, Devices, only}
use Rattle.device_list.specs.DeviceLaws.{quiet}
use Rattle.rehearse_terms.specs.Outcomes.{OutcomeWord, Success, Failure}
use Rattle.rehearse_terms.specs.State.{Text, Variables, State, LoggedCommand, start}
use Rattle.rehearse_terms.specs.declared.written.Written.TheVariants.{Kept}
use Rattle.rehearse_terms.specs.declared.shell.Shell.{Shell}
use Rattle.rehearse_terms.specs.declared.shell.Shell.TheVariants.{Profile, Old2023, Old2025, Modern2025}
use Rattle.rehearse_rules.specs.Execution.{Limits}
use Rattle.rehearse_reads.specs.Keys.{Key, Environment, Local, AnswerTo, Succeeded, Status, Access, Reads, Writes, keys_in_front, keys_read}
use Rattle.rehearse_reads.specs.Accesses.{accesses}

-- ---- what they are computed with

-- a text that is no image
abbrev plain : Text → FileText
plain text = record { text = text; size = length text }

-- `load` is asked each time, `stay` once, `set` sets the variable b, `copy` sets b to a copy of a, `file` runs a file, and `boot` needs `load`
abbrev devices : Devices
devices = record (only ((codes "load", quiet) ∷ (codes "stay", record quiet { stays = true })
    ∷ (codes "set", record quiet { sets = (Variable (codes "b"), Literal (codes "1")) ∷ [] })
    ∷ (codes "copy", record quiet { sets = (Variable (codes "b"), CopyOf (codes "a")) ∷ [] })
    ∷ (codes "file", record quiet { runs = codes "boot.scr" ∷ [] }) ∷ (codes "none", record quiet { runs = codes "none" ∷ [] }) ∷ (codes "left", record quiet { runs = codes "left.scr" ∷ [] }) ∷ [])) {
      calls = (codes "boot", (record { words = []; more = true }, record quiet { needs = codes "load" ∷ [] }) ∷ []) ∷ [];
      known = codes "env" ∷ [];
      files = (codes "boot.scr", plain (codes "echo $a")) ∷ (codes "left.scr", plain (codes "exit 2")) ∷ [];
    }

abbrev limits : Shell → Limits
limits shell = record { devices = devices; device_bound = 4; step_bound = 20; shell = shell; room = None }

-- the variable a is set, and so is x, whose text is `true`
abbrev variables : Variables
variables = (codes "a", codes "1") ∷ (codes "x", codes "true") ∷ []

abbrev before : OutcomeWord → State
before word = start Kept variables word

-- what a text reads and writes in a shell, from a state
unfoldable reached_in : Shell → State → Text → List Access
unfolding tree_of old_tree_of has_fault lacks_end fields joined atoms digits old_fields old_turns inserted variable_of behind_variable word_text command_text read reread modern_text modern_fields expanded
reached_in shell s text = elim (first_in shell text) [ Runs t ↦ accesses (limits shell) 5 t s | Fails ↦ [] | Panics ↦ [] | Unread ↦ [] ]

-- with a word of successes, in ubtool's own shell
abbrev reached : Text → List Access
reached text = reached_in Profile (before (Success ∷ Success ∷ Success ∷ [])) text

-- ---- words

abbrev a : Key
a = Environment (codes "a")

abbrev b : Key
b = Environment (codes "b")

variable_that_is_set : reached (codes "echo $a") ≡ Reads a ∷ Writes Status ∷ []
unfolding reached_in
variable_that_is_set = refl

-- that it is not set in the environment is read too, and then the shell variable
variable_that_is_not : reached (codes "echo \"$b\"") ≡ Reads b ∷ Reads (Local (codes "b")) ∷ Writes Status ∷ []
unfolding reached_in
variable_that_is_not = refl

status_in_a_word : reached (codes "echo $?") ≡ Reads Status ∷ Writes Status ∷ []
unfolding reached_in
status_in_a_word = refl

words_without_a_variable : reached (codes "echo a 'b c'") ≡ Writes Status ∷ []
unfolding reached_in
words_without_a_variable = refl

-- ---- commands that change variables

assignment : reached (codes "y=$a") ≡ Reads a ∷ Writes (Local (codes "y")) ∷ Writes Status ∷ []
unfolding reached_in
assignment = refl

setting : reached (codes "setenv b 1") ≡ Writes b ∷ Writes Status ∷ []
unfolding reached_in
setting = refl

deleting : reached (codes "setenv b") ≡ Writes b ∷ Writes Status ∷ []
unfolding reached_in
deleting = refl

bad_name : reached (codes "setenv -f 1") ≡ Writes Status ∷ []
unfolding reached_in
bad_name = refl

is_it_set : reached (codes "env exists b") ≡ Reads b ∷ Writes Status ∷ []
unfolding reached_in
is_it_set = refl

-- the status says whether it was set
deleting_by_env : reached (codes "env delete a b") ≡ Reads a ∷ Writes a ∷ Reads b ∷ Writes b ∷ Writes Status ∷ []
unfolding reached_in
deleting_by_env = refl

-- ---- texts of variables

-- the text, and the status with which it ended
text_that_runs : reached (codes "run x") ≡ Reads (Environment (codes "x")) ∷ Writes Status ∷ Reads Status ∷ []
unfolding reached_in
text_that_runs = refl

-- a shell variable of the name is not read
text_that_is_not_there : reached (codes "run b") ≡ Reads b ∷ Writes Status ∷ []
unfolding reached_in
text_that_is_not_there = refl

second_text : reached (codes "run x b") ≡ Reads (Environment (codes "x")) ∷ Writes Status ∷ Reads Status ∷ Reads b ∷ Writes Status ∷ []
unfolding reached_in
second_text = refl

-- ---- device commands

asked_each_time : reached (codes "load a") ≡ Writes Status ∷ []
unfolding reached_in
asked_each_time = refl

-- one whose answer stays reads that it has none
asked_once : reached (codes "stay a") ≡ Reads (AnswerTo (codes "stay" ∷ codes "a" ∷ [])) ∷ Writes Status ∷ []
unfolding reached_in
asked_once = refl

-- without an outcome it reads that, too
no_outcome_left : reached_in Profile (before []) (codes "stay a; echo $a") ≡ Reads (AnswerTo (codes "stay" ∷ codes "a" ∷ [])) ∷ []
unfolding reached_in
no_outcome_left = refl

-- or the answer that it has
abbrev logged : LoggedCommand
logged = record { success = false; words = codes "stay" ∷ []; stays = true; again = false }

told_again : reached_in Profile (record (before []) { log = logged ∷ [] }) (codes "stay") ≡ Reads (AnswerTo (codes "stay" ∷ [])) ∷ Writes Status ∷ []
unfolding reached_in
told_again = refl

-- one that needs a call reads whether that one has succeeded, and then it fails or is asked
needs_a_call : reached (codes "boot; load a; boot") ≡ Reads (Succeeded (codes "load" ∷ [])) ∷ Writes Status ∷ Writes Status ∷ Reads (Succeeded (codes "load" ∷ [])) ∷ Writes Status ∷ []
unfolding reached_in
needs_a_call = refl

sets_on_success : reached (codes "set") ≡ Writes Status ∷ Writes b ∷ []
unfolding reached_in
sets_on_success = refl

-- a copy is read whatever the outcome is
reads_what_it_copies : reached (codes "copy") ≡ Reads a ∷ Writes Status ∷ Writes b ∷ []
unfolding reached_in
reads_what_it_copies = refl

reads_it_on_failure : reached_in Profile (before (Failure ∷ [])) (codes "copy") ≡ Reads a ∷ Writes Status ∷ []
unfolding reached_in
reads_it_on_failure = refl

sets_nothing_on_failure : reached_in Profile (before (Failure ∷ [])) (codes "set") ≡ Writes Status ∷ []
unfolding reached_in
sets_nothing_on_failure = refl

-- ---- texts of files

-- the status before the command, that of the command, the text with the one before, and the status with which it ended; no variable is
-- read for the text
file_that_runs : reached (codes "file") ≡ Reads Status ∷ Writes Status ∷ Reads Status ∷ Writes Status ∷ Reads a ∷ Writes Status ∷ Reads Status ∷ []
unfolding reached_in
file_that_runs = refl

-- an `exit` in the text of a file reads the status in the modern shell alone, where the run ends with it
file_that_is_left : map (λ shell. reached_in shell (before (Success ∷ [])) (codes "left")) (Old2025 ∷ Modern2025 ∷ [])
    ≡ (Reads Status ∷ Writes Status ∷ Reads Status ∷ Writes Status ∷ Writes Status ∷ Reads Status ∷ []) ∷ (Reads Status ∷ Writes Status ∷ Reads Status ∷ Writes Status ∷ Writes Status ∷ Reads Status ∷ []) ∷ []
unfolding reached_in
file_that_is_left = refl

file_after_a_failure : reached_in Profile (before (Failure ∷ [])) (codes "file") ≡ Reads Status ∷ Writes Status ∷ Reads Status ∷ []
unfolding reached_in
file_after_a_failure = refl

file_without_an_outcome : reached_in Profile (before []) (codes "file") ≡ []
unfolding reached_in
file_without_an_outcome = refl

file_that_is_not_there : reached (codes "none") ≡ Reads Status ∷ Writes Status ∷ Reads Status ∷ Writes Status ∷ Writes Status ∷ []
unfolding reached_in
file_that_is_not_there = refl

-- ---- where the status decides

and_or : reached (codes "true && true || true") ≡ Writes Status ∷ Reads Status ∷ Writes Status ∷ Reads Status ∷ []
unfolding reached_in
and_or = refl

condition : reached (codes "if true; then echo $a; fi") ≡ Writes Status ∷ Reads Status ∷ Reads a ∷ Writes Status ∷ []
unfolding reached_in
condition = refl

-- a block that is not run reads nothing
block_not_run : reached (codes "if false; then echo $a; fi") ≡ Writes Status ∷ Reads Status ∷ Writes Status ∷ []
unfolding reached_in
block_not_run = refl

loop : reached (codes "until true; do echo $a; done") ≡ Writes Status ∷ Reads Status ∷ Writes Status ∷ []
unfolding reached_in
loop = refl

turns_of_a_for : reached (codes "for i in 1 $a; do true; done") ≡ Reads a ∷ Writes (Local (codes "i")) ∷ Writes Status ∷ Writes (Local (codes "i")) ∷ Writes Status ∷ []
unfolding reached_in
turns_of_a_for = refl

for_without_a_field : reached (codes "for i in $b; do true; done") ≡ Reads b ∷ Reads (Local (codes "b")) ∷ Writes Status ∷ []
unfolding reached_in
for_without_a_field = refl

-- ---- in each shell

abbrev in_each : Text → List (List Access)
in_each text = map (λ shell. reached_in shell (before []) text) (Profile ∷ Old2023 ∷ Old2025 ∷ [])

-- the status of no command is that of before in U-Boot's shells
words_of_nothing : in_each (codes "$b") ≡ (Reads b ∷ Reads (Local (codes "b")) ∷ Writes Status ∷ []) ∷ (Reads b ∷ Reads (Local (codes "b")) ∷ []) ∷ (Reads b ∷ Reads (Local (codes "b")) ∷ []) ∷ []
unfolding reached_in
words_of_nothing = refl

-- in braces the old shell reads the variable in front of a `:`
default : map (λ shell. reached_in shell (before []) (codes "echo ${a:-b}")) (Old2023 ∷ Old2025 ∷ [])
    ≡ (Reads (Environment (codes "a:-b")) ∷ Reads (Local (codes "a:-b")) ∷ Reads a ∷ Writes Status ∷ [])
    ∷ (Reads (Environment (codes "a:-b")) ∷ Reads (Local (codes "a:-b")) ∷ Reads a ∷ Writes Status ∷ []) ∷ []
unfolding reached_in
default = refl

-- in 2023.01 a shell variable that is assigned an empty value stays as it is
empty_value : in_each (codes "y=") ≡ (Writes (Local (codes "y")) ∷ Writes Status ∷ []) ∷ (Writes Status ∷ []) ∷ (Writes (Local (codes "y")) ∷ Writes Status ∷ []) ∷ []
unfolding reached_in
empty_value = refl

-- ---- what is read before it is written

written_first : keys_read (reached (codes "setenv b 1; echo $a $b $?")) ≡ a ∷ []
unfolding reached_in
written_first = refl

read_first : keys_read (reached (codes "echo $a; setenv a 2; echo $a")) ≡ a ∷ []
unfolding reached_in
read_first = refl

-- a shell variable is after that of the environment, which is read all the same
shell_variable_written : keys_read (reached (codes "b=1; echo $b")) ≡ b ∷ []
unfolding reached_in
shell_variable_written = refl

other_call : keys_read (reached (codes "stay a; stay b")) ≡ AnswerTo (codes "stay" ∷ codes "a" ∷ []) ∷ AnswerTo (codes "stay" ∷ codes "b" ∷ []) ∷ []
unfolding reached_in
other_call = refl

status_of_before : keys_read (reached (codes "echo $?; true && true")) ≡ Status ∷ []
unfolding reached_in
status_of_before = refl

-- what is known after a stretch need not be known before it if the stretch writes it
in_front_of_more : keys_in_front (reached (codes "setenv b $a")) (b ∷ Local (codes "i") ∷ []) ≡ a ∷ Local (codes "i") ∷ []
unfolding reached_in
in_front_of_more = refl
