-- What is found in the calls of a text: a command that the device list lacks, a name of `run` that is not followed, and a
-- call that may set variables whose names are not known; which variables the text reads, sets and deletes; and which files run
-- after its calls. Ours.
use Rattle.std.specs.Prelude.{◌||◌, ◌++◌, ℕ, Bool, true, false, not, List, [], ◌∷◌, map, filter, drop, Option, Some, None, Result, Ok, Err, codes, is_some, if◌then◌else◌}
use Rattle.std.specs.List.{flat_map, fold, list_any}
use Rattle.std.specs.Str.{bytes_eq}
use Rattle.hushlang.specs.CursorShown.{input_in}
use Rattle.hushlang.specs.Grammar.{is_word}
use Rattle.hushlang.specs.Token.{Token}
use Rattle.hushlang.specs.declared.token.SyntaxError.{SyntaxError}
use Rattle.hushlang.specs.Tree.{Script, Empty, Runs, AndOr, Starts, Joined, Alone, Joins, Command, Simple, Assign, If, Loop, For, Arms, NoElse, Else, Arm, Word, Bytes, Mark, Var, Status}
use Rattle.builtins.specs.Builtins.{is_built_in}
use Rattle.device_list.specs.DeviceList.{Devices, is_listed}
use Rattle.text.specs.Escapes.{word_form}
use Rattle.hushcheck.specs.CallSets.{Named, Sets, set_by_call}
use Rattle.hushcheck.specs.Names.{Text, is_run, read_by, written_out}
use Rattle.hushcheck.specs.Places.{lines_at}
use Rattle.hushcheck.specs.Rules.{Rules}
use Rattle.hushcheck.specs.WarningTexts.{warning_text}
use Rattle.hushcheck.specs.declared.warning.Warning.{Warning}

-- ---- what a device list lacks

-- a line of the list names the command, or has it computed
abbrev pub is_in_list : Devices → Text → Bool
is_in_list devices name = is_listed devices name || list_any (bytes_eq name) devices.known

-- The command is neither built in nor in the list. Without a list nothing is lacking.
abbrev pub is_lacking : Option Devices → Text → Bool
is_lacking None name = false
is_lacking (Some devices) name = not (is_built_in name || is_in_list devices name)

-- ---- how far a text is read

-- the place of each word of a text, from its tokens
abbrev pub word_places : List Token → List ℕ
word_places tokens = map (λ t. t.start) (filter is_word tokens)

-- what is reported of a word
pub data Remark : Type 0 where
  -- a name of `run` holds a variable
  NotFollowed : Remark
  -- the device list lacks a command
  Lacks : (name : Text) → Remark
  -- a call may set variables whose names are not known
  SetsMore : Remark
  -- nothing sets a variable that is read
  Unset : (name : Text) → Remark
  -- a shell of U-Boot reads something otherwise
  Warns : (warning : Warning) → Remark

-- a variable that a word reads, and the place of the word
abbrev pub Read : Type 0
Read = ℕ × Text

-- the device list, the places of the words that are left, what was found at which places, whether a command is lacking,
-- the variables that are read, those that are set and those that are deleted, and whether others may be set or deleted; and
-- the files whose texts run
pub record Reading : Type 0 where
  pub devices : Option Devices
  pub left : List ℕ
  pub found : List (ℕ × Remark)
  pub lacks : Bool
  pub reads : List Read
  pub sets : List Text
  pub deletes : List Text
  pub more : Bool
  pub files : List Text

-- the place of the next word
abbrev pub first_place : List ℕ → ℕ
first_place [] = 0
first_place (place ∷ places) = place

abbrev pub skip : ℕ → Reading → Reading
skip count r = record r { left = drop count r.left }

-- something is found at the next word
abbrev pub find : Remark → Reading → Reading
find what r = record r { found = r.found ++ (first_place r.left, what) ∷ [] }

-- ---- a word

-- the variables that it reads, at its place
abbrev pub reads_in : ℕ → Word → List Read
reads_in at [] = []
reads_in at (Var name split ∷ more) = (at, name) ∷ reads_in at more
reads_in at (Bytes bytes ∷ more) = reads_in at more
reads_in at (Mark ∷ more) = reads_in at more
reads_in at (Status ∷ more) = reads_in at more

-- the next word is passed, and what it reads is kept
abbrev pub after_word : Reading → Word → Reading
after_word r word = skip 1 (record r { reads = r.reads ++ reads_in (first_place r.left) word })

-- a name is set
abbrev pub set_name : Text → Reading → Reading
set_name name r = record r { sets = r.sets ++ name ∷ [] }

-- ---- the words of a call

-- a text that is not known runs, which may set and delete any variable
abbrev pub find_not_followed : Reading → Reading
find_not_followed r = record (find NotFollowed r) { more = true }

-- a name of `run`: it is followed if it is written out
abbrev pub after_operand : Reading → Word → Reading
after_operand r word = after_word (if is_some (written_out word) then r else find_not_followed r) word

abbrev pub find_lacking : Text → Reading → Reading
find_lacking name r = record (find (Lacks name) r) { lacks = true }

-- the first word of a call: the command, if it is written out
abbrev pub after_name : Reading → Option Text → Reading
after_name r None = r
after_name r (Some name) = if is_lacking r.devices name then find_lacking name r else r

-- the files of which the text of one runs after the call: each of them counts
abbrev pub after_files : List Text → Reading → Reading
after_files names r = record r { files = r.files ++ names }

-- what the call sets
abbrev pub after_set : Named → Reading → Reading
after_set n r = record (if n.more then find SetsMore r else r) { sets = r.sets ++ n.names; more = r.more || n.more }

-- what it deletes: of others nothing is reported
abbrev pub after_deleted : Named → Reading → Reading
after_deleted n r = record r { deletes = r.deletes ++ n.names; more = r.more || n.more }

-- what the call sets and deletes, and these files
abbrev pub after_sets : Sets → Reading → Reading
after_sets s r = after_files s.runs (after_deleted s.deletes (after_set s.sets r))

-- a call that is not of `run`
abbrev pub after_call : Reading → Word → List Word → Reading
after_call r word words =
    fold after_word
    (after_word (after_sets (set_by_call r.devices (written_out word) words) (after_name r (written_out word))) word) words

abbrev pub after_words : Reading → List Word → Reading
after_words r [] = r
after_words r (word ∷ words) =
    if is_run (written_out word) then fold after_operand (skip 1 r) words else after_call r word words

-- an assignment
abbrev pub after_value : Reading → Text × Word → Reading
after_value r value = after_word (set_name value.0 r) value.1

-- ---- the tree in the order of the text: each reserved word and each word of a `for` or of an assignment is one word

abbrev mutual
  pub after_script : Reading → Script → Reading
  after_script r Empty = r
  after_script r (Runs list more) = after_script (after_list r list) more

  pub after_list : Reading → AndOr → Reading
  after_list r (Starts first rest) = after_joined (after_command r first) rest

  pub after_joined : Reading → Joined → Reading
  after_joined r Alone = r
  after_joined r (Joins op command rest) = after_joined (after_command r command) rest

  pub after_command : Reading → Command → Reading
  after_command r (Simple words) = after_words r words
  after_command r (Assign values) = fold after_value r values
  -- `fi` is the last word
  after_command r (If arms) = skip 1 (after_arms r arms)
  -- `while` or `until`, the condition, `do`, the body, `done`
  after_command r (Loop until cond body) = skip 1 (after_script (skip 1 (after_script (skip 1 r) cond)) body)
  -- `for NAME in WORD..`, and `do`, the body, `done`
  after_command r (For name words body) =
      skip 1 (after_script (skip 1 (fold after_word (skip 3 (set_name name r)) words)) body)

  -- `if` or `elif`, the condition, `then`, the block; `else` and its block
  pub after_arms : Reading → Arms → Reading
  after_arms r NoElse = r
  after_arms r (Else body) = after_script (skip 1 r) body
  after_arms r (Arm cond body more) = after_arms (after_script (skip 1 (after_script (skip 1 r) cond)) body) more

abbrev pub after_arm : Reading → Script × Script → Reading
after_arm r arm = after_script (skip 1 (after_script (skip 1 r) arm.0)) arm.1

-- ---- a whole text

abbrev pub begun : Option Devices → (text : Text) → Reading
begun devices text = record {
  devices = devices;
  left = word_places (input_in text).tokens;
  found = [];
  lacks = false;
  reads = [];
  sets = [];
  deletes = [];
  more = false;
  files = [];
}

-- what is read of the script that a text is
abbrev pub calls_of : Option Devices → (text : Text) → Script → Reading
calls_of devices text script = after_script (begun devices text) script

-- ---- the files whose texts run after calls, in the order of the text

-- A text that is refused is not run. The list is asked for a call with what is written out of its words.
abbrev pub files_by_read : Option Devices → (text : Text) → Result Script SyntaxError → List Text
files_by_read devices text (Ok script) = (calls_of devices text script).files
files_by_read devices text (Err error) = []

abbrev pub files_by_text : Rules → (text : Text) → List Text
files_by_text rules text = files_by_read rules.devices text (read_by rules.shell text)

abbrev pub files_by_value : Rules → Option Text → List Text
files_by_value rules None = []
files_by_value rules (Some text) = files_by_text rules text

-- ---- the lines

abbrev pub remark_text : Remark → Text
remark_text NotFollowed = codes "note: not followed, since the name holds a variable"
remark_text (Lacks name) = codes "the device list lacks " ++ word_form name
remark_text SetsMore = codes "note: which variables this sets is not known"
remark_text (Unset name) = codes "warning: nothing sets " ++ word_form name
remark_text (Warns warning) = warning_text warning

-- the lines of a word
abbrev pub remark_lines : (name text : Text) → ℕ × Remark → Text
remark_lines name text found = lines_at name text found.0 (remark_text found.1)

-- the lines of all that was found, in the order of the text
abbrev pub found_lines : (name text : Text) → List (ℕ × Remark) → Text
found_lines name text found = flat_map (remark_lines name text) found
