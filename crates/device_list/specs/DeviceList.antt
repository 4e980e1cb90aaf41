-- The device list: which commands are device commands, and what each does on success. Ours.
use Rattle.std.specs.Prelude.{ℕ, ◌==◌, nat_eq, ◌||◌, ◌&&◌, ◌++◌, not, Bool, true, false, List, [], ◌∷◌, length, map, filter, take, Option, Some, None, is_some, option_map, Result, Ok, Err, codes, if◌then◌else◌}
use Rattle.std.specs.Str.{bytes_eq}
use Rattle.std.specs.List.{list_any, slice_split, starts_with}
use Rattle.std.specs.Map.{lookup, set_value}
use Rattle.text.specs.Bytes as ascii
use Rattle.text.specs.Lines.{numbered_lines}
use Rattle.text.specs.Words.{has_nul, is_equals, is_space, trimmed}
use Rattle.text.specs.Lines.{Text}
use Rattle.builtins.specs.Builtins.{is_built_in}
use Rattle.commands.specs.KnownCommands.{known_of}
use Rattle.commands.specs.Computed.{Computed, computes}
pub use Rattle.device_list.specs.Settings.{LeftSide, Variable, WordAt, LastWord, Imported, Saving, RightSide, Literal, ValueAt, LastValue, Deleted, CopyOf, Setting, Effect, is_variable, is_decimal, word_of_call, left_side, setting, settings}
pub use Rattle.device_list.specs.CallLines.{Pattern, Call, FileText, Files, first_fitting, word_alone, filled_line, further_lines, call_said, is_call}
use Rattle.device_list.specs.Finishes.{finish_named, first_finish}
use Rattle.device_list.specs.declared.finish.BoardEnd.{BoardEnd}
use Rattle.device_list.specs.declared.devices_error.DevicesError.{DevicesError}
use Rattle.device_list.specs.declared.devices_error.DevicesError.TheVariants.{BadLine, BuiltIn, ByteOrderMark}

-- effects by names of commands, or by the first words of the calls of one command
abbrev pub Effects : Type 0
Effects = List (Text × Effect)

abbrev pub effect_in : Effects → Text → Option Effect
effect_in effects name = lookup (bytes_eq name) effects

-- what a list says of commands by their names, what its `sub` lines say of the calls of a name, and what its lines of calls
-- say of those that fit a pattern; which commands are computed, each once, and whether the answers of `test -e` stay; of
-- which files it is asked whether they run; and the files that lines may name
pub record Devices : Type 0 where
  pub commands : Effects
  pub subs : List (Text × Effects)
  pub calls : List (Text × List (Pattern × Effect))
  pub known : List Text
  pub test_stays : Bool
  pub choices : List Text
  pub files : Files

-- what the lines of a name say, or its `sub` lines of a first word
abbrev pub effect_at : Devices → (name : Text) → (word : Option Text) → Option Effect
effect_at devices name None = effect_in devices.commands name
effect_at devices name (Some word) =
    elim (lookup (bytes_eq name) devices.subs) [ None ↦ None | Some effects ↦ effect_in effects word ]

abbrev pub sub_effect : Devices → (name : Text) → (words : List Text) → Option Effect
sub_effect devices name [] = None
sub_effect devices name (word ∷ words) = effect_at devices name (Some word)

-- what the lines of calls say of a call
abbrev pub call_effect : Devices → (name : Text) → (words : List Text) → Option Effect
call_effect devices name words =
    elim (lookup (bytes_eq name) devices.calls) [ None ↦ None | Some lines ↦ first_fitting lines words ]

-- what the other lines say: the `sub` lines of its first word, or else the lines of its name
abbrev pub line_effect : Devices → (name : Text) → (words : List Text) → Option Effect
line_effect devices name words =
    elim (sub_effect devices name words) [ Some effect ↦ Some effect | None ↦ effect_at devices name None ]

-- The first line of calls that fits decides for a call, or else its `sub` lines, or else the lines of its name; otherwise it
-- is not listed.
abbrev pub effect_of : Devices → (name : Text) → (words : List Text) → Option Effect
effect_of devices name words =
    elim (call_effect devices name words) [ Some effect ↦ Some effect | None ↦ line_effect devices name words ]

-- whether a failure is what is expected of a call with these words, its name first: only a line of calls can say so
abbrev pub fails_normally : Devices → (call : List Text) → Bool
fails_normally devices [] = false
fails_normally devices (name ∷ words) =
    elim (call_effect devices name words) [ Some effect ↦ effect.normal | None ↦ false ]

-- whether the answer of a call stays
abbrev pub stays_in : Devices → (name : Text) → (words : List Text) → Bool
stays_in devices name words = elim (effect_of devices name words) [ Some effect ↦ effect.stays | None ↦ false ]

-- a list asks at most so often which file runs
abbrev pub most_choices : ℕ
most_choices = 8

abbrev pub asked_about : Devices → List Text
asked_about devices = take most_choices devices.choices

-- whether a call asks which file runs, and its answer stays
abbrev pub is_choice : Devices → (call : List Text) → Bool
is_choice devices (name ∷ file ∷ []) = bytes_eq name (codes "runs")
    && (list_any (bytes_eq file) (asked_about devices) && stays_in devices (codes "runs") (file ∷ []))
is_choice devices [] = false
is_choice devices (name ∷ []) = false
is_choice devices (name ∷ file ∷ second ∷ words) = false

-- whether a success is what is expected of a call with these words, its name first; of a choice neither answer is
abbrev pub expected : Devices → (call : List Text) → Option Bool
expected devices call = if is_choice devices call then None else Some (not (fails_normally devices call))

-- the result of a call, if the list has its command computed and its words can be
abbrev pub computed_by : Devices → (name : Text) → (words : List Text) → Option Computed
computed_by devices name words =
    if list_any (bytes_eq name) devices.known
    then elim (known_of name) [ Some known ↦ computes known words | None ↦ None ] else None

-- the text of a file
abbrev pub file_in : Devices → (name : Text) → Option Text
file_in devices name = option_map (λ file. file.text) (lookup (bytes_eq name) devices.files)

-- whether a line names the command
abbrev pub is_listed : Devices → Text → Bool
is_listed devices name = is_some (effect_in devices.commands name)
    || (is_some (lookup (bytes_eq name) devices.subs) || is_some (lookup (bytes_eq name) devices.calls))

-- ---- the words of a line

-- Blanks around a line are dropped. Spaces and tabs separate words. A carriage return inside the line is a byte of its
-- word.
abbrev pub device_words : Text → List Text
device_words line = filter (λ word. not (length word == 0)) (slice_split is_space (trimmed line))

-- ---- what a line says

-- the name of a command; for a `sub` line the first word of its calls; how it ends the run, if it does; whether it is
-- steady; and the words after that
pub record Heading : Type 0 where
  pub name : Text
  pub word : Option Text
  pub ends : Option BoardEnd
  pub stays : Bool
  pub words : List Text

abbrev pub named : Option BoardEnd → (stays : Bool) → Text → List Text → Heading
named ends stays name words = record { name = name; word = None; ends = ends; stays = stays; words = words }

-- The first word is the name, unless it is `sub` and two words without `=` follow. Then these are the name and the
-- first word of its calls.
abbrev pub call_of : Option BoardEnd → (stays : Bool) → Text → List Text → Heading
call_of ends stays first [] = named ends stays first []
call_of ends stays first (second ∷ []) = named ends stays first (second ∷ [])
call_of ends stays first (second ∷ third ∷ words) =
    if bytes_eq first (codes "sub") && not (list_any is_equals second) && not (list_any is_equals third)
    then record { name = second; word = Some third; ends = ends; stays = stays; words = words }
    else named ends stays first (second ∷ third ∷ words)

-- A first word `steady` says that the rest is a steady command, if a word without `=` follows.
abbrev pub steady_of : Option BoardEnd → Text → List Text → Heading
steady_of ends first [] = named ends false first []
steady_of ends first (second ∷ words) =
    if bytes_eq first (codes "steady") && not (list_any is_equals second) then call_of ends true second words
    else call_of ends false first (second ∷ words)

-- A first word `final`, `restart` or `halt` says that the rest of the line is a command that ends the run so, if a word
-- without `=` follows. For a steady command it is in front of `steady`.
abbrev pub unless_setting : (second : Text) → Option BoardEnd → Option BoardEnd
unless_setting second None = None
unless_setting second (Some finish) = if list_any is_equals second then None else Some finish

abbrev pub finish_before : (first second : Text) → Option BoardEnd
finish_before first second = unless_setting second (finish_named first)

abbrev pub finishing : Option BoardEnd → Text → (second : Text) → List Text → Heading
finishing (Some finish) first second words = steady_of (Some finish) second words
finishing None first second words = steady_of None first (second ∷ words)

abbrev pub heading_of : Text → List Text → Heading
heading_of first [] = named None false first []
heading_of first (second ∷ words) = finishing (finish_before first second) first second words

-- one line of a command
pub record DeviceLine : Type 0 where
  pub name : Text
  pub word : Option Text
  pub effect : Effect

abbrev pub line_with : ℕ → Heading → Option (List Setting) → Result DeviceLine DevicesError
line_with number h None = Err (BadLine number)
line_with number h (Some sets) = if is_built_in h.name then Err (BuiltIn number)
    else Ok (record { name = h.name; word = h.word; effect = record { ends = h.ends; stays = h.stays; always = None; needs = []; normal = false; runs = []; sets = sets } })

-- a line with the first word of its calls is a `sub` line
abbrev pub line_of : ℕ → Heading → Result DeviceLine DevicesError
line_of number h = line_with number h (settings (is_some h.word) h.words)

abbrev pub begins_comment : Text → Bool
begins_comment [] = false
begins_comment (b ∷ bytes) = b == ascii.hash

-- ---- the list

-- a table after a change at a name; a name that is new goes last
abbrev pub changed_at : {V : Type 0} → (Option V → V) → List (Text × V) → Text → List (Text × V)
changed_at change [] name = (name, change None) ∷ []
changed_at change (e ∷ table) name = if bytes_eq name e.0 then (e.0, change (Some e.1)) ∷ table
    else e ∷ changed_at change table name

-- one more line: it ends the run as the first of the two says, and is steady if one of the two is, with the settings in
-- their order. (Lines that are joined say nothing of an answer that is always the same, of a call
-- that is needed, or of a failure that is expected.)
abbrev pub joint : Effect → Effect → Effect
joint before more = record {
  ends = first_finish before.ends more.ends;
  stays = before.stays || more.stays;
  always = before.always;
  needs = before.needs;
  normal = before.normal;
  runs = before.runs;
  sets = before.sets ++ more.sets;
}

abbrev pub joint_behind : Effect → Option Effect → Effect
joint_behind more None = more
joint_behind more (Some before) = joint before more

abbrev pub joined_in : Effects → Text → Effect → Effects
joined_in effects name more = changed_at (joint_behind more) effects name

abbrev pub joined_behind : (word : Text) → Effect → Option Effects → Effects
joined_behind word more None = joined_in [] word more
joined_behind word more (Some effects) = joined_in effects word more

abbrev pub joined_by : Devices → (name : Text) → Option Text → Effect → Devices
joined_by devices name None more = record devices { commands = joined_in devices.commands name more }
joined_by devices name (Some word) more =
    record devices { subs = changed_at (joined_behind word more) devices.subs name }

abbrev pub joined : Devices → DeviceLine → Devices
joined devices more = joined_by devices more.name more.word more.effect

abbrev pub with_line : Devices → Result DeviceLine DevicesError → Result Devices DevicesError
with_line devices (Ok more) = Ok (joined devices more)
with_line devices (Err fault) = Err fault

-- a line of calls goes after those of the same name
abbrev pub with_fitting : Call → Option (List (Pattern × Effect)) → List (Pattern × Effect)
with_fitting call None = (call.pattern, call.effect) ∷ []
with_fitting call (Some lines) = lines ++ (call.pattern, call.effect) ∷ []

abbrev pub with_call : Devices → Call → Devices
with_call devices call = record devices { calls = changed_at (with_fitting call) devices.calls call.name }

-- the table of calls with one more file at a name, and the file before, if a line `or` goes on from the last line
-- there
abbrev pub further_of : List (Text × List (Pattern × Effect)) → (name : Text) → (further : Pattern × Effect) →
    Option (List (Pattern × Effect)) → Option (List (Text × List (Pattern × Effect)) × Text)
further_of table name further None = None
further_of table name further (Some lines) =
    option_map (λ more. (set_value (bytes_eq name) table more.0, more.1)) (further_lines lines further)

abbrev pub further_in : List (Text × List (Pattern × Effect)) → Call → Option (List (Text × List (Pattern × Effect)) × Text)
further_in table call = further_of table call.name (call.pattern, call.effect) (lookup (bytes_eq call.name) table)

-- Which of the files runs is asked by a call of `runs` for each but the last, in their order, and the answer stays.
abbrev pub question_of : (file : Text) → Call
question_of file = record {
  name = codes "runs";
  pattern = word_alone file;
  effect = record { ends = None; stays = true; always = None; needs = []; normal = false; runs = []; sets = [] };
}

abbrev pub asking_of : Devices → (file : Text) → Devices
asking_of devices file = record devices { choices = devices.choices ++ file ∷ [] }

abbrev pub with_choice : Devices → (file : Text) → Devices
with_choice devices file = with_call (asking_of devices file) (question_of file)

abbrev pub goes_on : Devices → ℕ → Option (List (Text × List (Pattern × Effect)) × Text) → Result Devices DevicesError
goes_on devices number None = Err (BadLine number)
goes_on devices number (Some further) =
    if length devices.choices == most_choices then Err (BadLine number)
    else Ok (with_choice (record devices { calls = further.0 }) further.1)

abbrev pub with_or : Devices → ℕ → Call → Result Devices DevicesError
with_or devices number call = goes_on devices number (further_in devices.calls call)

-- the list after a line of calls, or after one of `or`
abbrev pub after_call : Devices → ℕ → (or : Bool) → Result Call DevicesError → Result Devices DevicesError
after_call devices number or (Err fault) = Err fault
after_call devices number or (Ok call) = if or then with_or devices number call else Ok (with_call devices call)

abbrev pub is_or : (first : Text) → Bool
is_or first = bytes_eq first (codes "or")

-- a line `known NAME`, if NAME may be computed
abbrev pub known_named : Text → List Text → Option Text
known_named first [] = None
known_named first (name ∷ []) =
    if bytes_eq first (codes "known") && is_some (known_of name) then Some name else None
known_named first (second ∷ third ∷ words) = None

-- a name is kept once
abbrev pub with_known : Devices → (name : Text) → Devices
with_known devices name =
    if list_any (bytes_eq name) devices.known then devices else record devices { known = devices.known ++ name ∷ [] }

-- a line that has a command computed, or the answers of `test -e` stay, or a line of a command
abbrev pub after_known : Devices → (known : Option Text) → (test : Bool) → Result DeviceLine DevicesError →
    Result Devices DevicesError
after_known devices (Some name) test line = Ok (with_known devices name)
after_known devices None true line = Ok (record devices { test_stays = true })
after_known devices None false line = with_line devices line

-- a line `steady test`
abbrev pub is_steady_test : Text → List Text → Bool
is_steady_test first [] = false
is_steady_test first (second ∷ []) = bytes_eq first (codes "steady") && bytes_eq second (codes "test")
is_steady_test first (second ∷ third ∷ words) = false

-- The list after the words of one more line, or the fault of that line. A line without a word, or one that starts with
-- `#`, says nothing.
abbrev pub after_words : Devices → ℕ → Text → List Text → Result Devices DevicesError
after_words devices number line [] = Ok devices
after_words devices number line (first ∷ words) =
    if begins_comment first then Ok devices
    else (if has_nul line then Err (BadLine number)
    else (if is_call first words then after_call devices number (is_or first) (call_said devices.files number line first words)
    else after_known devices (known_named first words) (is_steady_test first words)
    (line_of number (heading_of first words))))

abbrev pub after_line : Devices → ℕ → Text → Result Devices DevicesError
after_line devices number line = after_words devices number line (device_words line)

-- the lines one after another, up to the first faulty one
abbrev pub listed_lines : Devices → List (ℕ × Text) → Result Devices DevicesError
listed_lines devices [] = Ok devices
listed_lines devices (l ∷ lines) =
    elim (after_line devices l.0 l.1) [
      | Ok next ↦ listed_lines next lines
      | Err fault ↦ Err fault
    ]

-- only commands by their names
abbrev pub only : Effects → Devices
only commands = record { commands = commands; subs = []; calls = []; known = []; test_stays = false; choices = []; files = [] }

-- UTF-8's byte order mark, which some editors write in front of a text
abbrev pub byte_order_mark : Text
byte_order_mark = 239 ∷ 187 ∷ 191 ∷ []

abbrev pub is_marked : Text → Bool
is_marked text = starts_with nat_eq text byte_order_mark

-- no command, and the files that lines may name
abbrev pub with_files : Files → Devices
with_files files = record (only []) { files = files }

-- The commands that a device list names, or its first fault, if its lines may name these files. The mark would be part of the
-- first word.
abbrev pub listed_with : Files → Text → Result Devices DevicesError
listed_with files text =
    if is_marked text then Err ByteOrderMark else listed_lines (with_files files) (numbered_lines text)

-- the same without files
abbrev pub listed : Text → Result Devices DevicesError
listed text = listed_with [] text

-- ---- a list as if each of its lines said `steady`

-- An answer that is always the same stays in any case.
abbrev pub steady_effect : Effect → Effect
steady_effect effect = record effect { stays = not (is_some effect.always) }

abbrev pub steady_effect_if : Bool → Effect → Effect
steady_effect_if steady effect = if steady then steady_effect effect else effect

abbrev pub steady_effects : {K : Type 0} → List (K × Effect) → List (K × Effect)
steady_effects = map (λ e. (e.0, steady_effect e.1))

-- the same list, with each device command and `test -e` steady: each question has one answer in a run
abbrev pub all_steady : Devices → Devices
all_steady devices = record devices {
  commands = steady_effects devices.commands;
  subs = map (λ s. (s.0, steady_effects s.1)) devices.subs;
  calls = map (λ c. (c.0, steady_effects c.1)) devices.calls;
  test_stays = true;
}

abbrev pub steady_if : Bool → Devices → Devices
steady_if steady devices = if steady then all_steady devices else devices

-- ---- a list whose patterns name variables

abbrev pub filled_calls : (values : Text → Option Text) → List (Text × List (Pattern × Effect)) → List (Text × List (Pattern × Effect))
filled_calls values = map (λ c. (c.0, map (filled_line values) c.1))

-- the same list, with values in the places of the words that name variables
abbrev pub filled : (values : Text → Option Text) → Devices → Devices
filled values devices = record devices { calls = filled_calls values devices.calls }
