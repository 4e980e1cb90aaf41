-- What the words of a call ask for, from the subcommand and the entries that `clap` finds in them.
-- What the options mean is ours; `printenv` and `setenv` follow fw_printenv and fw_setenv, and the
-- configuration's default path is theirs (U-Boot, tools/env README).
use Rattle.std.specs.Prelude.{◌==◌, ◌&&◌, ◌||◌, is_some, ℕ, Bool, true, false, not, List, [], ◌∷◌, ◌++◌, length, Option, Some, None, Result, Ok, Err, codes, unwrap_or, option_map, ◌^◌, option_and_then, if◌then◌else◌, nat_le, nat_lt}
use Rattle.std.specs.List.{after_first, before_first, fold, list_any, position_or_len}
use Rattle.std.specs.Str.{bytes_eq}
use Rattle.std.specs.Option.{option_map_or}
use Rattle.std.specs.Str.Parse.{digits_value}
use Rattle.clap.specs.Words.{Row, Text, all_of, first_of}
use Rattle.clap.specs.ValueTests.{is_numeral}
use Rattle.text.specs.Words.{is_equals}
use Rattle.envimage.specs.declared.image.ByteOrder.{ByteOrder}
use Rattle.envimage.specs.declared.image.ByteOrder.TheVariants.{Big, Little}
use Rattle.envtools.specs.declared.print_form.PrintForm.{PrintForm}
use Rattle.tool_words.specs.declared.ask.OriginError.{OriginError}
use Rattle.tool_words.specs.declared.ask.OriginError.TheVariants.{ImageAndConfig, ScriptAndVariable, SecondNeedsImage, SecondAndOneCopy, TextAlone}
use Rattle.tool_words.specs.declared.called.CalledAs.{CalledAs}
use Rattle.tool_words.specs.Called.{is_tool}
use Rattle.rehearse_terms.specs.Asking.{Asking, Wanted, Listed, Alone}
use Rattle.rehearse_terms.specs.declared.wanted.Page.{Page}
use Rattle.rehearse_terms.specs.Bounds.{BoundsShown, bounds_of, in_shell, run_bounds_of, most_run_devices, most_steps}
use Rattle.rehearse_terms.specs.declared.shell.Shell.{Shell}
use Rattle.rehearse_terms.specs.declared.shell.Shell.TheVariants.{Modern2025, Old2023, Old2025, Profile}
use Rattle.tool_words.specs.Numbers.{any_number, byte_of}
use Rattle.tool_words.specs.declared.ask.BootNumbers.{BootNumbers}
use Rattle.tool_words.specs.declared.ask.ImageAsk.{ImageAsk}
use Rattle.tool_words.specs.declared.ask.Limits.{Limits}
use Rattle.tool_words.specs.declared.ask.Taking.{Taking}
use Rattle.tool_words.specs.CommandLine.{most_alternatives, most_boots, most_cause_failures, most_failures, most_memory, most_records, most_states, most_work}

-- what names the images: a configuration; or files, of which each is one whole copy: a single image, or the two copies
-- of a pair; or a text of variables, of which an image is made, whose CRC is stored so; or nothing, and the environment
-- is empty
pub data OriginShown : Type 0 where
  configured : (config : Text) → OriginShown
  whole : (first : Text) → (second : Option Text) → OriginShown
  texts : (path : Text) → (order : ByteOrder) → OriginShown
  no_images : (order : ByteOrder) → OriginShown

-- what a rehearsal reads: the images, a device list and how it is taken, a script that runs in place of a variable, and the folder
-- of the files that the list names
pub record InputsShown : Type 0 where
  pub origin : OriginShown
  pub device_list : Text
  pub taking : Taking
  pub script : Option Text
  pub files : Option Text

-- what `endings` is asked for
pub record Endings : Type 0 where
  pub variable : Text
  pub bounds : BoundsShown
  pub states : ℕ
  -- the steps that all stretches of the search begin together
  pub work : ℕ
  -- the MiB that the states count together which are kept
  pub memory : ℕ
  -- the variables whose values distinguish runs
  pub names : List Text
  pub flow : Bool

-- what is expected of each boot
pub record Expected : Type 0 where
  pub ending : Text
  -- how many boots may lead to it; nothing for any number
  pub within : Option ℕ
  -- variables, each with the value that the ending leaves; an empty value says that the variable is not set
  pub values : List (Text × Text)

-- what `boots` is asked for
pub record Boots : Type 0 where
  pub variable : Text
  pub bounds : BoundsShown
  pub states : ℕ
  -- the steps that all stretches of the search begin together
  pub work : ℕ
  -- the MiB that the states count together which are kept
  pub memory : ℕ
  -- the boots that are rehearsed
  pub boots : ℕ
  -- the failures of the endings that are followed; nothing for any number
  pub failures : Option ℕ
  -- the variables whose values distinguish runs: those that are named, and then those of which a value is expected
  pub names : List Text
  -- the path of a script of changes that may follow a boot
  pub changes : Option Text
  pub expected : Option Expected

-- what `causes` is asked for
pub record Causes : Type 0 where
  pub variable : Text
  pub bounds : BoundsShown
  pub check : Bool

-- what a call asks for, or which of the program's own refusals it meets
pub data Asked : Type 0 where
  printing : (origin : OriginShown) (form : PrintForm) (names : List Text) (order : ByteOrder) (one_copy : Bool) → Asked
  setting : (origin : OriginShown) (name : Text) (words : List Text) (order : ByteOrder) (one_copy : Bool) → Asked
  scripted : (origin : OriginShown) (script : Text) (order : ByteOrder) (one_copy : Bool) → Asked
  input_scripted : (origin : OriginShown) (order : ByteOrder) (one_copy : Bool) → Asked
  rehearsing : (inputs : InputsShown) (what : Asking) (order : ByteOrder) → Asked
  ending : (inputs : InputsShown) (what : Endings) (order : ByteOrder) → Asked
  booting : (inputs : InputsShown) (what : Boots) (order : ByteOrder) → Asked
  causing : (inputs : InputsShown) (what : Causes) (order : ByteOrder) → Asked
  making : (text output : Text) (what : ImageAsk) → Asked
  inspecting : (origin : OriginShown) (order : ByteOrder) → Asked
  bad_size : Asked
  bad_fill : Asked
  lock_needs_folder : Asked
  needs_name : Asked
  script_and_name : Asked
  header_needs_one : Asked
  misnamed : (error : OriginError) → Asked
  word_alone : Asked
  too_many_devices : Asked
  needs_expect : Asked
  needs_ending : Asked
  bad_value : Asked

-- ---- the entries of a subcommand

-- the flag was given
abbrev pub is_set : Text → List Row → Bool
is_set flag rows = option_map_or (λ t. bytes_eq t (codes "true")) (first_of flag rows) false

-- all the values of an argument
abbrev pub values_of : Text → List Row → List Text
values_of id rows = unwrap_or (all_of id rows) []

-- the number below 2^32 that the text writes in decimal digits, without a sign
abbrev pub number_of : Text → Option ℕ
number_of text =
    if is_numeral text && nat_lt (digits_value 10 text) (2 ^ 32) then Some (digits_value 10 text) else None

-- the number given, if there is one; nothing if its text is not a number
abbrev pub number_given : Text → List Row → Option (Option ℕ)
number_given id rows =
    option_map_or (λ t. option_map (λ n. Some n) (number_of t)) (first_of id rows) (Some None)

-- a number that was given is from `least` to `most`
abbrev pub is_within : ℕ → ℕ → Option ℕ → Bool
is_within least most None = true
is_within least most (Some n) = nat_le least n && nat_le n most

-- the number given, if there is one; nothing if it is not a number from `least` to `most`
abbrev pub number_within : ℕ → ℕ → Text → List Row → Option (Option ℕ)
number_within least most id rows =
    option_and_then (λ given. if is_within least most given then Some given else None)
    (number_given id rows)

-- the configuration that is given, or the usual one
abbrev pub config_or : Option Text → Text
config_or given = unwrap_or given (codes "/etc/fw_env.config")

abbrev pub config_of : List Row → Text
config_of rows = config_or (first_of (codes "config") rows)

-- how the CRC of the image is stored
abbrev pub order_of : List Row → ByteOrder
order_of rows = if is_set (codes "big-endian") rows then Big else Little

-- the word after `-l` is empty
abbrev pub has_no_folder : List Row → Bool
has_no_folder rows = option_map_or (λ folder. length folder == 0) (first_of (codes "lock") rows) false

-- the folder of the lock that is named, if any is; an empty word names none
abbrev pub lock_of : List Row → Option Text
lock_of rows = if has_no_folder rows then None else first_of (codes "lock") rows

-- one copy of a pair is enough if the other cannot be read
abbrev pub one_copy : List Row → Bool
one_copy rows = is_set (codes "one-copy") rows

-- ---- what names the images

-- from the configuration, the image and the second copy that are given, and whether one copy of a pair is enough: an
-- image takes no configuration, a second copy needs an image, and then both copies are needed
abbrev pub named_by : (config image second : Option Text) → (one_copy : Bool) → Result OriginShown OriginError
named_by config None None one_copy = Ok (configured (config_or config))
named_by config None (Some second) one_copy = Err SecondNeedsImage
named_by (Some config) (Some image) second one_copy = Err ImageAndConfig
named_by None (Some image) None one_copy = Ok (whole image None)
named_by None (Some image) (Some second) one_copy =
    if one_copy then Err SecondAndOneCopy else Ok (whole image (Some second))

-- no text names them
abbrev pub images_asked : List Row → Result OriginShown OriginError
images_asked rows = named_by (first_of (codes "config") rows) (first_of (codes "image") rows)
    (first_of (codes "second") rows) (one_copy rows)

-- from the text, the configuration, the image and the second copy that are given: a text takes none of the others
abbrev pub named_in : (text config image second : Option Text) → ByteOrder → (one_copy : Bool) → Result OriginShown OriginError
named_in None config image second order one_copy = named_by config image second one_copy
named_in (Some path) None None None order one_copy = Ok (texts path order)
named_in (Some path) config image second order one_copy = Err TextAlone

abbrev pub origin_asked : List Row → Result OriginShown OriginError
origin_asked rows = named_in (first_of (codes "text") rows) (first_of (codes "config") rows)
    (first_of (codes "image") rows) (first_of (codes "second") rows) (order_of rows) (one_copy rows)

-- beside a script that runs in place of a variable none of them need be given: the environment is then empty
abbrev pub named_beside : (script : Bool) → (text config image second : Option Text) → ByteOrder → (one_copy : Bool) →
    Result OriginShown OriginError
named_beside true None None None None order one_copy = Ok (no_images order)
named_beside script text config image second order one_copy = named_in text config image second order one_copy

abbrev pub origin_beside : List Row → Result OriginShown OriginError
origin_beside rows = named_beside (is_some (first_of (codes "script") rows)) (first_of (codes "text") rows)
    (first_of (codes "config") rows) (first_of (codes "image") rows) (first_of (codes "second") rows) (order_of rows)
    (one_copy rows)

-- what is asked of what is named, or the refusal of the words that name it
abbrev pub of_named : {T : Type 0} → Result T OriginError → (T → Asked) → Asked
of_named (Ok it) asked = asked it
of_named (Err error) asked = misnamed error

-- ---- the eight subcommands

-- how a variable is printed
abbrev pub print_form : List Row → PrintForm
print_form rows = record {
  header = not (is_set (codes "noheader") rows);
  escaped = is_set (codes "escaped") rows;
  null = is_set (codes "null") rows;
}

abbrev pub printing_asked : List Row → Asked
printing_asked rows =
    let names = values_of (codes "names") rows in
    let form = print_form rows in
    if not form.header && not (length names == 1) then header_needs_one
    else of_named (origin_asked rows) (λ origin. printing origin form names (order_of rows) (one_copy rows))

abbrev pub print_asked : List Row → Asked
print_asked rows = if has_no_folder rows then lock_needs_folder else printing_asked rows

-- the script at a path; if the program is called as one of U-Boot's tools and the path is `-`, the one on standard
-- input
abbrev pub script_asked : CalledAs → (path : Text) → OriginShown → ByteOrder → (one_copy : Bool) → Asked
script_asked called path origin order one_copy =
    if is_tool called && bytes_eq path (codes "-") then input_scripted origin order one_copy
    else scripted origin path order one_copy

-- from the script and the name that were given
abbrev pub change_asked : CalledAs → Option Text → Option Text → List Row → Asked
change_asked called (Some script) None rows =
    of_named (images_asked rows) (λ origin. script_asked called script origin (order_of rows) (one_copy rows))
change_asked called (Some script) (Some name) rows = script_and_name
change_asked called None (Some name) rows = of_named (images_asked rows) (λ origin.
    setting origin name (values_of (codes "values") rows) (order_of rows) (one_copy rows))
change_asked called None None rows = needs_name

abbrev pub set_asked : CalledAs → List Row → Asked
set_asked called rows = if has_no_folder rows then lock_needs_folder else
    change_asked called (first_of (codes "script") rows) (first_of (codes "name") rows) rows

abbrev pub variable_named : List Row → Text
variable_named rows = unwrap_or (first_of (codes "variable") rows) (codes "bootcmd")

-- what runs: the script that is given, or else the variable
abbrev pub variable_of : List Row → Text
variable_of rows = unwrap_or (first_of (codes "script") rows) (variable_named rows)

-- what a rehearsal reads: a script takes no variable beside it
abbrev pub inputs_with : (device_list : Text) → Taking → (script files : Option Text) →
    Result OriginShown OriginError → Result InputsShown OriginError
inputs_with device_list taking script files (Err error) = Err error
inputs_with device_list taking script files (Ok origin) =
    Ok (record { origin = origin; device_list = device_list; taking = taking; script = script; files = files })

abbrev pub inputs_asked : (device_list : Text) → Taking → List Row → Result InputsShown OriginError
inputs_asked device_list taking rows =
    if is_some (first_of (codes "script") rows) && is_some (first_of (codes "variable") rows) then Err ScriptAndVariable
    else inputs_with device_list taking (first_of (codes "script") rows) (first_of (codes "files") rows) (origin_beside rows)

-- how the device list is taken: all of it steady, and one of its alternatives
abbrev pub taken_so : List Row → (alternative : Option ℕ) → Taking
taken_so rows alternative = record { steady = is_set (codes "steady") rows; alternative = alternative }

-- the device list, and how it is taken; nothing if the number of the alternative cannot be read
abbrev pub list_asked : List Row → Option (Text × Taking)
list_asked rows =
    option_and_then (λ path. option_map (λ alternative. (path, taken_so rows alternative))
    (number_within 1 most_alternatives (codes "given") rows))
    (first_of (codes "device-list") rows)

-- the bounds if none are given
abbrev pub usual_devices : ℕ
usual_devices = 16

abbrev pub usual_steps : ℕ
usual_steps = 10000

-- 0 to 1,000 device commands and 0 to 1,000,000 steps; these defaults if none are given
abbrev pub bounds_or : (devices steps : ℕ) → List Row → Option BoundsShown
bounds_or devices steps rows =
    option_and_then (λ d. option_and_then (λ s. run_bounds_of (unwrap_or d devices) (unwrap_or s steps))
    (number_within 0 most_steps (codes "steps") rows))
    (number_within 0 most_run_devices (codes "devices") rows)

-- the bounds of runs in a listing, and of other runs
abbrev pub bounds_asked : List Row → Option BoundsShown
bounds_asked rows = bounds_or usual_devices usual_steps rows

abbrev pub run_bounds_asked : List Row → Option BoundsShown
run_bounds_asked rows = bounds_or most_run_devices most_steps rows

-- the shell of this name; the newest of U-Boot's old shells has a name without its version too, and so has that of its modern ones
abbrev pub shell_named : Text → Option Shell
shell_named name =
    if bytes_eq name (codes "profile") then Some Profile
    else (if bytes_eq name (codes "old-2023.01") then Some Old2023
    else (if bytes_eq name (codes "old-2025.01") then Some Old2025
    else (if bytes_eq name (codes "old") then Some Old2025
    else (if bytes_eq name (codes "modern-2025.01") then Some Modern2025
    else (if bytes_eq name (codes "modern") then Some Modern2025 else None)))))

-- the shell by whose rules the scripts run, ubtool's own if none is given; nothing if no shell has the name
abbrev pub shell_of : List Row → Option Shell
shell_of rows = option_map_or shell_named (first_of (codes "shell") rows) (Some Profile)

-- the wanted runs, within their bounds; or the refusal that the words meet
abbrev pub WantedAsked : Type 0
WantedAsked = Result (BoundsShown × Wanted) Asked

-- how much of a listing is written: the limit is at least 1
abbrev pub page_with : (limit : Option ℕ) → Page
page_with limit = record { limit = limit }

abbrev pub page_asked : List Row → Option Page
page_asked rows = option_map page_with (number_within 1 most_records (codes "limit") rows)

-- of a listing: at most 32 device commands, or 1,000 if few of them may fail
abbrev pub listing_asked : (after : Option Text) → Page → (failures : Option ℕ) → BoundsShown → WantedAsked
listing_asked after page failures bounds =
    elim (bounds_of bounds.devices bounds.steps failures) [
      | Some narrow ↦ Ok (narrow, Listed after page)
      | None ↦ Err too_many_devices
    ]

-- of a word, which takes no `--after`, no `--limit` and no `--failures`
abbrev pub word_asked : (word : Text) → (after : Option Text) → Page → (failures : Option ℕ) → BoundsShown → WantedAsked
word_asked word after page failures bounds =
    if is_some after || is_some page.limit || is_some failures then Err word_alone
    else Ok (bounds, Alone word)

abbrev pub wanted_by : (word after : Option Text) → Page → (failures : Option ℕ) → List Row → Option WantedAsked
wanted_by None after page failures rows = option_map (listing_asked after page failures) (bounds_asked rows)
wanted_by (Some word) after page failures rows =
    option_map (word_asked word after page failures) (run_bounds_asked rows)

abbrev pub wanted_asked : Page → (failures : Option ℕ) → List Row → Option WantedAsked
wanted_asked page failures rows =
    wanted_by (first_of (codes "word") rows) (first_of (codes "after") rows) page failures rows

-- by the rules of this shell
abbrev pub rehearsal_of : (list : Text × Taking) → Shell → List Row → WantedAsked → Asked
rehearsal_of list shell rows (Ok within) = of_named (inputs_asked list.0 list.1 rows) (λ inputs.
    rehearsing inputs (record {
      variable = variable_of rows;
      bounds = in_shell shell within.0;
      wanted = within.1;
      names = values_of (codes "names") rows;
    }) (order_of rows))
rehearsal_of list shell rows (Err refusal) = refusal

-- with a device list, a page, a number of failures and bounds that can be read
abbrev pub rehearsal_with : (list : Option (Text × Taking)) → Option Page → (failures : Option (Option ℕ)) → Shell →
    List Row → Option Asked
rehearsal_with (Some list) (Some page) (Some failures) shell rows =
    option_map (rehearsal_of list shell rows) (wanted_asked page failures rows)
rehearsal_with None page failures shell rows = None
rehearsal_with (Some list) None failures shell rows = None
rehearsal_with (Some list) (Some page) None shell rows = None

-- the failures are at most 32, and the shell is one that has a name
abbrev pub rehearse_asked : List Row → Option Asked
rehearse_asked rows =
    option_and_then (λ shell. rehearsal_with (list_asked rows) (page_asked rows)
    (number_within 0 most_failures (codes "failures") rows) shell rows)
    (shell_of rows)

-- the states if none are given
abbrev pub usual_states : ℕ
usual_states = 1000000

-- the steps in all if none are given
abbrev pub usual_work : ℕ
usual_work = 1000000000

-- the MiB if none are given
abbrev pub usual_memory : ℕ
usual_memory = 512

-- the numbers that are given, or the usual ones
abbrev pub limits_with : (states work memory : Option ℕ) → Limits
limits_with states work memory = record {
  states = unwrap_or states usual_states;
  work = unwrap_or work usual_work;
  memory = unwrap_or memory usual_memory;
}

-- how many states, steps in all and MiB a search may take
abbrev pub limits_asked : List Row → Option Limits
limits_asked rows =
    option_and_then (λ states. option_and_then (λ work. option_map (limits_with states work)
    (number_within 0 most_memory (codes "memory") rows))
    (number_within 0 most_work (codes "work") rows))
    (number_within 0 most_states (codes "states") rows)

-- with a device list, bounds and limits that can be read
abbrev pub endings_with : Option (Text × Taking) → Option BoundsShown → Option Limits → Shell → List Row → Option Asked
endings_with (Some list) (Some bounds) (Some limits) shell rows =
    Some (of_named (inputs_asked list.0 list.1 rows) (λ inputs. ending inputs (record {
      variable = variable_of rows;
      bounds = in_shell shell bounds;
      states = limits.states;
      work = limits.work;
      memory = limits.memory;
      names = values_of (codes "names") rows;
      flow = is_set (codes "flow") rows;
    }) (order_of rows)))
endings_with _ _ _ shell rows = None

abbrev pub endings_asked : List Row → Option Asked
endings_asked rows =
    option_and_then (λ shell. endings_with (list_asked rows) (run_bounds_asked rows) (limits_asked rows) shell rows)
    (shell_of rows)

-- the boots if none are given
abbrev pub usual_boots : ℕ
usual_boots = 1000

-- the number of boots that is given, or the usual one
abbrev pub numbers_with : (boots failures within : Option ℕ) → BootNumbers
numbers_with boots failures within =
    record { boots = unwrap_or boots usual_boots; failures = failures; within = within }

-- how many boots are rehearsed, of at most how many failures, and within how many boots, at least 1, an ending is expected: the
-- failures are at most 32
abbrev pub numbers_asked : List Row → Option BootNumbers
numbers_asked rows =
    option_and_then (λ boots. option_and_then (λ failures. option_map (numbers_with boots failures)
    (number_within 1 most_boots (codes "within") rows))
    (number_within 0 most_failures (codes "failures") rows))
    (number_within 0 most_boots (codes "boots") rows)

-- `NAME=VALUE`: its first `=` is not its first byte. NAME is what comes before it, and VALUE what comes after it
abbrev pub has_name : Text → Bool
has_name text = nat_lt 0 (position_or_len is_equals text) && nat_lt (position_or_len is_equals text) (length text)

abbrev pub named_value : Text → Option (Text × Text)
named_value text =
    if has_name text then Some (before_first is_equals text, after_first is_equals text) else None

-- all of them, in their order; nothing if one has no NAME
abbrev pub named_values : List Text → Option (List (Text × Text))
named_values [] = Some []
named_values (text ∷ rest) =
    option_and_then (λ value. option_map (λ values. value ∷ values) (named_values rest)) (named_value text)

-- what is expected, if anything is; or the refusal that the words meet
abbrev pub ExpectedAsked : Type 0
ExpectedAsked = Result (Option Expected) Asked

-- this ending, which is not empty, with these values
abbrev pub ending_expected : Text → (within : Option ℕ) → (said : List Text) → ExpectedAsked
ending_expected [] within said = Err needs_ending
ending_expected word within said =
    option_map_or (λ values. Ok (Some (record { ending = word; within = within; values = values })))
    (named_values said) (Err bad_value)

-- a number of boots, or a value, needs an ending beside it
abbrev pub expected_by : Option Text → (within : Option ℕ) → (said : List Text) → ExpectedAsked
expected_by None within said = if is_some within || nat_lt 0 (length said) then Err needs_expect else Ok None
expected_by (Some word) within said = ending_expected word within said

abbrev pub expected_asked : (within : Option ℕ) → List Row → ExpectedAsked
expected_asked within rows =
    expected_by (first_of (codes "expect") rows) within (values_of (codes "expect-var") rows)

-- the names, and the name after them if it is not among them
abbrev pub with_name : List Text → Text → List Text
with_name names name = if list_any (bytes_eq name) names then names else names ++ name ∷ []

-- the names, and after them those of these values that are not among them, each once
abbrev pub with_expected : List Text → List (Text × Text) → List Text
with_expected = fold (λ names value. with_name names value.0)

-- the values that are expected
abbrev pub expected_values : Option Expected → List (Text × Text)
expected_values expected = option_map_or (λ e. e.values) expected []

-- in these bounds, with what is expected
abbrev pub boots_what : BoundsShown → Limits → BootNumbers → Option Expected → List Row → Boots
boots_what bounds limits numbers expected rows = record {
  variable = variable_of rows;
  bounds = bounds;
  states = limits.states;
  work = limits.work;
  memory = limits.memory;
  boots = numbers.boots;
  failures = numbers.failures;
  names = with_expected (values_of (codes "names") rows) (expected_values expected);
  changes = first_of (codes "then") rows;
  expected = expected;
}

-- by the rules of this shell
abbrev pub boots_by : (list : Text × Taking) → BoundsShown → Limits → BootNumbers → Shell → List Row → ExpectedAsked → Asked
boots_by list bounds limits numbers shell rows (Ok expected) = of_named (inputs_asked list.0 list.1 rows)
    (λ inputs. booting inputs (boots_what (in_shell shell bounds) limits numbers expected rows) (order_of rows))
boots_by list bounds limits numbers shell rows (Err refusal) = refusal

-- with a device list, bounds, limits and numbers that can be read
abbrev pub boots_with : Option (Text × Taking) → Option BoundsShown → Option Limits → Option BootNumbers → Shell →
    List Row → Option Asked
boots_with (Some list) (Some bounds) (Some limits) (Some numbers) shell rows =
    Some (boots_by list bounds limits numbers shell rows (expected_asked numbers.within rows))
boots_with _ _ _ _ shell rows = None

abbrev pub boots_asked : List Row → Option Asked
boots_asked rows =
    option_and_then (λ shell. boots_with (list_asked rows) (run_bounds_asked rows) (limits_asked rows) (numbers_asked rows)
    shell rows)
    (shell_of rows)

-- how many device commands may fail if no number is given
abbrev pub usual_cause_failures : ℕ
usual_cause_failures = 2

-- so many may fail, 0 to 3, in the runs of these bounds
abbrev pub cause_bounds_asked : List Row → Option BoundsShown
cause_bounds_asked rows =
    option_and_then (λ f. option_and_then (λ (b : BoundsShown).
    bounds_of b.devices b.steps (Some (unwrap_or f usual_cause_failures)))
    (run_bounds_asked rows))
    (number_within 0 most_cause_failures (codes "failures") rows)

-- with a device list, and bounds that can be read
abbrev pub causes_with : Option (Text × Taking) → Option BoundsShown → Shell → List Row → Option Asked
causes_with (Some list) (Some bounds) shell rows =
    Some (of_named (inputs_asked list.0 list.1 rows) (λ inputs. causing inputs (record {
      variable = variable_of rows;
      bounds = in_shell shell bounds;
      check = is_set (codes "check") rows;
    }) (order_of rows)))
causes_with _ _ shell rows = None

abbrev pub causes_asked : List Row → Option Asked
causes_asked rows =
    option_and_then (λ shell. causes_with (list_asked rows) (cause_bounds_asked rows) shell rows)
    (shell_of rows)

-- the size of a new image, which each call has; nothing if it is no number
abbrev pub size_of : List Row → Option (Option ℕ)
size_of rows = option_map any_number (first_of (codes "size") rows)

-- the free bytes of a new image are 255 if no byte is given
abbrev pub fill_of : List Row → Option ℕ
fill_of rows = option_map_or byte_of (first_of (codes "fill") rows) (Some 255)

-- an image of this size, whose free bytes are this one
abbrev pub image_of : List Row → (size fill : ℕ) → ImageAsk
image_of rows size fill = record {
  size = size;
  redundant = is_set (codes "redundant") rows;
  order = order_of rows;
  fill = fill;
}

abbrev pub making_asked : (text output : Text) → (size fill : Option ℕ) → List Row → Asked
making_asked text output None fill rows = bad_size
making_asked text output (Some size) None rows = bad_fill
making_asked text output (Some size) (Some fill) rows = making text output (image_of rows size fill)

-- with a text, an output and a size
abbrev pub image_with : (text output : Option Text) → (size : Option (Option ℕ)) → List Row → Option Asked
image_with (Some text) (Some output) (Some size) rows = Some (making_asked text output size (fill_of rows) rows)
image_with _ _ _ rows = None

abbrev pub image_asked : List Row → Option Asked
image_asked rows =
    image_with (first_of (codes "text") rows) (first_of (codes "output") rows) (size_of rows) rows

abbrev pub inspect_asked : List Row → Asked
inspect_asked rows = of_named (images_asked rows) (λ origin. inspecting origin (order_of rows))

-- what the entries of the subcommand of this name ask for
abbrev pub asked_of : CalledAs → Text → List Row → Option Asked
asked_of called name rows =
    if bytes_eq name (codes "printenv") then Some (print_asked rows)
    else (if bytes_eq name (codes "setenv") then Some (set_asked called rows)
    else (if bytes_eq name (codes "rehearse") then rehearse_asked rows
    else (if bytes_eq name (codes "endings") then endings_asked rows
    else (if bytes_eq name (codes "boots") then boots_asked rows
    else (if bytes_eq name (codes "causes") then causes_asked rows
    else (if bytes_eq name (codes "image") then image_asked rows
    else (if bytes_eq name (codes "inspect") then Some (inspect_asked rows) else None)))))))
