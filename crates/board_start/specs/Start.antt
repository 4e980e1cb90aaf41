-- How a board starts: what its environment has before the run, and what runs before the text that is rehearsed. Ours.
use Rattle.std.specs.Prelude.{ℕ, ◌+◌, ◌-◌, ◌*◌, ◌/◌, ◌%◌, min, nat_lt, ◌==◌, ◌||◌, ◌&&◌, not, Bool, true, false, List, [], ◌∷◌, ◌++◌, length, filter, Option, Some, None, is_some, unwrap_or, slice_get, Result, Ok, Err, codes, if◌then◌else◌}
use Rattle.std.specs.Str.{bytes_eq}
use Rattle.std.specs.List.{list_any, flat_map}
use Rattle.std.specs.Map.{lookup}
use Rattle.text.specs.Bytes as ascii
use Rattle.text.specs.Escapes.{word_escaped}
use Rattle.text.specs.Lines.{Text, numbered_lines}
use Rattle.envimage.specs.Data.{Pair}
use Rattle.envtools.specs.Changes.{with_changes}
use Rattle.envtools.specs.Environment as env
use Rattle.device_list.specs.DeviceList.{changed_at}
use Rattle.board_start.specs.Counter.{Counter, asked_in, raised_in, saves_in}
use Rattle.board_start.specs.StartLines.{Said, Given, Before, Counts, Faulty, Other, said, is_plain_name}
use Rattle.board_start.specs.declared.start_error.StartError.{StartError}
use Rattle.board_start.specs.declared.start_error.StartError.TheVariants.{TooMany, Alternatives, NoAlternative, Name}

-- the values that a variable may have before the run, each once, in the order of the lines
pub record Values : Type 0 where
  pub first : Text
  pub others : List Text

-- the variables that are given, the names of those whose texts run first, and the boot counter, if the board has one
pub record Start : Type 0 where
  pub givens : List (Text × Values)
  pub before : List Text
  pub counter : Option Counter

abbrev pub no_start : Start
no_start = record { givens = []; before = []; counter = None }

-- ---- the lines

abbrev pub has_value : Values → (value : Text) → Bool
has_value values value = bytes_eq value values.first || list_any (bytes_eq value) values.others

-- one more value, which is kept once
abbrev pub with_value : (value : Text) → Option Values → Values
with_value value None = record { first = value; others = [] }
with_value value (Some values) =
    if has_value values value then values else record values { others = values.others ++ value ∷ [] }

-- whether the name has other values already, and this is a further one
abbrev pub is_further : List (Text × Values) → (name value : Text) → Bool
is_further givens name value =
    elim (lookup (bytes_eq name) givens) [ None ↦ false | Some values ↦ not (has_value values value) ]

abbrev pub count_of : Values → ℕ
count_of values = length values.others + 1

-- how many environments there are: each value of a name with each of the others
abbrev pub choices : List (Text × Values) → ℕ
choices [] = 1
choices (given ∷ givens) = count_of given.1 * choices givens

-- the most that a list may have
abbrev pub most : ℕ
most = 64

-- how many a list has, which is at most that; one more means all that are more
abbrev pub alternatives : Start → ℕ
alternatives start = min (choices start.givens) (most + 1)

abbrev pub checked : (number : ℕ) → (further : Bool) → Start → Result Start StartError
checked number further start =
    if further && nat_lt most (choices start.givens) then Err (TooMany number) else Ok start

-- one more name whose text runs first
abbrev pub with_before : Start → (name : Text) → Start
with_before start name = record start { before = start.before ++ name ∷ [] }

-- the boot counter is that of the last line that has one
abbrev pub with_counter : Start → Counter → Start
with_counter start counter = record start { counter = Some counter }

-- one more variable that is given
abbrev pub after_given : Start → (number : ℕ) → (name value : Text) → Result Start StartError
after_given start number name value =
    checked number (is_further start.givens name value)
    (record start { givens = changed_at (with_value value) start.givens name })

-- the start after one more line, which may give one alternative too many
abbrev pub after_said : Start → (number : ℕ) → Said → Result Start StartError
after_said start number (Given name value) = after_given start number name value
after_said start number (Before name) = Ok (with_before start name)
after_said start number (Counts counter) = Ok (with_counter start counter)
after_said start number Faulty = Ok start
after_said start number Other = Ok start

abbrev pub started_by : Start → List (ℕ × Text) → Result Start StartError
started_by start [] = Ok start
started_by start (l ∷ lines) =
    elim (after_said start l.0 (said l.1)) [
      | Ok next ↦ started_by next lines
      | Err fault ↦ Err fault
    ]

-- what the lines of a list say of the start
abbrev pub start_of : (text : Text) → Result Start StartError
start_of text = started_by no_start (numbered_lines text)

-- ---- alternatives

-- the value with this number, from 0 on
abbrev pub value_at : Values → ℕ → Text
value_at values place = if place == 0 then values.first else unwrap_or (slice_get values.others (place - 1)) values.first

-- one more name in front of the variables of an alternative, by what is left of its place
abbrev pub onto_chosen : Text × Values → List (Text × Text) × ℕ → List (Text × Text) × ℕ
onto_chosen given rest =
    ((given.0, value_at given.1 (rest.1 % (length given.1.others + 1))) ∷ rest.0, rest.1 / (length given.1.others + 1))

-- the variables of one alternative, and what is left of its place, which is counted from 0: the last name changes fastest
abbrev pub chosen_from : List (Text × Values) → (place : ℕ) → List (Text × Text) × ℕ
chosen_from [] place = ([], place)
chosen_from (given ∷ givens) place = onto_chosen given (chosen_from givens place)

abbrev pub chosen : Start → (place : ℕ) → List (Text × Text)
chosen start place = (chosen_from start.givens place).0

-- whether a variable has several values
abbrev pub varies : List (Text × Values) → (name : Text) → Bool
varies givens name =
    elim (lookup (bytes_eq name) givens) [ None ↦ false | Some values ↦ nat_lt 0 (length values.others) ]

abbrev pub pair_text : Text × Text → Text
pair_text given = ascii.space ∷ flat_map word_escaped given.0 ++ ascii.equals ∷ flat_map word_escaped given.1

-- the line that names an alternative: the variables that have several values
abbrev pub given_line : Start → (place : ℕ) → Text
given_line start place =
    codes "given" ++ flat_map pair_text (filter (λ given. varies start.givens given.0) (chosen start place)) ++ ascii.newline ∷ []

-- The place of the alternative that is named, counted from 1. A list that has several is refused without a name.
abbrev pub place_of : (count : ℕ) → (alternative : Option ℕ) → Result ℕ StartError
place_of count None = if count == 1 then Ok 0 else Err (Alternatives count)
place_of count (Some number) =
    if number == 0 || nat_lt count number then Err (NoAlternative number count) else Ok (number - 1)

-- ---- the text

abbrev pub is_set : List Pair → Text → Bool
is_set environment name = is_some (env.value_of environment name)

-- those of the names that are set: nothing runs for the others
abbrev pub first_texts : List Pair → (before : List Text) → List Text
first_texts environment before = filter (is_set environment) before

-- a line that runs the text of a variable
abbrev pub run_line : (name : Text) → Text
run_line name = codes "run " ++ name ++ ascii.newline ∷ []

abbrev pub run_lines : List Text → Text
run_lines names = flat_map run_line names

-- the variable that is rehearsed is run after them, if it is set and `run` takes its name
abbrev pub variable_behind : (front : Text) → (is_set : Bool) → (name : Text) → Result (Option Text) StartError
variable_behind front false name = Ok None
variable_behind front true name = if is_plain_name name then Ok (Some (front ++ run_line name)) else Err Name

-- and a text that is given is after them
abbrev pub text_behind : List Pair → (front : Text) → (name : Text) → (text : Option Text) →
    Result (Option Text) StartError
text_behind environment front name (Some text) = Ok (Some (front ++ text))
text_behind environment front name None = variable_behind front (is_set environment name) name

-- the text that is rehearsed in place of the variable's, if there is one
abbrev pub text_behind_all : List Pair → (first : List Text) → (name : Text) → (text : Option Text) →
    Result (Option Text) StartError
text_behind_all environment [] name text = Ok text
text_behind_all environment (one ∷ more) name text = text_behind environment (run_lines (one ∷ more)) name text

-- ---- the start of a rehearsal

-- the environment that a run starts with, whether U-Boot has saved it, and the text that is rehearsed in place of the
-- variable's, if there is one
pub record Begun : Type 0 where
  pub environment : List Pair
  pub saves : Bool
  pub text : Option Text

abbrev pub begun_with : List Pair → (saves : Bool) → Result (Option Text) StartError → Result Begun StartError
begun_with environment saves (Ok text) = Ok (record { environment = environment; saves = saves; text = text })
begun_with environment saves (Err fault) = Err fault

-- the texts that run first, and then what is asked for
abbrev pub begun_in : List Pair → (saves : Bool) → (before : List Text) → (name : Text) → (text : Option Text) →
    Result Begun StartError
begun_in environment saves before name text =
    begun_with environment saves (text_behind_all environment (first_texts environment before) name text)

-- in an environment with the variables that are given: the counter is raised first
abbrev pub begun_given : Start → List Pair → (name : Text) → (text : Option Text) → Result Begun StartError
begun_given start given name text =
    begun_in (raised_in start.counter given) (saves_in start.counter given) start.before name
    (asked_in start.counter (raised_in start.counter given) text)

abbrev pub begun_at : Start → Result ℕ StartError → List Pair → (name : Text) → (text : Option Text) →
    Result Begun StartError
begun_at start (Ok place) environment name text = begun_given start (with_changes environment (chosen start place)) name text
begun_at start (Err fault) environment name text = Err fault

-- how a rehearsal of a variable, or of a text, begins on a board, with the alternative that is named
abbrev pub begun : Start → (alternative : Option ℕ) → List Pair → (name : Text) → (text : Option Text) →
    Result Begun StartError
begun start alternative environment name text =
    begun_at start (place_of (alternatives start) alternative) environment name text
