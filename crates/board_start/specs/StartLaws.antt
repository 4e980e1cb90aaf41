-- Laws of the start of a board. Ours.
use Rattle.std.specs.Prelude.{◌≡◌, ◌≤◌, ℕ, ◌+◌, ◌==◌, nat_lt, ◌&&◌, not, Bool, true, false, List, None, Some, Option, Result, Ok, Err, is_none, codes, if◌then◌else◌}
use Rattle.std.specs.List.{list_all}
use Rattle.text.specs.Lines.{Text, numbered_lines}
use Rattle.text.specs.Words.{words_of}
use Rattle.envimage.specs.Data.{Pair}
use Rattle.envtools.specs.Changes.{with_changes}
use Rattle.envtools.specs.Environment.{is_name, same}
use Rattle.commands.specs.Hexadecimal.{in_word}
use Rattle.device_list.specs.DeviceList.{listed_with}
use Rattle.board_start.specs.Counter.{Counter, count_words, is_upgrade, number_in, raised, text_in}
use Rattle.board_start.specs.StartLines.{Said, Given, Before, Counts, Faulty, Other, said}
use Rattle.board_start.specs.Start.{Start, Begun, no_start, start_of, choices, chosen, alternatives, place_of, most, first_texts, text_behind_all, begun, begun_in, begun_with, begun_given}
use Rattle.board_start.specs.Boards.{ListRead, board_of, board_with}
use Rattle.board_start.specs.declared.start_error.StartError.{StartError}

-- whether a line says nothing of the start
abbrev pub is_other : Said → Bool
is_other (Given name value) = false
is_other (Before name) = false
is_other (Counts counter) = false
is_other Faulty = false
is_other Other = true

-- A list without lines of the start says of commands what it said before there were such lines, and nothing of the start.
abbrev pub OtherListsStand : Type 0
OtherListsStand = (list : ListRead) → list_all (λ l. is_other (said l.1)) (numbered_lines list.text) ≡ true →
    board_of list ≡ board_with no_start (listed_with list.files list.text)

-- And then a rehearsal starts with the environment that there is, and with the text that was given.
abbrev pub NothingIsGiven : Type 0
NothingIsGiven = (environment : List Pair) (name : Text) (text : Option Text) →
    begun no_start None environment name text ≡ Ok (record { environment = environment; saves = false; text = text })

-- A list without a line of the words `count A limit B else C` has no boot counter, whatever its other lines say.
abbrev pub NoCounterIsSaid : Type 0
NoCounterIsSaid = (text : Text) (start : Start) →
    list_all (λ l. is_none (count_words (words_of l.1))) (numbered_lines text) ≡ true →
    start_of text ≡ Ok start → start.counter ≡ None

-- how a rehearsal starts with the variables that are given and the texts that run first alone
abbrev pub begun_uncounted : Start → Result ℕ StartError → List Pair → (name : Text) → (text : Option Text) →
    Result Begun StartError
begun_uncounted start (Err fault) environment name text = Err fault
begun_uncounted start (Ok place) environment name text =
    let given = with_changes environment (chosen start place) in
    begun_with given false (text_behind_all given (first_texts given start.before) name text)

-- Without a boot counter a rehearsal begins so, and U-Boot saves nothing before it.
abbrev pub NothingIsCounted : Type 0
NothingIsCounted = (start : Start) (alternative : Option ℕ) (environment : List Pair) (name : Text) (text : Option Text) →
    start.counter ≡ None →
    begun start alternative environment name text
    ≡ begun_uncounted start (place_of (alternatives start) alternative) environment name text

-- whether a boot that finds this environment is beyond the limit: an update is tried, and the limit, which is not 0, is less
-- than the counter and one more
abbrev pub is_beyond : Counter → List Pair → Bool
is_beyond counter found =
    is_upgrade found && (not (number_in found counter.limit == 0)
    && nat_lt (number_in found counter.limit) (in_word (number_in found counter.counter + 1)))

-- the counter has a name of its own, which a variable may have
pub record IsApart (counter : Counter) : Type 0 where
  pub named : is_name counter.counter ≡ true
  pub no_limit : same counter.limit counter.counter ≡ false
  pub no_upgrade : same (codes "upgrade_available") counter.counter ≡ false

-- With a boot counter the text of the alternative is taken exactly beyond the limit, and the text that is asked for otherwise.
-- U-Boot has saved the environment with the raised counter if an update is tried.
abbrev pub AlternativeBeyondTheLimit : Type 0
AlternativeBeyondTheLimit = (start : Start) (counter : Counter) (given : List Pair) (name : Text) (text : Option Text) →
    start.counter ≡ Some counter → IsApart counter →
    begun_given start given name text
    ≡ begun_in (raised counter given) (is_upgrade given) start.before name
    (if is_beyond counter given then Some (text_in (raised counter given) counter.alternative) else text)

-- A list that is accepted has at most 64 alternatives.
abbrev pub AlternativesAreFew : Type 0
AlternativesAreFew = (text : Text) (start : Start) → start_of text ≡ Ok start → choices start.givens ≤ most
