-- The text that a rehearsal writes. Ours.
use Rattle.std.specs.Prelude.{ℕ, nat_le, Bool, true, false, List, [], ◌∷◌, ◌++◌, map, flat_map, length, take, Option, Some, None, codes, decimal}
use Rattle.device_list.specs.declared.finish.BoardEnd.{BoardEnd}
use Rattle.device_list.specs.Saving.{saved_of}
use Rattle.device_list.specs.declared.finish.BoardEnd.TheVariants.{Boots, Restarts, Halts}
use Rattle.text.specs.Bytes as ascii
use Rattle.text.specs.Escapes.{text_form, word_form}
use Rattle.text.specs.Words.{joined_words}
use Rattle.rehearse_terms.specs.Outcomes.{Outcome, OutcomeWord}
use Rattle.rehearse_terms.specs.State.{Text, Variables, get, State, LoggedCommand}
use Rattle.rehearse_rules.specs.Execution.{Ending, End, CutDevices, CutSteps, Unknown, Syntax, Unsupported, Panic, Size, Finished, succeeds}
use Rattle.rehearse_rules.specs.Runs.{Task, run_on, state_of, ending_of}
use Rattle.rehearse_terms.specs.declared.wanted.Page.{Page}

-- ---- words

abbrev pub digit_when : (success : Bool) → ℕ
digit_when true = ascii.digit_zero
digit_when false = ascii.digit_one

abbrev pub outcome_digit : Outcome → ℕ
outcome_digit outcome = digit_when (succeeds outcome)

-- a word is printed by its digits, the empty one as a dot
abbrev pub spelled : OutcomeWord → Text
spelled [] = codes "."
spelled (d ∷ w) = map outcome_digit (d ∷ w)

-- ---- the record of a run

abbrev pub line : Text → Text
line bytes = bytes ++ ascii.newline ∷ []

abbrev pub device_line : LoggedCommand → Text
device_line e = codes "dev " ++ digit_when e.success ∷ ascii.space ∷ joined_words (map word_form e.words)

-- an empty text has no line
abbrev pub text_lines : Text → List Text
text_lines [] = []
text_lines (b ∷ bytes) = (codes "text " ++ text_form (b ∷ bytes)) ∷ []

-- nor has one that is not kept
abbrev pub written_lines : Option Text → List Text
written_lines None = []
written_lines (Some text) = text_lines text

abbrev pub variable_line : Text × Text → Text
variable_line e = codes "var " ++ word_form e.0 ++ codes "=" ++ text_form e.1

abbrev pub asked_line : Variables → Text → Text
asked_line environment name =
    elim (get environment name) [
      | Some value ↦ variable_line (name, value)
      | None ↦ codes "unset " ++ word_form name
    ]

-- what a run has saved of a variable, by the copy of it: its value, or that it is not set
abbrev pub saved_line : (name copy : Text) → Text
saved_line name [] = codes "saved unset " ++ word_form name
saved_line name (b ∷ value) = codes "saved " ++ word_form name ++ codes "=" ++ text_form value

-- a run that has saved nothing has no line of it
abbrev pub saved_lines : (name : Text) → (copy : Option Text) → List Text
saved_lines name None = []
saved_lines name (Some copy) = saved_line name copy ∷ []

-- the lines of a variable, or of the copy of one
abbrev pub named_lines : Variables → Text → List Text
named_lines environment name =
    elim (saved_of name) [
      | None ↦ asked_line environment name ∷ []
      | Some variable ↦ saved_lines variable (get environment name)
    ]

-- every environment variable, or those that are asked for, in the order asked
abbrev pub variable_lines : Variables → (names : List Text) → List Text
variable_lines environment [] = map variable_line environment
variable_lines environment (name ∷ names) = flat_map (named_lines environment) (name ∷ names)

-- how a device command ended the run
abbrev pub finish_word : BoardEnd → Text
finish_word Boots = codes "booted "
finish_word Restarts = codes "restarted "
finish_word Halts = codes "halted "

abbrev pub last_line : Ending → Text
last_line (End status) = codes "end " ++ decimal status
last_line CutDevices = codes "cut devices"
last_line CutSteps = codes "cut steps"
last_line (Unknown name) = codes "stop unknown " ++ word_form name
last_line (Syntax name) = codes "stop syntax " ++ word_form name
last_line (Unsupported name) = codes "stop unsupported " ++ word_form name
last_line (Panic name) = codes "stop panic " ++ word_form name
last_line Size = codes "stop size"
last_line (Finished finish name) = finish_word finish ++ word_form name

-- the lines between the first and the last of a record
abbrev pub inner_lines : State → (names : List Text) → List Text
inner_lines s names = map device_line s.log ++ written_lines s.memory.text ++ variable_lines s.memory.environment names

abbrev pub record_lines : OutcomeWord → State → Ending → (names : List Text) → List Text
record_lines w s ending names = (codes "run " ++ spelled w) ∷ inner_lines s names ++ last_line ending ∷ []

abbrev pub record_text : OutcomeWord → State → Ending → (names : List Text) → Text
record_text w s ending names = flat_map line (record_lines w s ending names)

-- the record of the run on a word
abbrev pub record_of : Task → (names : List Text) → OutcomeWord → Text
record_of task names w = record_text w (state_of (run_on task w)) (ending_of (run_on task w)) names

-- ---- the listing

abbrev pub last_of : OutcomeWord → List OutcomeWord → OutcomeWord
last_of w [] = w
last_of w (v ∷ vs) = last_of v vs

-- the words whose records a listing has
abbrev pub words_listed : List OutcomeWord → (limit : Option ℕ) → List OutcomeWord
words_listed ws None = ws
words_listed ws (Some limit) = take limit ws

-- the line after the records: `more` with the word of the last one if words are left out, else `done`
abbrev pub closing : List OutcomeWord → (limit : Option ℕ) → Text
closing ws None = codes "done"
closing ws (Some limit) =
    elim (nat_le (length ws) limit) [
      | true ↦ codes "done"
      | false ↦ codes "more " ++ spelled (last_of [] (take limit ws))
    ]

-- the records of words, each written by `written`, and the closing line
abbrev pub listing : (written : OutcomeWord → Text) → List OutcomeWord → (limit : Option ℕ) → Text
listing written ws limit = flat_map written (words_listed ws limit) ++ line (closing ws limit)

-- ---- a page of it

-- the words whose records it has, the line after them, and its text
abbrev pub page_words : List OutcomeWord → Page → List OutcomeWord
page_words ws page = words_listed ws page.limit

abbrev pub page_closing : List OutcomeWord → Page → Text
page_closing ws page = closing ws page.limit

abbrev pub page_text : (written : OutcomeWord → Text) → List OutcomeWord → Page → Text
page_text written ws page = listing written ws page.limit
