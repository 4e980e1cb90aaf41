-- The lines of a device list that are about the calls which fit a pattern. Ours.
use Rattle.std.specs.Prelude.{ℕ, ◌+◌, ◌-◌, ◌==◌, nat_eq, nat_le, nat_lt, ◌&&◌, ◌||◌, not, Bool, true, false, List, [], ◌∷◌, ◌++◌, length, map, take, drop, slice_range, Option, Some, None, is_some, unwrap_or, option_map, Result, Ok, Err, codes, slice_get, if◌then◌else◌}
use Rattle.std.specs.Str.{bytes_eq}
use Rattle.std.specs.Bool.{beq}
use Rattle.std.specs.List.{list_all, list_any, starts_with}
use Rattle.std.specs.Map.{lookup}
use Rattle.text.specs.Numbers.{is_digit}
use Rattle.text.specs.Words.{is_equals}
use Rattle.text.specs.Lines.{Text}
use Rattle.builtins.specs.Builtins.{is_built_in}
use Rattle.device_list.specs.declared.clauses.Awaited.{Awaited}
use Rattle.device_list.specs.declared.clauses.Awaited.TheVariants.{Clause, Status, Name, FirstWord, Expected, File, Import}
use Rattle.device_list.specs.Imports.{imported}
pub use Rattle.device_list.specs.Settings.{FileText, Files}
use Rattle.device_list.specs.Settings.{Setting, LeftSide, Variable, WordAt, LastWord, Imported, Saving, Deleted, Effect, call_setting}
use Rattle.device_list.specs.Finishes.{finish_named}
use Rattle.device_list.specs.declared.finish.BoardEnd.{BoardEnd}
use Rattle.device_list.specs.Quotes.{is_quote, quoted_words}
use Rattle.device_list.specs.declared.devices_error.DevicesError.{DevicesError}
use Rattle.device_list.specs.declared.devices_error.DevicesError.TheVariants.{BadLine, BuiltIn}

-- ---- patterns

-- a word of a pattern: this word, or each word that starts so
pub data PatternWord : Type 0 where
  Exactly : Text → PatternWord
  Starting : Text → PatternWord

-- the words of a call after its name, and whether any further words may follow
pub record Pattern : Type 0 where
  pub words : List PatternWord
  pub more : Bool

abbrev pub fits_word : PatternWord → (word : Text) → Bool
fits_word (Exactly text) word = bytes_eq text word
fits_word (Starting text) word = starts_with nat_eq word text

abbrev pub fits_words : List PatternWord → (more : Bool) → (words : List Text) → Bool
fits_words [] more [] = true
fits_words [] more (word ∷ words) = more
fits_words (first ∷ pattern) more [] = false
fits_words (first ∷ pattern) more (word ∷ words) = fits_word first word && fits_words pattern more words

-- whether a call with these words fits
abbrev pub fits : Pattern → (words : List Text) → Bool
fits pattern words = fits_words pattern.words pattern.more words

-- The first line that fits decides.
abbrev pub first_fitting : List (Pattern × Effect) → (words : List Text) → Option Effect
first_fitting [] words = None
first_fitting (line ∷ lines) words = if fits line.0 words then Some line.1 else first_fitting lines words

-- ---- the pattern of a line

-- `**` is any number of words
abbrev pub is_rest : (word : Text) → Bool
is_rest word = bytes_eq word (codes "**")

abbrev pub is_star : ℕ → Bool
is_star b = b == 42

-- A word that ends with `*` is each word that starts as it does without the star, so `*` is any word.
abbrev pub pattern_word : (word : Text) → PatternWord
pattern_word word =
    if bytes_eq (drop (length word - 1) word) (codes "*") then Starting (take (length word - 1) word) else Exactly word

-- the words of a pattern, if none is `**`
abbrev pub pattern_words : List Text → Option (List PatternWord)
pattern_words [] = Some []
pattern_words (word ∷ words) =
    if is_rest word then None else option_map (λ more. pattern_word word ∷ more) (pattern_words words)

abbrev pub ends_in_rest : (words : List Text) → Bool
ends_in_rest words = elim (slice_get words (length words - 1)) [ None ↦ false | Some last ↦ is_rest last ]

-- the words before that
abbrev pub fixed_words : (words : List Text) → List Text
fixed_words words = if ends_in_rest words then take (length words - 1) words else words

-- the pattern that words are, of which the last may be `**`
abbrev pub pattern_of : (words : List Text) → Option Pattern
pattern_of words =
    option_map (λ fixed. record { words = fixed; more = ends_in_rest words }) (pattern_words (fixed_words words))

abbrev pub is_colon : (word : Text) → Bool
is_colon word = bytes_eq word (codes ":")

-- ---- words of a pattern that name a variable

-- the name in `${NAME}`
abbrev pub name_in : Text → Option Text
name_in text =
    if nat_lt 2 (length text) && (starts_with nat_eq text (codes "${") && bytes_eq (drop (length text - 1) text) (codes "}"))
    then Some (slice_range text 2 (length text - 1)) else None

abbrev pub unless_empty : Option Text → Option Text
unless_empty None = None
unless_empty (Some value) = if length value == 0 then None else Some value

-- the value of the variable that a word names, if it names one that has a value
abbrev pub value_for : (values : Text → Option Text) → Text → Option Text
value_for values text = elim (name_in text) [ None ↦ None | Some name ↦ unless_empty (values name) ]

-- that value in the place of the word
abbrev pub filled_text : (values : Text → Option Text) → Text → Text
filled_text values text = unwrap_or (value_for values text) text

abbrev pub filled_word : (values : Text → Option Text) → PatternWord → PatternWord
filled_word values (Exactly text) = Exactly (filled_text values text)
filled_word values (Starting text) = Starting (filled_text values text)

abbrev pub filled_pattern : (values : Text → Option Text) → Pattern → Pattern
filled_pattern values pattern = record pattern { words = map (filled_word values) pattern.words }

abbrev pub filled_line : (values : Text → Option Text) → Pattern × Effect → Pattern × Effect
filled_line values line = (filled_pattern values line.0, line.1)

-- ---- the clauses of a line

-- the clauses so far, and what the next word may be: a clause; the `0` or the `1` after `always`; the name after `needs`;
-- the word after that name, if it is no clause; the `1` after `normal`; or the name of a file after `runs` or `imports`
pub record Clauses : Type 0 where
  pub effect : Effect
  pub awaited : Awaited

abbrev pub no_clause : Clauses
no_clause = record { effect = record { ends = None; stays = false; always = None; needs = []; normal = false; runs = []; sets = [] }; awaited = Clause }

-- the answer of a status
abbrev pub answer_of : (word : Text) → Option Bool
answer_of word =
    if bytes_eq word (codes "0") then Some true else (if bytes_eq word (codes "1") then Some false else None)

abbrev pub with_always : Clauses → Option Bool → Option Clauses
with_always clauses None = None
with_always clauses (Some success) =
    Some (record { effect = record clauses.effect { always = Some success }; awaited = Clause })

abbrev pub with_setting : Clauses → Option Setting → Option Clauses
with_setting clauses None = None
with_setting clauses (Some set) =
    Some (record clauses { effect = record clauses.effect { sets = clauses.effect.sets ++ set ∷ [] } })

-- whether a setting is the mark that all is saved
abbrev pub saves_side : LeftSide → Bool
saves_side (Variable name) = false
saves_side (WordAt place) = false
saves_side LastWord = false
saves_side (Imported name reading first) = false
saves_side Saving = true

abbrev pub is_saving : Setting → Bool
is_saving set = saves_side set.0

-- the environment is saved, after all settings of the line
abbrev pub with_saving : Clauses → Clauses
with_saving clauses = record clauses { effect = record clauses.effect { sets = clauses.effect.sets ++ (Saving, Deleted) ∷ [] } }

-- a clause that is at most once
abbrev pub once : (before : Bool) → (after : Clauses) → Option Clauses
once true after = None
once false after = Some after

-- a failure is what is expected; that a success is needs no clause
abbrev pub with_expected : Clauses → Option Bool → Option Clauses
with_expected clauses None = None
with_expected clauses (Some true) = None
with_expected clauses (Some false) =
    Some (record { effect = record clauses.effect { normal = true }; awaited = Clause })

-- `always` and `normal`, of which one is there once: an answer that is always the same takes no outcome
abbrev pub has_answer : Effect → Bool
has_answer effect = is_some effect.always || effect.normal

-- how a success goes on is said once: it ends the run, or the text of a file runs
abbrev pub is_decided : Effect → Bool
is_decided effect = is_some effect.ends || not (length effect.runs == 0)

-- another word is a setting
abbrev pub with_finish : Files → Clauses → Option BoardEnd → (word : Text) → Option Clauses
with_finish files clauses None word = with_setting clauses (call_setting files word)
with_finish files clauses (Some finish) word =
    once (is_decided clauses.effect) (record clauses { effect = record clauses.effect { ends = Some finish } })

-- the clauses after a word that begins one
abbrev pub with_new : Files → Clauses → (word : Text) → Option Clauses
with_new files clauses word =
    if bytes_eq word (codes "steady")
    then once clauses.effect.stays (record clauses { effect = record clauses.effect { stays = true } })
    else (if bytes_eq word (codes "always") then once (has_answer clauses.effect) (record clauses { awaited = Status })
    else (if bytes_eq word (codes "normal") then once (has_answer clauses.effect) (record clauses { awaited = Expected })
    else (if bytes_eq word (codes "runs") then once (is_decided clauses.effect) (record clauses { awaited = File })
    else (if bytes_eq word (codes "imports") then Some (record clauses { awaited = Import })
    else (if bytes_eq word (codes "saves") then once (list_any is_saving clauses.effect.sets) (with_saving clauses)
    else (if bytes_eq word (codes "needs")
    then once (not (length clauses.effect.needs == 0)) (record clauses { awaited = Name })
    else with_finish files clauses (finish_named word) word))))))

-- the words of clauses
abbrev pub is_clause_word : (word : Text) → Bool
is_clause_word word = is_some (finish_named word)
    || (list_any (bytes_eq word) (codes "steady" ∷ codes "always" ∷ codes "needs" ∷ codes "normal" ∷ codes "runs" ∷ codes "imports" ∷ codes "saves" ∷ []))

abbrev pub has_special : (word : Text) → Bool
has_special word = list_any is_star word || (list_any is_quote word || list_any is_equals word)

-- whether a word may be after `needs`: it is no clause and no `:`, and has no star and no quote
abbrev pub is_plain : (word : Text) → Bool
is_plain word = not (is_clause_word word) && (not (is_colon word) && not (has_special word))

-- one more word of the call that is needed
abbrev pub with_needed : Clauses → (word : Text) → Awaited → Clauses
with_needed clauses word awaited =
    record { effect = record clauses.effect { needs = clauses.effect.needs ++ word ∷ [] }; awaited = awaited }

-- the name of a built-in command is none of a call that can be needed
abbrev pub with_name : Clauses → (word : Text) → Option Clauses
with_name clauses word =
    if is_plain word && not (is_built_in word) then Some (with_needed clauses word FirstWord) else None

abbrev pub with_first_word : Files → Clauses → (word : Text) → Option Clauses
with_first_word files clauses word =
    if is_plain word then Some (with_needed clauses word Clause)
    else with_new files (record clauses { awaited = Clause }) word

-- the file whose text runs is one of these
abbrev pub with_file : Files → Clauses → (name : Text) → Option Clauses
with_file files clauses name =
    if is_some (lookup (bytes_eq name) files)
    then Some (record { effect = record clauses.effect { runs = name ∷ [] }; awaited = Clause }) else None

-- A text that is imported is a plain one: no image, and without a NUL, at which the text of a script ends.
abbrev pub imported_file : FileText → Option (List Setting)
imported_file file = if nat_eq (length file.text) file.size then imported file.text else None

abbrev pub with_imported : Clauses → Option (List Setting) → Option Clauses
with_imported clauses None = None
with_imported clauses (Some sets) =
    Some (record { effect = record clauses.effect { sets = clauses.effect.sets ++ sets }; awaited = Clause })

-- the variables of one of these files are set
abbrev pub with_import : Files → Clauses → (name : Text) → Option Clauses
with_import files clauses name =
    elim (lookup (bytes_eq name) files) [ None ↦ None | Some file ↦ with_imported clauses (imported_file file) ]

-- the clauses after one more word
abbrev pub taken : Files → Awaited → Clauses → (word : Text) → Option Clauses
taken files Clause clauses word = with_new files clauses word
taken files Status clauses word = with_always clauses (answer_of word)
taken files Name clauses word = with_name clauses word
taken files FirstWord clauses word = with_first_word files clauses word
taken files Expected clauses word = with_expected clauses (answer_of word)
taken files File clauses word = with_file files clauses word
taken files Import clauses word = with_import files clauses word

abbrev pub with_clause : Files → Clauses → (word : Text) → Option Clauses
with_clause files clauses word = taken files clauses.awaited clauses word

-- `always`, `needs`, `normal`, `runs` and `imports` are not the last word
abbrev pub may_end : Awaited → Bool
may_end Clause = true
may_end Status = false
may_end Name = false
may_end FirstWord = true
may_end Expected = false
may_end File = false
may_end Import = false

abbrev pub clauses_of : Files → Clauses → List Text → Option Clauses
clauses_of files clauses [] = if may_end clauses.awaited then Some clauses else None
clauses_of files clauses (word ∷ words) =
    elim (with_clause files clauses word) [ None ↦ None | Some next ↦ clauses_of files next words ]

-- An answer that is always the same need not be remembered.
abbrev pub effect_said : Clauses → Effect
effect_said clauses =
    record clauses.effect { stays = clauses.effect.stays && not (is_some clauses.effect.always) }

-- ---- a line

-- the name of a command, and what the calls that fit the pattern do
pub record Call : Type 0 where
  pub name : Text
  pub pattern : Pattern
  pub effect : Effect

abbrev pub call_with : ℕ → (name : Text) → (of_test : Bool) → Option Pattern → Option Clauses → Result Call DevicesError
call_with number name of_test None clauses = Err (BadLine number)
call_with number name of_test (Some pattern) None = Err (BadLine number)
call_with number name of_test (Some pattern) (Some clauses) =
    if list_any is_star name then Err (BadLine number)
    else (if is_built_in name && not of_test then Err (BuiltIn number)
    else Ok (record { name = name; pattern = pattern; effect = effect_said clauses }))

-- A value may have quotes, and a pattern none.
abbrev pub has_quote : (words : List Text) → Bool
has_quote words = list_any (λ word. list_any is_quote word) words

-- the words on both sides of the `:`, the name of the command first
abbrev pub call_between : Files → ℕ → (of_test : Bool) → (pattern clauses : List Text) → Result Call DevicesError
call_between files number of_test [] clauses = Err (BadLine number)
call_between files number of_test (name ∷ pattern) clauses =
    if has_quote (name ∷ pattern) then Err (BadLine number)
    else call_with number name of_test (pattern_of pattern) (clauses_of files no_clause clauses)

-- Of a built-in command a line can say one thing: that a failure of `test -e` is nothing wrong.
abbrev pub is_of_test : (pattern clauses : List Text) → Bool
is_of_test (name ∷ pattern) (first ∷ second ∷ []) =
    bytes_eq name (codes "test") && bytes_eq first (codes "normal") && bytes_eq second (codes "1")
is_of_test pattern clauses = false

abbrev pub call_parts : Files → ℕ → (pattern clauses : List Text) → Result Call DevicesError
call_parts files number pattern clauses = call_between files number (is_of_test pattern clauses) pattern clauses

-- how many words come before the first `:`
abbrev pub colon_place : (words : List Text) → ℕ
colon_place [] = 0
colon_place (word ∷ words) = if is_colon word then 0 else colon_place words + 1

abbrev pub lacks_colon : (words : List Text) → Bool
lacks_colon words = nat_le (length words) (colon_place words)

-- a line `call PATTERN : CLAUSES`, the words after `call`
abbrev pub call_line : Files → ℕ → (words : List Text) → Result Call DevicesError
call_line files number words =
    if lacks_colon words then Err (BadLine number)
    else call_parts files number (take (colon_place words) words) (drop (colon_place words + 1) words)

-- `absent NAME` is `call NAME ** : always 1`
abbrev pub absent_words : (words : List Text) → List Text
absent_words words = words ++ codes "**" ∷ codes ":" ∷ codes "always" ∷ codes "1" ∷ []

-- `saves NAME` is `call NAME ** : saves`
abbrev pub saves_words : (words : List Text) → List Text
saves_words words = words ++ codes "**" ∷ codes ":" ∷ codes "saves" ∷ []

-- the words after `call`, or after `or call`
abbrev pub words_said : (line first : Text) → (words : List Text) → List Text
words_said line first words =
    if bytes_eq first (codes "call") then drop 1 (quoted_words line)
    else (if bytes_eq first (codes "or") then drop 2 (quoted_words line)
    else (if bytes_eq first (codes "saves") then saves_words words else absent_words words))

-- what a line of calls says
abbrev pub call_said : Files → ℕ → (line first : Text) → (words : List Text) → Result Call DevicesError
call_said files number line first words = call_line files number (words_said line first words)

-- ---- a line `or call PATTERN : runs FILE`: a further file for the calls of the line of calls before it

-- the name of a file of which the question `runs FILE` is asked has these bytes, so that a call of `runs` can name it
abbrev pub is_file_byte : ℕ → Bool
is_file_byte b = is_digit b
    || ((nat_le 97 b && nat_le b 122) || ((nat_le 65 b && nat_le b 90) || ((nat_le 45 b && nat_le b 47) || b == 95)))

abbrev pub is_plain_file : (name : Text) → Bool
is_plain_file name = list_all is_file_byte name

-- it says that a file runs, and nothing else
abbrev pub is_only_run : Effect → Bool
is_only_run effect = not (is_some effect.ends) && (not effect.stays && (not (is_some effect.always)
    && (length effect.needs == 0 && (not effect.normal && (length effect.runs == 1 && length effect.sets == 0)))))

-- patterns that are the same
abbrev pub same_word : PatternWord → PatternWord → Bool
same_word (Exactly text) (Exactly other) = bytes_eq text other
same_word (Starting text) (Starting other) = bytes_eq text other
same_word (Exactly text) (Starting other) = false
same_word (Starting text) (Exactly other) = false

abbrev pub same_words : List PatternWord → List PatternWord → Bool
same_words [] [] = true
same_words [] (other ∷ others) = false
same_words (word ∷ words) [] = false
same_words (word ∷ words) (other ∷ others) = same_word word other && same_words words others

abbrev pub same_pattern : Pattern → Pattern → Bool
same_pattern one other = same_words one.words other.words && beq one.more other.more

-- the pattern of the calls with this word alone
abbrev pub word_alone : Text → Pattern
word_alone word = record { words = Exactly word ∷ []; more = false }

-- the line goes on from one of calls that has the same pattern and runs files
abbrev pub is_continued : Pattern × Effect → (further : Pattern × Effect) → Bool
is_continued line further = is_only_run further.1
    && (same_pattern line.0 further.0 && (not (length line.1.runs == 0) && list_all is_plain_file line.1.runs))

abbrev pub with_further : Pattern × Effect → (further : Pattern × Effect) → Pattern × Effect
with_further line further = (line.0, record line.1 { runs = line.1.runs ++ further.1.runs })

abbrev pub last_of : List Text → Option Text
last_of names = slice_get names (length names - 1)

-- the line with one more file, and the file that it named last, if the further line goes on from it
abbrev pub further_line : Pattern × Effect → (further : Pattern × Effect) → Option ((Pattern × Effect) × Text)
further_line line further =
    if is_continued line further then option_map (λ before. (with_further line further, before)) (last_of line.1.runs) else None

-- and so for the last line of these
abbrev pub further_lines : List (Pattern × Effect) → (further : Pattern × Effect) → Option (List (Pattern × Effect) × Text)
further_lines [] further = None
further_lines (line ∷ []) further = option_map (λ one. (one.0 ∷ [], one.1)) (further_line line further)
further_lines (line ∷ next ∷ lines) further =
    option_map (λ more. (line ∷ more.0, more.1)) (further_lines (next ∷ lines) further)

-- ---- whether a line is one of calls

abbrev pub is_lone : (name : Text) → (words : List Text) → Bool
is_lone name [] = not (list_any is_equals name)
is_lone name (word ∷ words) = false

-- `call` with a `:` among its words, `or call` with one, or `absent` or `saves` with one word that is no setting
abbrev pub is_call : (first : Text) → (words : List Text) → Bool
is_call first [] = false
is_call first (word ∷ words) =
    if bytes_eq first (codes "call") then list_any is_colon (word ∷ words)
    else (if bytes_eq first (codes "or") then bytes_eq word (codes "call") && list_any is_colon words
    else (bytes_eq first (codes "absent") || bytes_eq first (codes "saves")) && is_lone word words)
