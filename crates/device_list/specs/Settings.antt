-- What a device command does on success, and the settings of a line. Ours.
use Rattle.std.specs.Prelude.{ℕ, ◌+◌, ◌-◌, ◌==◌, nat_eq, min, ◌&&◌, not, Bool, true, false, List, [], ◌∷◌, length, take, drop, Option, Some, None, option_map, codes, if◌then◌else◌}
use Rattle.std.specs.Str.{bytes_eq}
use Rattle.std.specs.List.{list_any, position, starts_with}
use Rattle.std.specs.Map.{lookup}
use Rattle.std.specs.Fmt.{digits}
use Rattle.text.specs.Bytes as ascii
use Rattle.text.specs.Numbers.{are_digits, value_in}
use Rattle.text.specs.Words.{is_equals}
use Rattle.text.specs.Lines.{Text}
use Rattle.device_list.specs.Quotes.{is_quote, unquoted}
use Rattle.device_list.specs.declared.finish.BoardEnd.{BoardEnd}
use Rattle.device_list.specs.declared.setting.Reading.{Reading}

-- the left side of a setting: a variable, or the word of the call that names it; words are counted from 0, or it is the
-- last; or a variable of a text that is imported, with its reading, and whether it is the first entry of this name there; or
-- the environment is saved here (Saving.antt)
pub data LeftSide : Type 0 where
  Variable : Text → LeftSide
  WordAt : ℕ → LeftSide
  LastWord : LeftSide
  Imported : Text → Reading → (first : Bool) → LeftSide
  Saving : LeftSide

-- the right side: a text, or a word of the call; or the variable is deleted; or a copy of a variable
pub data RightSide : Type 0 where
  Literal : Text → RightSide
  ValueAt : ℕ → RightSide
  LastValue : RightSide
  Deleted : RightSide
  CopyOf : Text → RightSide

-- what is set, and its value
abbrev pub Setting : Type 0
Setting = LeftSide × RightSide

-- what a device command does on success: what it sets in the environment, in order, how the run ends, if it ends, and the
-- files of which the text of one runs then, if there are any; whether
-- its answers stay: asked again with the same words in one run, it answers as before; the only answer that it has, if it
-- has one: whether it succeeds; how the words of a call begin, its name first, that has to succeed before: none, if it needs
-- no call; and whether a failure is what is expected of it
pub record Effect : Type 0 where
  pub ends : Option BoardEnd
  pub stays : Bool
  pub always : Option Bool
  pub needs : List Text
  pub normal : Bool
  pub runs : List Text
  pub sets : List Setting

-- ---- the settings of a line

-- a variable's name is not empty and does not start with `-`
abbrev pub is_variable : Text → Bool
is_variable [] = false
is_variable (b ∷ bytes) = not (b == ascii.minus)

-- the word with this number, counted from 1; a number above the greatest of 64 bits counts as that one
abbrev pub numbered : ℕ → Option LeftSide
numbered number = if number == 0 then None else Some (WordAt (number - 1))

abbrev pub is_decimal : Text → Bool
is_decimal word = not (length word == 0) && are_digits word

-- what follows an `@`: `last`, or the number of a word
abbrev pub word_of_call : Text → Option LeftSide
word_of_call which =
    if bytes_eq which (codes "last") then Some LastWord
    else (if is_decimal which then numbered (min (value_in 10 which) 18446744073709551615) else None)

abbrev pub variable : Text → Option LeftSide
variable name = if is_variable name then Some (Variable name) else None

-- in a `sub` line, an `@` starts a word of the call
abbrev pub left_side : (of_calls : Bool) → Text → Option LeftSide
left_side of_calls [] = None
left_side of_calls (b ∷ bytes) =
    if of_calls && bytes_eq (b ∷ []) (codes "@") then word_of_call bytes else variable (b ∷ bytes)

-- A setting is a left side, the first `=`, and a value that may be empty.
abbrev pub setting : (of_calls : Bool) → Text → Option Setting
setting of_calls word =
    elim (position is_equals word) [
      | None ↦ None
      | Some at ↦ option_map (λ left. (left, Literal (drop (at + 1) word))) (left_side of_calls (take at word))
    ]

-- the settings, if each of the words is one
abbrev pub settings : (of_calls : Bool) → List Text → Option (List Setting)
settings of_calls [] = Some []
settings of_calls (word ∷ words) =
    elim (setting of_calls word) [
      | None ↦ None
      | Some first ↦ option_map (λ more. first ∷ more) (settings of_calls words)
    ]

-- the value that a word of the call has
abbrev pub value_of_word : LeftSide → RightSide
value_of_word (Variable name) = Literal name
value_of_word (WordAt place) = ValueAt place
value_of_word LastWord = LastValue
value_of_word (Imported name reading first) = Literal name
value_of_word Saving = Deleted

-- what is known of a file: the text that it has as a script, and its size in bytes
pub record FileText : Type 0 where
  pub text : Text
  pub size : ℕ

-- the files that a line may name
abbrev pub Files : Type 0
Files = List (Text × FileText)

-- the file that `size(FILE)` names
abbrev pub without_last : Text → Option Text
without_last rest =
    if bytes_eq (drop (length rest - 1) rest) (codes ")") then Some (take (length rest - 1) rest) else None

abbrev pub sized_file : Text → Option Text
sized_file which = if starts_with nat_eq which (codes "size(") then without_last (drop 5 which) else None

-- the size of a file, in hexadecimal as U-Boot sets `filesize`
abbrev pub size_of : Files → (name : Text) → Option RightSide
size_of files name =
    option_map (λ file. Literal (digits 16 false file.size)) (lookup (bytes_eq name) files)

-- what follows an `@`: the size of a file, or a word of the call
abbrev pub at_side : Files → (which : Text) → Option RightSide
at_side files which =
    elim (sized_file which) [ Some name ↦ size_of files name | None ↦ option_map value_of_word (word_of_call which) ]

-- In a `call` line, an `@` starts a word of the call on the right side, too, and a value may have quotes.
abbrev pub right_side : Files → Text → Option RightSide
right_side files [] = Some (Literal [])
right_side files (b ∷ bytes) =
    if bytes_eq (b ∷ []) (codes "@") then at_side files bytes else option_map Literal (unquoted (b ∷ bytes))

-- and a name has none
abbrev pub plain_side : (name : Text) → Option LeftSide
plain_side name = if list_any is_quote name then None else left_side true name

abbrev pub both_sides : Option LeftSide → Option RightSide → Option Setting
both_sides None right = None
both_sides (Some left) right = option_map (λ value. (left, value)) right

-- a setting of a `call` line
abbrev pub call_setting : Files → (word : Text) → Option Setting
call_setting files word =
    elim (position is_equals word) [
      | None ↦ None
      | Some at ↦ both_sides (plain_side (take at word)) (right_side files (drop (at + 1) word))
    ]
