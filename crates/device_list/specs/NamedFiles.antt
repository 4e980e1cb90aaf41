-- The files that a device list names. Ours.
use Rattle.std.specs.Prelude.{◌+◌, ◌++◌, ◌&&◌, ◌||◌, not, Bool, true, false, List, [], ◌∷◌, Some, None, drop, codes, if◌then◌else◌}
use Rattle.std.specs.List.{flat_map, position}
use Rattle.text.specs.Words.{is_equals}
use Rattle.device_list.specs.Settings.{sized_file}
use Rattle.std.specs.Str.{bytes_eq}
use Rattle.text.specs.Lines.{Text, numbered_lines}
use Rattle.device_list.specs.CallLines.{colon_place, is_call}
use Rattle.device_list.specs.DeviceList.{begins_comment, device_words}
use Rattle.device_list.specs.Quotes.{quoted_words}

-- the file whose size is the value of a setting
abbrev pub named_in_value : Text → List Text
named_in_value [] = []
named_in_value (b ∷ bytes) =
    if bytes_eq (b ∷ []) (codes "@") then elim (sized_file bytes) [ Some name ↦ name ∷ [] | None ↦ [] ] else []

abbrev pub named_in : (word : Text) → List Text
named_in word =
    elim (position is_equals word) [ None ↦ [] | Some at ↦ named_in_value (drop (at + 1) word) ]

-- the words in front of a file
abbrev pub names_file : (word : Text) → Bool
names_file word = bytes_eq word (codes "runs") || bytes_eq word (codes "imports")

-- the word after each of these, and the files of sizes; `behind` says whether one is in front of the first word
abbrev pub files_behind : (behind : Bool) → List Text → List Text
files_behind behind [] = []
files_behind true (word ∷ words) = word ∷ files_behind false words
files_behind false (word ∷ words) = named_in word ++ files_behind (names_file word) words

-- whether a line is one of `call` or `or call`
abbrev pub says_call : List Text → Bool
says_call [] = false
says_call (first ∷ words) =
    not (begins_comment first) && ((bytes_eq first (codes "call") || bytes_eq first (codes "or")) && is_call first words)

-- the words of such a line after its first `:`
abbrev pub clause_words : List Text → List Text
clause_words words = drop (colon_place words + 1) words

abbrev pub files_of : (line : Text) → List Text
files_of line = if says_call (device_words line) then files_behind false (clause_words (quoted_words line)) else []

-- The files that the lines of a list name, in order, whether the lines are faulty or not.
abbrev pub named_files : (text : Text) → List Text
named_files text = flat_map (λ l. files_of l.1) (numbered_lines text)
