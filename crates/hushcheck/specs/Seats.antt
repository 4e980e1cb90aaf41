-- Where a token is among the commands of a text, as far as U-Boot's shells read something otherwise there. Ours. It
-- is found in a text that is no script too, token by token, from the bytes of each word.
use Rattle.std.specs.Prelude.{ℕ, ◌+◌, ◌==◌, ◌&&◌, ◌||◌, Bool, true, false, nat_le, List, drop, codes, if◌then◌else◌}
use Rattle.std.specs.List.{prefix_len}
use Rattle.text.specs.Bytes as ascii
use Rattle.envtools.specs.Environment.{same}
use Rattle.hushlang.specs.ByteClasses as bytes
use Rattle.hushcheck.specs.declared.seat.Start.{Start}
use Rattle.hushcheck.specs.declared.seat.Start.TheVariants.{Opens, For, GoesOn, Closes, Assigns, Command}
use Rattle.hushcheck.specs.declared.seat.Name.{Name}
use Rattle.hushcheck.specs.declared.seat.Name.TheVariants.{Test, TestFile, TestText, SetEnv, Other}
use Rattle.hushcheck.specs.declared.seat.Stand.{Stand}
use Rattle.hushcheck.specs.declared.seat.Stand.TheVariants.{Assigned, Called, Variable, In, Items}

-- ---- what a word is that may start a command

abbrev pub is_opening : List ℕ → Bool
is_opening text = same text (codes "if") || same text (codes "while") || same text (codes "until")

abbrev pub is_going_on : List ℕ → Bool
is_going_on text = same text (codes "then") || same text (codes "elif") || same text (codes "else") || same text (codes "do")

abbrev pub is_closing : List ℕ → Bool
is_closing text = same text (codes "fi") || same text (codes "done")

abbrev pub behind_name : List ℕ → List ℕ
behind_name text = drop (prefix_len bytes.is_name_byte text) text

abbrev pub starts_with : ℕ → List ℕ → Bool
starts_with wanted text = bytes.begins (λ b. b == wanted) text

-- a name and `=`
abbrev pub is_assignment : List ℕ → Bool
is_assignment text = bytes.begins bytes.begins_name text && starts_with ascii.equals (behind_name text)

-- `=` alone, or before empty quotes
abbrev pub is_no_value : List ℕ → Bool
is_no_value text = same text (codes "=") || same text (codes "=''") || same text (codes "=\"\"")

-- a name, and no value
abbrev pub is_empty_assignment : List ℕ → Bool
is_empty_assignment text = bytes.begins bytes.begins_name text && is_no_value (behind_name text)

abbrev pub start_of : List ℕ → Start
start_of text =
    if is_opening text then Opens
    else (if same text (codes "for") then For
    else (if is_going_on text then GoesOn
    else (if is_closing text then Closes
    else (if is_assignment text then Assigns
    else Command))))

abbrev pub is_reserved : Start → Bool
is_reserved Opens = true
is_reserved For = true
is_reserved GoesOn = true
is_reserved Closes = true
is_reserved Assigns = false
is_reserved Command = false

-- ---- where a word is, after another

abbrev pub name_of : List ℕ → Name
name_of text = if same text (codes "test") then Test else (if same text (codes "setenv") then SetEnv else Other)

abbrev pub behind_first : Start → List ℕ → Stand
behind_first Assigns text = Assigned
behind_first start text = Called (name_of text) 1

-- `test` compares two texts, also if the second is `-e`
abbrev pub compares : List ℕ → Bool
compares text = same text (codes "=") || same text (codes "!=")

-- `-e` as the first word of `test`, and the word after a comparison
abbrev pub name_behind : Name → ℕ → List ℕ → Name
name_behind Test words text =
    if (words == 1) && same text (codes "-e") then TestFile
    else (if nat_le 2 words && compares text then TestText else Test)
name_behind TestText words text = Test
name_behind name words text = name

-- words are counted up to the one that is too many in U-Boot's old shell
abbrev pub one_more : ℕ → ℕ
one_more words = if nat_le 17 words then 17 else words + 1

abbrev pub behind_later : Stand → List ℕ → Stand
behind_later (Called name words) text = Called (name_behind name words text) (one_more words)
behind_later Variable text = In
behind_later In text = Items
behind_later stand text = stand
