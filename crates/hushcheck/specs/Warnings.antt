-- Where the shells of U-Boot read a text otherwise than the language: the words and operators of each kind. Ours, after
-- what was seen when both were compared. It is found in a text that is no script too.
use Rattle.std.specs.Prelude.{ℕ, ◌-◌, ◌==◌, ◌&&◌, ◌||◌, Bool, true, false, nat_le, List, [], ◌∷◌, ◌++◌, take, drop, codes, Option, Some, None}
use Rattle.std.specs.List.{fold}
use Rattle.text.specs.Bytes as ascii
use Rattle.envtools.specs.Environment.{same}
use Rattle.hushlang.specs.CursorShown.{input_in}
use Rattle.hushlang.specs.Token.{Token}
use Rattle.hushlang.specs.declared.token.Kind.{Kind}
use Rattle.hushlang.specs.declared.token.Kind.TheVariants as kinds
use Rattle.hushcheck.specs.Calls.{Remark, Warns}
use Rattle.hushcheck.specs.Names.{Text}
use Rattle.hushcheck.specs.Seats.{behind_first, behind_later, is_empty_assignment, is_reserved, start_of, starts_with}
use Rattle.hushcheck.specs.Sights.{seen_in}
use Rattle.hushcheck.specs.declared.sights.Seen.{Seen}
use Rattle.hushcheck.specs.declared.seat.Start.{Start}
use Rattle.hushcheck.specs.declared.seat.Start.TheVariants.{Opens, For, GoesOn, Closes, Assigns, Command}
use Rattle.hushcheck.specs.declared.seat.Name.{Name}
use Rattle.hushcheck.specs.declared.seat.Name.TheVariants.{Test, TestFile, TestText, SetEnv}
use Rattle.hushcheck.specs.declared.seat.Stand.{Stand}
use Rattle.hushcheck.specs.declared.seat.Stand.TheVariants.{Fresh, Begins, Assigned, Called, Variable, In, Items, Behind}
use Rattle.hushcheck.specs.declared.seat.Link.{Link}
use Rattle.hushcheck.specs.declared.seat.Link.TheVariants.{First, And, Or}
use Rattle.hushcheck.specs.declared.seat.Seat.{Seat}
use Rattle.hushcheck.specs.declared.warning.Warning.{Warning}
use Rattle.hushcheck.specs.declared.warning.Warning.TheVariants.{StraightBehind, MixedList, OperatorAtLineEnd, WordOfFor, ReservedName, Exit, EmptyAssignment, UnderscoreName, BackslashInSingle, BackslashInDouble, Apostrophe, PartlyQuoted, LooseOperand, FileTest, EmptyWord, OptionOfSetenv, ManyWords, StatusInBraces, OddName, SpecialParameter, Parenthesis, BackslashAtLineEnd}

-- ---- what was found, and where the next token is

pub record Watch : Type 0 where
  -- the operators of the lists that the compound commands around a token are in
  pub outer : List Link
  pub seat : Seat
  pub found : List (ℕ × Remark)
  -- the places of the words in front of which a block has no command
  pub blocks : List ℕ

-- a warning comes after those that were found before, if something is so
abbrev pub when : Bool → ℕ → Warning → List (ℕ × Remark) → List (ℕ × Remark)
when true at warning found = found ++ (at, Warns warning) ∷ []
when false at warning found = found

-- `''` and `""`
abbrev pub is_empty_word : Text → Bool
is_empty_word text = same text (codes "''") || same text (codes "\"\"")

-- ---- the words: by what is in them, and by where they are

-- what is in any word
abbrev pub by_sights : Seen → ℕ → List (ℕ × Remark) → List (ℕ × Remark)
by_sights seen at found =
    when seen.line_end at BackslashAtLineEnd
    (when seen.parenthesis at Parenthesis
    (when seen.odd_name at OddName
    (when seen.braced_status at StatusInBraces
    (when seen.special at SpecialParameter
    (when seen.apostrophe at Apostrophe
    (when seen.double_backslash at BackslashInDouble
    (when seen.single_backslash at BackslashInSingle
    (when seen.underscore at UnderscoreName found))))))))

-- a word that may start a command
abbrev pub by_start : Start → Text → ℕ → List (ℕ × Remark) → List (ℕ × Remark)
by_start Assigns text at found =
    when (starts_with ascii.underscore text) at UnderscoreName (when (is_empty_assignment text) at EmptyAssignment found)
by_start Command text at found = when (same text (codes "exit")) at Exit found
by_start start text at found = found

-- a variable that `test` may find as no word or as many
abbrev pub is_loose_operand : Name → Seen → Bool
is_loose_operand Test seen = seen.loose
is_loose_operand TestFile seen = seen.loose
is_loose_operand TestText seen = seen.loose
is_loose_operand name seen = false

-- `-e` of `test` that is not its first word and not compared, and a fifth word of `test -e`
abbrev pub is_file_test : Name → (words : ℕ) → Text → Bool
is_file_test Test words text = nat_le 2 words && same text (codes "-e")
is_file_test TestFile words text = words == 5
is_file_test name words text = false

-- a first word of `setenv` that is empty or starts with `-`
abbrev pub is_option : Name → (words : ℕ) → Text → Bool
is_option SetEnv words text = (words == 1) && (starts_with ascii.minus text || is_empty_word text)
is_option name words text = false

-- a word of a call after so many others
abbrev pub by_operand : Name → (words : ℕ) → Seen → Text → ℕ → List (ℕ × Remark) → List (ℕ × Remark)
by_operand name words seen text at found =
    when (words == 16) at ManyWords
    (when (is_option name words text) at OptionOfSetenv
    (when (is_file_test name words text) at FileTest
    (when (is_loose_operand name seen) at LooseOperand
    (when (seen.quoted && seen.loose) at PartlyQuoted
    (when (same text (codes "''")) at EmptyWord found)))))

-- a word of a `for` of which U-Boot's old shell makes other fields
abbrev pub is_read_otherwise : Seen → Text → Bool
is_read_otherwise seen text = seen.space || seen.held || is_empty_word text

-- the variable of a `for`
abbrev pub by_variable : Text → ℕ → List (ℕ × Remark) → List (ℕ × Remark)
by_variable text at found =
    when (starts_with ascii.underscore text) at UnderscoreName
    (when (is_reserved (start_of text)) at ReservedName found)

abbrev pub by_stand : Stand → Seen → Text → ℕ → List (ℕ × Remark) → List (ℕ × Remark)
by_stand Fresh seen text at found = by_start (start_of text) text at found
by_stand Begins seen text at found = by_start (start_of text) text at found
by_stand Assigned seen text at found = by_start (start_of text) text at found
by_stand Behind seen text at found = by_start (start_of text) text at (when true at StraightBehind found)
by_stand (Called name words) seen text at found = by_operand name words seen text at found
by_stand Variable seen text at found = by_variable text at found
by_stand In seen text at found = found
by_stand Items seen text at found = when (is_read_otherwise seen text) at WordOfFor found

abbrev pub by_word : Stand → Text → ℕ → List (ℕ × Remark) → List (ℕ × Remark)
by_word stand text at found = by_sights (seen_in text) at (by_stand stand (seen_in text) text at found)

-- ---- where the next token is

abbrev pub seated : Stand → Link → Seat
seated stand link = record { stand = stand; link = link; operator = None }

-- a compound command begins: the list that it is in waits for its end
abbrev pub opened : Stand → Watch → Watch
opened stand w = record w { outer = w.seat.link ∷ w.outer; seat = seated stand First }

abbrev pub closed_in : List Link → Watch → Watch
closed_in [] w = record w { seat = seated Behind First }
closed_in (link ∷ outer) w = record w { outer = outer; seat = seated Behind link }

-- a compound command ends, and the list that it is in goes on
abbrev pub closed : Watch → Watch
closed w = closed_in w.outer w

abbrev pub stands : Stand → Watch → Watch
stands stand w = record w { seat = seated stand w.seat.link }

-- separators in front of the first command of a block change nothing
abbrev pub behind_separator : Stand → Stand
behind_separator Fresh = Fresh
behind_separator stand = Begins

abbrev pub begins_block : Watch → Watch
begins_block w = record w { seat = seated Fresh First }

abbrev pub behind_start : Start → Text → Watch → Watch
behind_start Opens text w = opened Fresh w
behind_start For text w = opened Variable w
behind_start GoesOn text w = begins_block w
behind_start Closes text w = closed w
behind_start start text w = stands (behind_first start text) w

-- after assignments no word is reserved
abbrev pub behind_assigned : Start → Text → Watch → Watch
behind_assigned Assigns text w = stands Assigned w
behind_assigned start text w = stands (behind_first Command text) w

abbrev pub behind_word : Stand → Text → Watch → Watch
behind_word Fresh text w = behind_start (start_of text) text w
behind_word Begins text w = behind_start (start_of text) text w
behind_word Behind text w = behind_start (start_of text) text w
behind_word Assigned text w = behind_assigned (start_of text) text w
behind_word stand text w = stands (behind_later stand text) w

-- ---- a token

abbrev pub with_found : List (ℕ × Remark) → Watch → Watch
with_found found w = record w { found = found }

-- a word that goes on with a compound command, or ends it
abbrev pub ends_block : Start → Bool
ends_block GoesOn = true
ends_block Closes = true
ends_block start = false

abbrev pub is_end_of_empty : Stand → Text → Bool
is_end_of_empty Fresh text = ends_block (start_of text)
is_end_of_empty stand text = false

abbrev pub place_when : Bool → ℕ → List ℕ → List ℕ
place_when true at places = places ++ at ∷ []
place_when false at places = places

abbrev pub seen_word : Text → ℕ → Watch → Watch
seen_word text at w = record w {
  found = by_word w.seat.stand text at w.found;
  blocks = place_when (is_end_of_empty w.seat.stand text) at w.blocks;
}

abbrev pub after_word : Text → ℕ → Watch → Watch
after_word text at w = behind_word w.seat.stand text (seen_word text at w)

-- the other operator than the one before it in the same list
abbrev pub is_other : Link → Link → Bool
is_other And Or = true
is_other Or And = true
is_other before now = false

abbrev pub after_operator : Link → ℕ → Watch → Watch
after_operator link at w = record (with_found (when (is_other w.seat.link link) at MixedList w.found) w) {
  seat = record { stand = Begins; link = link; operator = Some at };
}

abbrev pub at_line_end : Option ℕ → List (ℕ × Remark) → List (ℕ × Remark)
at_line_end None found = found
at_line_end (Some at) found = when true at OperatorAtLineEnd found

-- after an operator, lines that are empty change nothing
abbrev pub link_behind : Stand → Link → Link
link_behind Begins link = link
link_behind Fresh link = link
link_behind stand link = First

abbrev pub after_newline : Watch → Watch
after_newline w = record (with_found (at_line_end w.seat.operator w.found) w) {
  seat = seated (behind_separator w.seat.stand) (link_behind w.seat.stand w.seat.link);
}

abbrev pub after_semicolon : Watch → Watch
after_semicolon w = record w { seat = seated (behind_separator w.seat.stand) First }

-- a token of a kind, with these bytes, at a place
abbrev pub after_kind : Kind → Text → ℕ → Watch → Watch
after_kind kinds.Word text at w = after_word text at w
after_kind kinds.Semi text at w = after_semicolon w
after_kind kinds.Newline text at w = after_newline w
after_kind kinds.AndAnd text at w = after_operator And at w
after_kind kinds.OrOr text at w = after_operator Or at w

-- the bytes of a token
abbrev pub bytes_of : Text → Token → Text
bytes_of text t = take (t.stop - t.start) (drop t.start text)

abbrev pub after_token : Text → Watch → Token → Watch
after_token text w t = after_kind t.kind (bytes_of text t) t.start w

-- ---- a whole text

abbrev pub first_watch : Watch
first_watch = record { outer = []; seat = seated Begins First; found = []; blocks = [] }

abbrev pub watched : Text → List Token → Watch
watched text tokens = fold (after_token text) first_watch tokens

-- the places of the words in front of which a block has no command
abbrev pub blocks_of : (text : Text) → List ℕ
blocks_of text = (watched text (input_in text).tokens).blocks

-- the warnings of a text, in the order of their places
abbrev pub warnings_of : (text : Text) → List (ℕ × Remark)
warnings_of text = (watched text (input_in text).tokens).found
