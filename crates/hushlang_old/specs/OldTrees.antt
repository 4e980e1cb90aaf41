-- The tree of a text as U-Boot's old shell reads it (common/cli_hush.c, `reserved_word`, `done_command`, `done_pipe`), token by
-- token. A block without a command has one without words: it does nothing and keeps the status. A text that has a
-- construct that is not followed here has no tree: a fault; an `elif` whose condition has no command; an `if` whose first condition
-- has none, with `elif` or `else`, or with no command in its block; a word straight after a compound command; `then` straight before
-- `elif`; an assignment before a command where either has a variable; a `for` with a word for its name in which there is more than
-- letters, digits, `_`, `-` and `.`; and the names `HUSH_VERSION` and `HUSH_NO_EVAL`, by which the shell changes. 2023.01 and
-- 2025.01 read the same; but what `exit` does in 2025.01 depends on where it is, and that is in its tree.
use Rattle.std.specs.Prelude.{ℕ, ◌==◌, Bool, true, false, not, ◌&&◌, ◌||◌, List, [], ◌∷◌, ◌++◌, map, take, drop, if◌then◌else◌, Option, Some, None, is_some, unwrap_or, option_map, codes, bytes_eq}
use Rattle.std.specs.List.{list_all, prefix_len}
use Rattle.text.specs.Bytes as ascii
use Rattle.hushlang.specs.Tree as tree
use Rattle.hushlang.specs.Tree.{Piece, Script, Command}
use Rattle.hushlang.specs.WordPieces.{in_piece}
use Rattle.hushlang.specs.KnownFields.{is_constant, known_fields}
use Rattle.hushlang.specs.declared.tree.Op.{Op}
use Rattle.hushlang.specs.declared.tree.Op.TheVariants.{And}
use Rattle.commands.specs.UBootExit.{ends_text}
use Rattle.hushlang_uboot.specs.Nests as nests
use Rattle.hushlang_uboot.specs.Nests.{Nest, word_of_if, word_of_loop, reserved_bytes, reserved_among, is_in, is_do}
use Rattle.hushlang_uboot.specs.Pieces.{only_bytes}
use Rattle.hushlang_uboot.specs.ReadBytes.{has_bytes}
use Rattle.hushlang_old.specs.Defaults.{behind_variable}
use Rattle.hushlang_old.specs.OldTokens.{FoundWord, Token, Word, Ends, Joins, Breaks, is_letter, is_name_byte, read, read_open, old_tokens}
use Rattle.hushlang_uboot.specs.declared.part.Part.{Part}
use Rattle.hushlang_uboot.specs.declared.part.Part.TheVariants as p
use Rattle.hushlang_uboot.specs.declared.reserved.Reserved.{Reserved}
use Rattle.hushlang_uboot.specs.declared.reserved.Reserved.TheVariants as r

-- ---- what a word says

abbrev pub word_of : FoundWord → tree.Word
word_of w = if w.quoted then tree.Mark ∷ w.pieces else w.pieces

abbrev pub is_constant_word : FoundWord → Bool
is_constant_word w = list_all is_constant w.pieces

-- the reserved word that a word is: quotes do not keep it from being one, a backslash does
abbrev pub reserved_in : FoundWord → Option Reserved
reserved_in w = if w.escaped then None else reserved_among (only_bytes w.pieces)

-- the names by which the shell changes
abbrev pub is_name_of_shell : List ℕ → Bool
is_name_of_shell name = bytes_eq name (codes "HUSH_VERSION") || bytes_eq name (codes "HUSH_NO_EVAL")

abbrev pub begins_with_letter : List ℕ → Bool
begins_with_letter [] = false
begins_with_letter (byte ∷ bytes) = is_letter byte

-- a letter, and then letters, digits and `_`
abbrev pub is_name : List ℕ → Bool
is_name bytes = begins_with_letter bytes && list_all is_name_byte bytes

-- the name of a `for`
abbrev pub name_among : Option (List ℕ) → Option (List ℕ)
name_among None = None
name_among (Some bytes) = if is_name bytes && not (is_some (reserved_bytes bytes)) && not (is_name_of_shell bytes) then Some bytes else None

abbrev pub name_in : FoundWord → Option (List ℕ)
name_in w = name_among (only_bytes w.pieces)

-- a word for the name of a `for` that is none
abbrev pub is_misname_byte : ℕ → Bool
is_misname_byte byte = is_name_byte byte || byte == ascii.minus || byte == ascii.dot

abbrev pub is_misname : List ℕ → Bool
is_misname bytes = has_bytes bytes && list_all is_misname_byte bytes && not (is_name bytes)

abbrev pub misname_among : Option (List ℕ) → Option (List ℕ)
misname_among None = None
misname_among (Some bytes) = if is_misname bytes then Some bytes else None

abbrev pub misname_in : FoundWord → Option (List ℕ)
misname_in w = if w.escaped then None else misname_among (only_bytes w.pieces)

-- after the bytes of a name
abbrev pub behind_name : (name : List ℕ) → (rest : List ℕ) → List Piece → Option (List ℕ × tree.Word)
behind_name name [] pieces = None
behind_name name (byte ∷ rest) pieces = if byte == ascii.equals then Some (name, in_piece rest ++ pieces) else None

abbrev pub assigned : List Piece → Option (List ℕ × tree.Word)
assigned (tree.Bytes bytes ∷ pieces) =
    if begins_with_letter bytes
    then behind_name (take (prefix_len is_name_byte bytes) bytes) (drop (prefix_len is_name_byte bytes) bytes) pieces else None
assigned pieces = None

-- the name and the value of an assignment: quotes do not keep a word from being one (`is_assignment`)
unfoldable pub assignment : FoundWord → Option (List ℕ × tree.Word)
assignment w = assigned w.pieces

abbrev pub is_assignment : FoundWord → Bool
is_assignment w = is_some (assignment w)

abbrev pub value_of : FoundWord → List ℕ × tree.Word
value_of w = unwrap_or (assignment w) ([], [])

abbrev pub changes_shell : FoundWord → Bool
changes_shell w = is_name_of_shell (value_of w).0

-- ---- what is on the way

-- whether the text is read for 2025.01; the block on the way and the compound commands that are open; whether that block has had a
-- separator; the words on the way, whether all of them are assignments, and whether assignments are before them; whether a
-- compound command has just ended; and of a `for` before its body, whether it has no name, whether it is reported as a fault when it is
-- run, and the word for its name if that is none
pub record Building : Type 0 where
  pub newer : Bool
  pub nest : Nest
  pub separated : Bool
  pub words : List FoundWord
  pub assigning : Bool
  pub behind : Bool
  pub closed : Bool
  pub nameless : Bool
  pub spoilt : Bool
  pub misname : List ℕ

abbrev pub nothing_built : (newer : Bool) → Building
nothing_built newer = record {
  newer = newer;
  nest = nests.nothing_open;
  separated = false;
  words = [];
  assigning = false;
  behind = false;
  closed = false;
  nameless = false;
  spoilt = false;
  misname = [];
}

abbrev pub is_open : Building → Bool
is_open b = nests.is_open b.nest

abbrev pub part_in : Building → Part
part_in b = nests.part_in b.nest

-- ---- `exit` in 2025.01

-- the fields of an `exit` with a number; no variable is in its words
abbrev pub is_plain_exit : Option (List (List ℕ)) → Bool
is_plain_exit (Some (name ∷ number ∷ [])) = bytes_eq name (codes "exit") && ends_text number
is_plain_exit fields = false

abbrev pub exit_alone : List tree.Word
exit_alone = (tree.Bytes (codes "exit") ∷ []) ∷ []

-- Within a compound command an `exit` ends the text as one without a number does: each list that it passes on its way out gives
-- the status 0 to the next (`run_list_real`, by its return value -2).
abbrev pub without_number : (within : Bool) → List tree.Word → List tree.Word
without_number within words = if within && is_plain_exit (known_fields words) then exit_alone else words

-- whether `exit` loses its number here
abbrev pub drops_number : Building → Bool
drops_number b = b.newer && is_open b

-- ---- the end of a command

abbrev pub command_of : (assigning within : Bool) → List FoundWord → Command
command_of true within words = tree.Assign (map value_of words)
command_of false within words = tree.Simple (without_number within (map word_of words))

-- the words on the way are a command (`done_command`)
abbrev pub command_ended : Building → Building
command_ended b = elim b.words [
  | [] ↦ record b { closed = false }
  | word ∷ words ↦ record b {
    nest = nests.command_added (command_of b.assigning (drops_number b) (word ∷ words)) b.nest;
    words = [];
    assigning = false;
    behind = false;
    closed = false;
  }
]

-- the command on the way ends, and one that is joined by this operator follows
abbrev pub joined_by : Op → Building → Building
joined_by op b = record (command_ended b) { nest = nests.operator_read op (command_ended b).nest }

-- ---- reserved words

-- a compound command begins
abbrev pub opened : Reserved → Building → Option Building
opened word b = if nests.is_full b.nest then None else Some (record b { nest = nests.begun word b.nest; separated = false })

-- where a block without a command is refused: a condition; the block of an `if` whose condition has none; and after `then`, if
-- `elif` is straight after that, which would go by an older condition
abbrev pub needs_command : Part → Reserved → (separated : Bool) → Bool
needs_command (p.Condition further) r.Then separated = true
needs_command (p.Group braces) r.Fi separated = true
needs_command (p.Arm further) r.Elif separated = not separated
needs_command part word separated = false

abbrev pub gone_to : nests.Gone → Building → Option Building
gone_to (nests.Entered nest) b = Some (record b { nest = nest; separated = false })
gone_to (nests.Closed nest) b = Some (record b { nest = nest; closed = true })
gone_to nests.Astray b = None

-- `do` of a `while` or `until`
abbrev pub is_do_of : Part → Reserved → Bool
is_do_of p.Test r.Do = true
is_do_of part word = false

-- a reserved word that goes on with the innermost compound command, or ends it
abbrev pub goes_on : Reserved → Building → Option Building
goes_on word b =
    if needs_command (part_in b) word b.separated && nests.lacks_command b.nest.block then None
    else gone_to (nests.goes_on word b.nest) b

-- A loop with an empty condition ends before its body is run, with the status 0 (`run_list_real`, by its `flag_rep`)
abbrev pub is_idle : Reserved → Building → Bool
is_idle word b = is_do_of (part_in b) word && nests.lacks_command b.nest.block

abbrev pub with_idle : Reserved → Building → Building
with_idle word b = if is_idle word b then record b { nest = nests.idle b.nest } else b

-- the first condition of an `if` holds if it has no command (`run_list_real`, its `if_code`)
abbrev pub is_first_then : Part → Reserved → Bool
is_first_then (p.Condition false) r.Then = true
is_first_then part word = false

abbrev pub is_given : Reserved → Building → Bool
is_given word b = is_first_then (part_in b) word && nests.lacks_command b.nest.block

abbrev pub part_read : Reserved → Building → Option Building
part_read word b =
    if is_given word b then Some (record b { nest = nests.given b.nest; separated = false })
    else goes_on word (with_idle word b)

abbrev pub reserved_read : Reserved → Building → Option Building
reserved_read word b = if nests.begins word then opened word b else part_read word b

-- ---- words

abbrev pub with_word : FoundWord → Building → Building
with_word w b = record b { words = b.words ++ w ∷ [] }

abbrev pub is_void : List Piece → Bool
is_void [] = true
is_void (piece ∷ pieces) = false

-- the first word of a command that is not reserved; `""` is refused, since at the beginning of a text that shell looks at memory that
-- it has not written
abbrev pub command_begun : FoundWord → Building → Option Building
command_begun w b =
    if is_void w.pieces || is_assignment w && changes_shell w then None
    else Some (record (with_word w b) { assigning = is_assignment w })

abbrev pub first_word : FoundWord → Building → Option Building
first_word w b = elim (reserved_in w) [ Some word ↦ reserved_read word b | None ↦ command_begun w b ]

abbrev pub is_constant_with : FoundWord → Building → Bool
is_constant_with w b = list_all is_constant_word b.words && is_constant_word w

-- a command begins after assignments: they are made, and then it runs
abbrev pub begun_behind : FoundWord → Building → Option Building
begun_behind w b =
    if is_constant_with w b then Some (record (with_word w (joined_by And b)) { behind = true }) else None

abbrev pub further_word : FoundWord → Building → Option Building
further_word w b =
    if b.assigning && not (is_assignment w) then begun_behind w b
    else (if b.behind && not (is_constant_word w) || b.assigning && changes_shell w then None
    else Some (with_word w b))

abbrev pub command_word : FoundWord → Building → Option Building
command_word w b = if b.closed then None else elim b.words [ [] ↦ first_word w b | v ∷ words ↦ further_word w b ]

-- ---- a `for` before its body. It is reported as a fault when it is run, and its status is 1, unless one word is its name, with `in`
-- straight after it, and all its words are in one list, which a separator ends (`run_list_real`). One without a name does
-- nothing, and its status is 0

abbrev pub nest_at_do : Building → Nest
nest_at_do b = if b.spoilt then nests.unmet b.nest else (if b.nameless then nests.idle b.nest else b.nest)

abbrev pub header_read : Building → Building
header_read b = record b { nest = nest_at_do b; nameless = false; spoilt = false; misname = [] }

-- each turn of a `for` whose name is none starts with a command `WORD=VALUE`, which no board has (`run_pipe_real`)
abbrev pub no_assignment : (misname : List ℕ) → Command
no_assignment misname = tree.Simple ((tree.Bytes (misname ++ ascii.equals ∷ []) ∷ []) ∷ [])

abbrev pub with_misname : (misname : List ℕ) → Building → Building
with_misname misname b =
    if has_bytes misname
    then record b { nest = nests.list_closed (nests.command_added (no_assignment misname) b.nest) } else b

abbrev pub body_begun : Building → Option Building
body_begun b = option_map (with_misname b.misname) (goes_on r.Do (header_read b))

abbrev pub spoil : Building → Building
spoil b = record b { spoilt = true }

-- the first word after `in`: `do` is there without a list of words
abbrev pub first_of_for : Option Reserved → FoundWord → Building → Option Building
first_of_for None w b = Some (with_word w b)
first_of_for (Some r.Do) w b = body_begun (record b { spoilt = not b.nameless })
first_of_for (Some word) w b = None

abbrev pub word_of_for : FoundWord → Building → Option Building
word_of_for w b = elim b.words [ [] ↦ first_of_for (reserved_in w) w b | v ∷ words ↦ Some (with_word w b) ]

-- after the words of a `for`: `do`, or a further list
abbrev pub first_behind : Option Reserved → FoundWord → Building → Option Building
first_behind None w b = Some (spoil (with_word w b))
first_behind (Some r.Do) w b = body_begun b
first_behind (Some word) w b = None

abbrev pub word_behind : FoundWord → Building → Option Building
word_behind w b = elim b.words [ [] ↦ first_behind (reserved_in w) w b | v ∷ words ↦ Some (with_word w b) ]

-- after a name: `in`, or a further word
abbrev pub word_at_in : Option Reserved → Building → Option Building
word_at_in None b = Some (spoil b)
word_at_in (Some r.In) b = goes_on r.In b
word_at_in (Some word) b = None

abbrev pub misnamed : Option (List ℕ) → Building → Option Building
misnamed None b = None
misnamed (Some misname) b = Some (record b { nest = nests.named misname b.nest; misname = misname })

abbrev pub named : Option (List ℕ) → (misname : Option (List ℕ)) → Building → Option Building
named None misname b = misnamed misname b
named (Some name) misname b = Some (record b { nest = nests.named name b.nest })

-- `in` straight after `for`
abbrev pub without_name : Building → Option Building
without_name b = if b.spoilt then None else goes_on r.In (record b { nest = nests.named [] b.nest; nameless = true })

abbrev pub word_at : Part → FoundWord → Building → Option Building
word_at p.Name w b = if is_in (reserved_in w) then without_name b else named (name_in w) (misname_in w) b
word_at p.In w b = word_at_in (reserved_in w) b
word_at p.Words w b = word_of_for w b
word_at p.Do w b = word_behind w b
word_at part w b = command_word w b

-- `;` or a newline (`done_pipe`)
abbrev pub list_separated : Building → Building
list_separated b = record (command_ended b) { nest = nests.list_closed (command_ended b).nest; separated = true }

-- the words of a `for` are whole
abbrev pub for_worded : Building → Building
for_worded b = record b { nest = nests.worded (map word_of b.words) b.nest; words = [] }

abbrev pub end_at : Part → Building → Option Building
end_at p.Name b = Some (spoil b)
end_at p.In b = Some (spoil b)
end_at p.Words b = Some (for_worded b)
end_at p.Do b = Some (record b { words = [] })
end_at part b = Some (list_separated b)

abbrev pub has_command : Building → Bool
has_command b = b.closed || elim b.words [ [] ↦ false | w ∷ words ↦ true ]

-- after no command an operator does nothing
abbrev pub joined_in : Op → Building → Building
joined_in op b = if has_command b then joined_by op b else b

abbrev pub join_in : Op → Building → Option Building
join_in op b = if nests.is_header (part_in b) then end_at (part_in b) b else Some (joined_in op b)

unfoldable pub read_token : Token → Building → Option Building
read_token (Word w) b = word_at (part_in b) w b
read_token Ends b = end_at (part_in b) b
read_token (Joins op) b = join_in op b
read_token Breaks b = None

abbrev pub read_tokens : List Token → Building → Option Building
read_tokens [] b = Some b
read_tokens (token ∷ tokens) b = elim (read_token token b) [ None ↦ None | Some next ↦ read_tokens tokens next ]

-- ---- the whole

-- the tree, if no compound command is open
abbrev pub tree_in : Building → Option Script
tree_in b = if is_open b then None else Some (nests.script_in b.nest)

abbrev pub tree_behind : Option Building → Option Script
tree_behind built = elim built [ None ↦ None | Some b ↦ tree_in b ]

abbrev pub tree_of_tokens : (newer : Bool) → List Token → Option Script
tree_of_tokens newer tokens = tree_behind (read_tokens tokens (nothing_built newer))

-- the tree of a text in 2023.01, or in 2025.01
unfoldable pub old_tree_of : (newer : Bool) → (text : List ℕ) → Option Script
unfolding behind_variable old_tokens read read_open word_of_if word_of_loop reserved_bytes assignment read_token
old_tree_of newer text = elim (old_tokens text) [ None ↦ None | Some tokens ↦ tree_of_tokens newer tokens ]

-- whether the text ends in a compound command that is open
abbrev pub is_open_behind : Option Building → Bool
is_open_behind built = elim built [ None ↦ false | Some b ↦ is_open b ]

abbrev pub are_open : (newer : Bool) → List Token → Bool
are_open newer tokens = is_open_behind (read_tokens tokens (nothing_built newer))

unfoldable pub lacks_end : (newer : Bool) → (text : List ℕ) → Bool
unfolding behind_variable old_tokens read read_open word_of_if word_of_loop reserved_bytes assignment read_token
lacks_end newer text = elim (old_tokens text) [ None ↦ false | Some tokens ↦ are_open newer tokens ]

-- ---- faults

-- whether a reserved word may not be in this part of a compound command (`reserved_word`, its `syntax`)
abbrev pub strays : Part → Reserved → Bool
strays (p.Condition further) r.Then = false
strays (p.Arm further) r.Elif = false
strays (p.Arm further) r.Else = false
strays (p.Arm further) r.Fi = false
strays p.Else r.Fi = false
strays (p.Group braces) r.Elif = false
strays (p.Group braces) r.Else = false
strays (p.Group braces) r.Fi = false
strays p.Test r.Do = false
strays p.Body r.Done = false
strays p.Each r.Done = false
strays part word = not (nests.begins word)

abbrev pub is_stray : Part → Option Reserved → Bool
is_stray part None = false
is_stray part (Some word) = strays part word

abbrev pub lacks_words : Building → Bool
lacks_words b = elim b.words [ [] ↦ true | word ∷ words ↦ false ]

-- whether a word is a reserved one, but neither `in` nor `do`
abbrev pub is_other_than_in : Option Reserved → Bool
is_other_than_in word = is_some word && not (is_in word)

abbrev pub is_other_than_do : Option Reserved → Bool
is_other_than_do word = is_some word && not (is_do word)

-- a word that is a fault: any straight after a compound command; and a reserved word that may not be there, is the name of a
-- `for`, or is the first of its words
abbrev pub is_wrong : Part → FoundWord → Building → Bool
is_wrong p.Name w b = is_other_than_in (reserved_in w)
is_wrong p.In w b = is_other_than_in (reserved_in w)
is_wrong p.Words w b = lacks_words b && is_other_than_do (reserved_in w)
is_wrong p.Do w b = lacks_words b && is_other_than_do (reserved_in w)
is_wrong part w b = b.closed || lacks_words b && is_stray part (reserved_in w)

-- whether a token that is not followed is a fault. One straight in front of a `;` or an operator is reported, and then the shell reads
-- on (`parse_stream`), which is not followed
abbrev pub is_fault : Token → Building → Bool
is_fault (Word w) b = w.apart && is_wrong (part_in b) w b
is_fault Ends b = false
is_fault (Joins op) b = false
is_fault Breaks b = true

-- whether the first token that is not followed is a fault; or if there is none, whether a compound command is open at the end
abbrev pub have_fault : List Token → Building → Bool
have_fault [] b = is_open b
have_fault (token ∷ tokens) b = elim (read_token token b) [ None ↦ is_fault token b | Some next ↦ have_fault tokens next ]

abbrev pub tokens_have_fault : (newer : Bool) → List Token → Bool
tokens_have_fault newer tokens = have_fault tokens (nothing_built newer)

-- whether a text that `run` starts has a fault: nothing of it is run
unfoldable pub has_fault : (newer : Bool) → (text : List ℕ) → Bool
unfolding behind_variable old_tokens read read_open word_of_if word_of_loop reserved_bytes assignment read_token
has_fault newer text = elim (old_tokens text) [ None ↦ false | Some tokens ↦ tokens_have_fault newer tokens ]
