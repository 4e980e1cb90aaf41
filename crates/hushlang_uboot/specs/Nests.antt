-- The block on the way and the compound commands that are open, in a text that U-Boot's old shell or its modern one reads: both
-- have the same reserved words, and nest commands alike. What each of them refuses is in the rules of its trees.
use Rattle.std.specs.Prelude.{ℕ, ◌==◌, Bool, true, false, not, ◌&&◌, List, [], ◌∷◌, ◌++◌, length, nat_lt, if◌then◌else◌, Option, Some, None, is_some, codes, bytes_eq}
use Rattle.hushlang.specs.Tree as tree
use Rattle.hushlang.specs.Tree.{Script, AndOr, Command}
use Rattle.hushlang.specs.TreesShown.{runs, joins, arms as all_arms}
use Rattle.hushlang.specs.Grammar.{max_nesting}
use Rattle.hushlang.specs.declared.tree.Op.{Op}
use Rattle.hushlang.specs.declared.tree.Op.TheVariants.{And}
use Rattle.hushlang_uboot.specs.declared.part.Part.{Part}
use Rattle.hushlang_uboot.specs.declared.part.Part.TheVariants as p
use Rattle.hushlang_uboot.specs.declared.reserved.Reserved.{Reserved}
use Rattle.hushlang_uboot.specs.declared.reserved.Reserved.TheVariants as r

-- ---- reserved words

unfoldable pub word_of_if : List ℕ → Option Reserved
word_of_if bytes =
    if bytes_eq bytes (codes "if") then Some r.If
    else (if bytes_eq bytes (codes "then") then Some r.Then
    else (if bytes_eq bytes (codes "elif") then Some r.Elif
    else (if bytes_eq bytes (codes "else") then Some r.Else
    else (if bytes_eq bytes (codes "fi") then Some r.Fi
    else None))))

unfoldable pub word_of_loop : List ℕ → Option Reserved
word_of_loop bytes =
    if bytes_eq bytes (codes "for") then Some r.For
    else (if bytes_eq bytes (codes "while") then Some r.While
    else (if bytes_eq bytes (codes "until") then Some r.Until
    else (if bytes_eq bytes (codes "do") then Some r.Do
    else (if bytes_eq bytes (codes "done") then Some r.Done
    else (if bytes_eq bytes (codes "in") then Some r.In
    else None)))))

unfoldable pub reserved_bytes : List ℕ → Option Reserved
reserved_bytes bytes = elim (word_of_if bytes) [ Some word ↦ Some word | None ↦ word_of_loop bytes ]

abbrev pub reserved_among : Option (List ℕ) → Option Reserved
reserved_among None = None
reserved_among (Some bytes) = reserved_bytes bytes

abbrev pub is_in : Option Reserved → Bool
is_in (Some r.In) = true
is_in word = false

abbrev pub is_do : Option Reserved → Bool
is_do (Some r.Do) = true
is_do word = false

-- ---- blocks

-- a block on the way: its and-or lists that are whole; of the list on the way its first command, those that are joined to it,
-- and the operator after them
pub record Block : Type 0 where
  pub lists : List AndOr
  pub first : Option Command
  pub rest : List (Op × Command)
  pub op : Op

abbrev pub no_command : Block
no_command = record { lists = []; first = None; rest = []; op = And }

abbrev pub with_command : Command → Block → Block
with_command c block = elim block.first [
  | None ↦ record block { first = Some c }
  | Some first ↦ record block { rest = block.rest ++ (block.op, c) ∷ [] }
]

-- the list on the way ends. An operator after its last command does nothing then
abbrev pub list_ended : Block → Block
list_ended block = elim block.first [
  | None ↦ block
  | Some first ↦ record block { lists = block.lists ++ tree.Starts first (joins block.rest) ∷ []; first = None; rest = [] }
]

abbrev pub lacks_command : Block → Bool
lacks_command block = length block.lists == 0 && not (is_some block.first)

-- a block without a command has one without words
abbrev pub body_of : List AndOr → Script
body_of [] = runs (tree.Starts (tree.Simple []) tree.Alone ∷ [])
body_of (list ∷ lists) = runs (list ∷ lists)

-- ---- compound commands

-- a compound command that is open
pub data Compound : Type 0 where
  -- `if` and the arms that are whole, in the condition of the next arm, in its block, and in the `else` block
  Condition : (arms : List (Script × Script)) → Compound
  Arm : (arms : List (Script × Script)) → (condition : Script) → Compound
  Else : (arms : List (Script × Script)) → Compound
  -- `while` or `until`, in the condition and in the body
  Test : (until : Bool) → Compound
  Body : (until : Bool) → (condition : Script) → Compound
  -- `for`, before its name, of `in`, in the words, before `do`, and in the body
  Name : Compound
  In : (name : List ℕ) → Compound
  Words : (name : List ℕ) → Compound
  Do : (name : List ℕ) → (words : List tree.Word) → Compound
  Each : (name : List ℕ) → (words : List tree.Word) → Compound
  -- a group: in braces, or else the block of an `if` whose condition holds without a command
  Group : (braces : Bool) → Compound

-- the part of it that a text is in; of a condition and of an arm, whether other arms are before it
abbrev pub part_of : Compound → Part
part_of (Condition arms) = p.Condition (not (length arms == 0))
part_of (Arm arms condition) = p.Arm (not (length arms == 0))
part_of (Else arms) = p.Else
part_of (Test until) = p.Test
part_of (Body until condition) = p.Body
part_of Name = p.Name
part_of (In name) = p.In
part_of (Words name) = p.Words
part_of (Do name words) = p.Do
part_of (Each name words) = p.Each
part_of (Group braces) = p.Group braces

-- a `for` before its body
abbrev pub is_header : Part → Bool
is_header p.Name = true
is_header p.In = true
is_header p.Words = true
is_header p.Do = true
is_header part = false

-- the compound command that a word begins
abbrev pub begun_by : Reserved → Option Compound
begun_by r.If = Some (Condition [])
begun_by r.While = Some (Test false)
begun_by r.Until = Some (Test true)
begun_by r.For = Some Name
begun_by r.OpenBrace = Some (Group true)
begun_by word = None

abbrev pub begins : Reserved → Bool
begins word = is_some (begun_by word)

-- what another reserved word does with the innermost compound command, of which a block ends
pub data Next : Type 0 where
  -- it goes on
  Enters : (compound : Compound) → Next
  -- it ends
  Closes : (command : Command) → Next
  -- the word is none that may be here
  Strays : Next

-- a group has the status of its last command: it is an `if` with the group as its condition, and a block without a command
abbrev pub group_of : (body : Script) → Command
group_of body = tree.If (all_arms ((body, body_of []) ∷ []) None)

-- by what may follow each word (`reserved_word`). A `for` without `in` has no words
abbrev pub next_part : Compound → Reserved → (body : Script) → Next
next_part (Condition arms) r.Then body = Enters (Arm arms body)
next_part (Arm arms condition) r.Elif body = Enters (Condition (arms ++ (condition, body) ∷ []))
next_part (Arm arms condition) r.Else body = Enters (Else (arms ++ (condition, body) ∷ []))
next_part (Arm arms condition) r.Fi body = Closes (tree.If (all_arms (arms ++ (condition, body) ∷ []) None))
next_part (Else arms) r.Fi body = Closes (tree.If (all_arms arms (Some body)))
next_part (Test until) r.Do body = Enters (Body until body)
next_part (Body until condition) r.Done body = Closes (tree.Loop until condition body)
next_part (In name) r.In body = Enters (Words name)
next_part (In name) r.Do body = Enters (Each name [])
next_part (Do name words) r.Do body = Enters (Each name words)
next_part (Each name words) r.Done body = Closes (tree.For name words body)
next_part (Group false) r.Fi body = Closes (group_of body)
next_part (Group true) r.CloseBrace body = Closes (group_of body)
next_part compound word body = Strays

-- the name of a `for` has been read, and its words have
abbrev pub name_read : (name : List ℕ) → Compound → Compound
name_read name Name = In name
name_read name compound = compound

abbrev pub words_read : (words : List tree.Word) → Compound → Compound
words_read words (Words name) = Do name words
words_read words compound = compound

-- ---- the whole

-- the block on the way; and each open compound command with the block that it is in, the innermost first
pub record Nest : Type 0 where
  pub block : Block
  pub opens : List (Compound × Block)

abbrev pub nothing_open : Nest
nothing_open = record { block = no_command; opens = [] }

abbrev pub is_open : Nest → Bool
is_open n = not (length n.opens == 0)

abbrev pub is_full : Nest → Bool
is_full n = not (nat_lt (length n.opens) max_nesting)

abbrev pub part_among : List (Compound × Block) → Part
part_among [] = p.Outside
part_among (first ∷ opens) = part_of first.0

-- the part of the innermost compound command that the text is in
abbrev pub part_in : Nest → Part
part_in n = part_among n.opens

abbrev pub command_added : Command → Nest → Nest
command_added c n = record n { block = with_command c n.block }

-- an operator is after the commands of the list on the way
abbrev pub operator_read : Op → Nest → Nest
operator_read op n = record n { block = record n.block { op = op } }

abbrev pub list_closed : Nest → Nest
list_closed n = record n { block = list_ended n.block }

-- a compound command begins
abbrev pub begun : Reserved → Nest → Nest
begun word n = elim (begun_by word) [
  | None ↦ n
  | Some compound ↦ record { block = no_command; opens = (compound, n.block) ∷ n.opens }
]

-- where another reserved word leads to: the innermost compound command has gone on with its next part, or has ended, or the word
-- may not be here
pub data Gone : Type 0 where
  Entered : (nest : Nest) → Gone
  Closed : (nest : Nest) → Gone
  Astray : Gone

abbrev pub gone_to : Next → (outer : Block) → List (Compound × Block) → Gone
gone_to (Enters compound) outer opens = Entered (record { block = no_command; opens = (compound, outer) ∷ opens })
gone_to (Closes command) outer opens = Closed (record { block = with_command command outer; opens = opens })
gone_to Strays outer opens = Astray

abbrev pub goes_among : Reserved → (body : Script) → List (Compound × Block) → Gone
goes_among word body [] = Astray
goes_among word body (first ∷ opens) = gone_to (next_part first.0 word body) first.1 opens

abbrev pub goes_on : Reserved → Nest → Gone
goes_on word n = goes_among word (body_of (list_ended n.block).lists) n.opens

abbrev pub turned : (Compound → Compound) → List (Compound × Block) → List (Compound × Block)
turned turn [] = []
turned turn (first ∷ opens) = (turn first.0, first.1) ∷ opens

-- the name of the `for` that is the innermost compound command has been read, and its words have
abbrev pub named : (name : List ℕ) → Nest → Nest
named name n = record n { opens = turned (name_read name) n.opens }

abbrev pub worded : (words : List tree.Word) → Nest → Nest
worded words n = record n { opens = turned (words_read words) n.opens }

-- the block of an `if` whose condition holds without a command begins
abbrev pub given : Nest → Nest
given n = record { block = no_command; opens = turned (λ compound. Group false) n.opens }

-- a loop whose body is never run, and whose status is 0: a `for` without words, before `do`
abbrev pub idle : Nest → Nest
idle n = record n { opens = turned (λ compound. In []) n.opens }

abbrev pub false_command : Command
false_command = tree.Simple ((tree.Bytes (codes "false") ∷ []) ∷ [])

-- a loop whose body is never run, and whose status is 1: `while false`, before `do`
abbrev pub unmet : Nest → Nest
unmet n = record { block = with_command false_command no_command; opens = turned (λ compound. Test false) n.opens }

-- the and-or lists that are whole
abbrev pub script_in : Nest → Script
script_in n = runs n.block.lists
