-- The grammar: a case for each production. The tokens start with what the tree says, and `rest` is what follows. After
-- the hush shell of the U-Boot documentation, doc/usage/cmdline. Ours are the limit of levels, the rule that no block
-- is empty, and the places at which reserved words and assignments count.
use Rattle.std.specs.Prelude.{◌≡◌, ℕ, suc, Bool, true, false, List, [], ◌∷◌, map, Option, Some, None, ◌&&◌, ◌==◌, if◌then◌else◌, is_some, codes, option_map}
use Rattle.std.specs.List.{list_all}
use Rattle.text.specs.Bytes as ascii
use Rattle.hushlang.specs.ByteClasses.{begins_name, is_name_byte}
use Rattle.hushlang.specs.Token.{Part, Plain, Token}
use Rattle.hushlang.specs.Words.{reserved, plain_bytes, is_plain}
use Rattle.hushlang.specs.WordPieces.{pieces}
use Rattle.hushlang.specs.Tree.{Script, Empty, Runs, AndOr, Starts, Joined, Alone, Joins, Command, Simple, Assign, If, Loop, For, Arms, NoElse, Else, Arm, Word}
use Rattle.hushlang.specs.declared.tree.Op.{Op}
use Rattle.hushlang.specs.declared.tree.Op.TheVariants.{And, Or}
use Rattle.hushlang.specs.declared.token.Kind.{Kind}
use Rattle.hushlang.specs.declared.token.Kind.TheVariants as kinds
use Rattle.hushlang.specs.declared.words.Reserved.{Reserved}
use Rattle.hushlang.specs.declared.words.Reserved.TheVariants as r

abbrev pub word_token : Kind → Bool
word_token kinds.Word = true
word_token _ = false

abbrev pub is_word : Token → Bool
is_word t = word_token t.kind

abbrev pub separates : Kind → Bool
separates kinds.Semi = true
separates kinds.Newline = true
separates _ = false

abbrev pub is_separator : Token → Bool
is_separator t = separates t.kind

-- the reserved word that a token is
abbrev pub reserved_if : Kind → List Part → Option Reserved
reserved_if kinds.Word parts = reserved parts
reserved_if _ parts = None

unfoldable pub reserved_of : Token → Option Reserved
reserved_of t = reserved_if t.kind t.parts

abbrev pub op_at : Kind → Option Op
op_at kinds.AndAnd = Some And
op_at kinds.OrOr = Some Or
op_at _ = None

abbrev pub op_of : Token → Option Op
op_of t = op_at t.kind

-- the tokens without those at the start that pass a test
abbrev pub past_if : Bool → List Token → List Token → List Token
past_if true all more = more
past_if false all more = all

abbrev pub past : (Token → Bool) → List Token → List Token
past test [] = []
past test (t ∷ tokens) = past_if (test t) (t ∷ tokens) (past test tokens)

abbrev pub newlines : Kind → Bool
newlines kinds.Newline = true
newlines _ = false

abbrev pub is_newline_token : Token → Bool
is_newline_token t = newlines t.kind

-- the words at the start
abbrev pub words_if : Bool → Token → List Token → List Token
words_if true t more = t ∷ more
words_if false t more = []

abbrev pub words : List Token → List Token
words [] = []
words (t ∷ tokens) = words_if (is_word t) t (words tokens)

abbrev pub word_of : Token → Word
word_of t = pieces t.parts

-- ---- names and assignments

-- a letter or `_`, then letters, digits and `_`
abbrev pub is_name : List ℕ → Bool
is_name [] = false
is_name (b ∷ bytes) = begins_name b && list_all is_name_byte bytes

-- a word that starts with ordinary bytes that spell a name and `=`: the name, and the parts of the value
abbrev pub with_front : ℕ → Option (List ℕ × List Part) → Option (List ℕ × List Part)
with_front b None = None
with_front b (Some found) = Some (b ∷ found.0, found.1)

abbrev pub up_to_equals : List Part → Option (List ℕ × List Part)
up_to_equals [] = None
up_to_equals (Plain b ∷ parts) = if b == ascii.equals then Some ([], parts) else with_front b (up_to_equals parts)
up_to_equals (part ∷ parts) = None

abbrev pub named : Option (List ℕ × List Part) → Option (List ℕ × List Part)
named None = None
named (Some found) = if is_name found.0 then Some found else None

unfoldable pub assignment : List Part → Option (List ℕ × List Part)
assignment parts = named (up_to_equals parts)

abbrev pub name_at : Option (List ℕ) → Option (List ℕ)
name_at None = None
name_at (Some bytes) = if is_name bytes then Some bytes else None

-- the name that a word of ordinary bytes spells
unfoldable pub name_of : List Part → Option (List ℕ)
name_of parts = name_at (plain_bytes parts)

abbrev pub name_if : Bool → List Part → Option (List ℕ)
name_if false parts = None
name_if true parts = name_of parts

-- the word `in`, which follows the name of a `for`
unfoldable pub is_in_word : Token → Bool
is_in_word t = is_word t && is_plain (codes "in") t.parts

-- the name that a token spells
unfoldable pub name_in : Token → Option (List ℕ)
name_in t = name_if (is_word t) t.parts

abbrev pub value_of : List ℕ × List Part → List ℕ × Word
value_of found = (found.0, pieces found.1)

-- the parts of a word are an assignment of this name and value
abbrev pub IsAssignment : List Part → List ℕ × Word → Type 0
IsAssignment parts value = option_map value_of (assignment parts) ≡ Some value

-- the tokens are assignments, and these are their names and values
pub data AreAssignments : List Token → List (List ℕ × Word) → Type 0 where
  no_word : AreAssignments [] []
  assigned : {t : Token} {tokens : List Token} {values : List (List ℕ × Word)} (found : List ℕ × List Part) →
      assignment t.parts ≡ Some found → AreAssignments tokens values →
      AreAssignments (t ∷ tokens) (value_of found ∷ values)

-- ---- what may follow a block: a reserved word that goes on or ends, or the end of the text
abbrev pub closes : Reserved → Bool
closes r.If = false
closes r.For = false
closes r.While = false
closes r.Until = false
closes _ = true

abbrev pub closes_at : Option Reserved → Bool
closes_at None = false
closes_at (Some word) = closes word

abbrev pub ends_block : List Token → Bool
ends_block [] = true
ends_block (t ∷ tokens) = closes_at (reserved_of t)

abbrev pub goes_on : List Token → Option Op
goes_on [] = None
goes_on (t ∷ tokens) = op_of t

mutual
  pub data IsCommand : (depth : ℕ) → (tokens : List Token) → (command : Command) → (rest : List Token) → Type 0 where
    -- all words up to the next token that is not a word
    simple : {depth : ℕ} (t : Token) (tokens : List Token) → is_word t ≡ true → reserved_of t ≡ None →
        assignment t.parts ≡ None →
        IsCommand depth (t ∷ tokens) (Simple (map word_of (words (t ∷ tokens)))) (past is_word (t ∷ tokens))
    assign : {depth : ℕ} (t : Token) (tokens : List Token) {values : List (List ℕ × Word)} → is_word t ≡ true →
        reserved_of t ≡ None → is_some (assignment t.parts) ≡ true → AreAssignments (words (t ∷ tokens)) values →
        IsCommand depth (t ∷ tokens) (Assign values) (past is_word (t ∷ tokens))
    «if» : {depth : ℕ} {t fi : Token} {tokens rest : List Token} {arms : Arms} → reserved_of t ≡ Some r.If →
        IsArms depth tokens arms (fi ∷ rest) → reserved_of fi ≡ Some r.Fi →
        IsCommand (suc depth) (t ∷ tokens) (If arms) rest
    «while» : {depth : ℕ} {t : Token} {tokens rest : List Token} {cond body : Script} → reserved_of t ≡ Some r.While →
        IsLoop depth tokens cond body rest → IsCommand (suc depth) (t ∷ tokens) (Loop false cond body) rest
    until : {depth : ℕ} {t : Token} {tokens rest : List Token} {cond body : Script} → reserved_of t ≡ Some r.Until →
        IsLoop depth tokens cond body rest → IsCommand (suc depth) (t ∷ tokens) (Loop true cond body) rest
    for_in : {depth : ℕ} {t named in_word sep : Token} (tokens : List Token) {after rest : List Token} {name : List ℕ}
        {body : Script} → reserved_of t ≡ Some r.For → name_in named ≡ Some name → is_in_word in_word ≡ true →
        past is_word tokens ≡ sep ∷ after → is_separator sep ≡ true →
        IsBody depth (past is_separator after) body rest →
        IsCommand (suc depth) (t ∷ named ∷ in_word ∷ tokens) (For name (map word_of (words tokens)) body) rest

  -- a condition, `then` and a block, and what comes before `fi`
  pub data IsArms : (depth : ℕ) → (tokens : List Token) → (arms : Arms) → (rest : List Token) → Type 0 where
    arm : {depth : ℕ} {then_word : Token} {tokens after more rest : List Token} {cond body : Script} {arms : Arms} →
        IsBlock depth tokens cond (then_word ∷ after) → reserved_of then_word ≡ Some r.Then →
        IsBlock depth after body more → IsMore depth more arms rest → IsArms depth tokens (Arm cond body arms) rest

  pub data IsMore : (depth : ℕ) → (tokens : List Token) → (arms : Arms) → (rest : List Token) → Type 0 where
    arms_end : {depth : ℕ} {fi : Token} {rest : List Token} → reserved_of fi ≡ Some r.Fi →
        IsMore depth (fi ∷ rest) NoElse (fi ∷ rest)
    «else» : {depth : ℕ} {t : Token} {tokens rest : List Token} {body : Script} → reserved_of t ≡ Some r.Else →
        IsBlock depth tokens body rest → IsMore depth (t ∷ tokens) (Else body) rest
    elif : {depth : ℕ} {t : Token} {tokens rest : List Token} {arms : Arms} → reserved_of t ≡ Some r.Elif →
        IsArms depth tokens arms rest → IsMore depth (t ∷ tokens) arms rest

  -- a condition, and `do`, a block and `done`
  pub data IsLoop : (depth : ℕ) → (tokens : List Token) → (cond body : Script) → (rest : List Token) → Type 0 where
    loop : {depth : ℕ} {tokens after rest : List Token} {cond body : Script} → IsBlock depth tokens cond after →
        IsBody depth after body rest → IsLoop depth tokens cond body rest

  pub data IsBody : (depth : ℕ) → (tokens : List Token) → (body : Script) → (rest : List Token) → Type 0 where
    body : {depth : ℕ} {begin done : Token} {tokens rest : List Token} {body : Script} →
        reserved_of begin ≡ Some r.Do → IsBlock depth tokens body (done ∷ rest) → reserved_of done ≡ Some r.Done →
        IsBody depth (begin ∷ tokens) body rest

  pub data IsBlock : (depth : ℕ) → (tokens : List Token) → (block : Script) → (rest : List Token) → Type 0 where
    block : {depth : ℕ} (tokens : List Token) {block : Script} {rest : List Token} →
        IsLists depth (past is_separator tokens) block rest → IsBlock depth tokens block rest

  -- and-or lists with separators between. After a simple command or assignments, no word comes without a separator
  pub data IsLists : (depth : ℕ) → (tokens : List Token) → (lists : Script) → (rest : List Token) → Type 0 where
    last : {depth : ℕ} {tokens : List Token} (after : List Token) {list : AndOr} → IsAndOr depth tokens list after →
        ends_block (past is_separator after) ≡ true → IsLists depth tokens (Runs list Empty) (past is_separator after)
    more : {depth : ℕ} {sep : Token} {tokens after rest : List Token} {list : AndOr} {lists : Script} →
        IsAndOr depth tokens list (sep ∷ after) → is_separator sep ≡ true →
        IsLists depth (past is_separator after) lists rest → IsLists depth tokens (Runs list lists) rest

  pub data IsAndOr : (depth : ℕ) → (tokens : List Token) → (list : AndOr) → (rest : List Token) → Type 0 where
    starts : {depth : ℕ} {tokens after rest : List Token} {first : Command} {joined : Joined} →
        IsCommand depth tokens first after → IsJoined depth after joined rest →
        IsAndOr depth tokens (Starts first joined) rest

  pub data IsJoined : (depth : ℕ) → (tokens : List Token) → (joined : Joined) → (rest : List Token) → Type 0 where
    alone : {depth : ℕ} {tokens : List Token} → goes_on tokens ≡ None → IsJoined depth tokens Alone tokens
    joins : {depth : ℕ} {t : Token} {op : Op} (tokens : List Token) {after rest : List Token} {command : Command}
        {joined : Joined} → op_of t ≡ Some op → IsCommand depth (past is_newline_token tokens) command after →
        IsJoined depth after joined rest → IsJoined depth (t ∷ tokens) (Joins op command joined) rest

-- all tokens are a script
pub data IsScript : (depth : ℕ) → (tokens : List Token) → (script : Script) → Type 0 where
  no_command : {depth : ℕ} {tokens : List Token} → past is_separator tokens ≡ [] → IsScript depth tokens Empty
  commands : {depth : ℕ} (tokens : List Token) {script : Script} →
      IsLists depth (past is_separator tokens) script [] → IsScript depth tokens script

-- compound commands may be nested at most this deep
abbrev pub max_nesting : ℕ
max_nesting = 64

abbrev pub Derives : (tokens : List Token) → (script : Script) → Type 0
Derives tokens script = IsScript max_nesting tokens script
