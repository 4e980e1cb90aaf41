-- The tree of a row of tokens, computed. `Derives` says what it is.
-- Ours.
use Rattle.std.specs.Prelude.{◌≡◌, ◌≢◌, ℕ, zero, suc, Bool, true, false, if◌then◌else◌, List, [], ◌∷◌, ◌++◌, map, length, Option, Some, None, Result, Ok, Err, is_some}
use Rattle.hushlang.specs.Token.{Part, Token, End, Whole, Refused}
use Rattle.hushlang.specs.Grammar.{is_word, is_separator, is_newline_token, reserved_of, past, words, word_of, assignment, value_of, name_in, is_in_word, ends_block, goes_on}
use Rattle.hushlang.specs.Tree.{Script, Empty, AndOr, Starts, Joined, Command, Simple, Assign, If, Loop, For, Arms, Word}
use Rattle.hushlang.specs.TreesShown.{runs, joins as joins_of, arms as arms_of}
use Rattle.hushlang.specs.declared.tree.Op.{Op}
use Rattle.hushlang.specs.declared.words.Reserved.{Reserved}
use Rattle.hushlang.specs.declared.words.Reserved.TheVariants as r
use Rattle.hushlang.specs.declared.token.SyntaxError.{SyntaxError}
use Rattle.hushlang.specs.declared.token.SyntaxError.TheVariants.{Unexpected, MissingWord, AssignmentBeforeCommand, TooDeep, Memory}

-- the tokens that are left, how they end, and how long the text is
pub record Input : Type 0 where
  pub tokens : List Token
  pub end : End
  pub size : ℕ

abbrev pub Parsed : Type 0 → Type 0
Parsed A = Result (A × Input) SyntaxError

abbrev pub Parser : Type 0 → Type 0
Parser A = Input → Parsed A

abbrev pub and_then : {A B : Type 0} → Parsed A → (A → Parser B) → Parsed B
and_then (Ok p) f = f p.0 p.1
and_then (Err e) f = Err e

infixl 10 ◌>>=◌
abbrev pub ◌>>=◌ : {A B : Type 0} → Parser A → (A → Parser B) → Parser B
p >>= f = λ i. and_then (p i) f

infixl 10 ◌>>◌
abbrev pub ◌>>◌ : {A B : Type 0} → Parser A → Parser B → Parser B
p >> q = p >>= (λ _. q)

abbrev pub pure : {A : Type 0} → A → Parser A
pure a = λ i. Ok (a, i)

-- ---- the next token

abbrev pub at_end : End → ℕ → SyntaxError
at_end Whole size = Unexpected size
at_end (Refused error) size = error

-- why no rule takes the next token
abbrev pub refusal_at : List Token → End → ℕ → SyntaxError
refusal_at [] end size = at_end end size
refusal_at (t ∷ tokens) end size = Unexpected t.start

unfoldable pub refusal : Input → SyntaxError
refusal i = refusal_at i.tokens i.end i.size

abbrev pub refuse : {A : Type 0} → Parser A
refuse = λ i. Err (refusal i)

abbrev pub reserved_first : List Token → Option Reserved
reserved_first [] = None
reserved_first (t ∷ tokens) = reserved_of t

-- the reserved word that the next token is
unfoldable pub keyword : Input → Option Reserved
keyword i = reserved_first i.tokens

abbrev pub rest_of : List Token → List Token
rest_of [] = []
rest_of (t ∷ tokens) = tokens

unfoldable pub next : Input → Input
next i = record i { tokens = rest_of i.tokens }

unfoldable pub behind : (Token → Bool) → Input → Input
behind test i = record i { tokens = past test i.tokens }

abbrev pub is_keyword : Reserved → Option Reserved → Bool
is_keyword r.If (Some r.If) = true
is_keyword r.Then (Some r.Then) = true
is_keyword r.Elif (Some r.Elif) = true
is_keyword r.Else (Some r.Else) = true
is_keyword r.Fi (Some r.Fi) = true
is_keyword r.For (Some r.For) = true
is_keyword r.While (Some r.While) = true
is_keyword r.Until (Some r.Until) = true
is_keyword r.Do (Some r.Do) = true
is_keyword r.Done (Some r.Done) = true
is_keyword _ _ = false

unfoldable pub sees : Reserved → Input → Bool
sees word i = is_keyword word (keyword i)

unfoldable pub expect : Reserved → Parser (Unit {0})
expect word = λ i. if sees word i then Ok (tt, next i) else refuse i

abbrev pub skip : (Token → Bool) → Parser (Unit {0})
skip test = λ i. Ok (tt, behind test i)

abbrev pub first_of_all : List Token → Option Token
first_of_all [] = None
first_of_all (t ∷ tokens) = Some t

abbrev pub first : Input → Option Token
first i = first_of_all i.tokens

-- ---- the rules, with the rule of commands as a parameter

-- the operator that comes next
unfoldable pub op_next : Input → Option Op
op_next i = goes_on i.tokens

unfoldable pub closes_next : Input → Bool
closes_next i = ends_block i.tokens

abbrev pub separator_first : List Token → Bool
separator_first [] = false
separator_first (t ∷ tokens) = is_separator t

unfoldable pub separator_next : Input → Bool
separator_next i = separator_first i.tokens

abbrev pub newline_first : List Token → Bool
newline_first [] = false
newline_first (t ∷ tokens) = is_newline_token t

abbrev pub newline_next : Input → Bool
newline_next i = newline_first i.tokens

-- What is found so far is passed along. The number bounds the turns. Each turn takes a token, so the count of tokens is
-- enough.
abbrev pub joined_by : Parser Command → (List (Op × Command) → Parser Joined) → List (Op × Command) → Option Op →
    Parser Joined
joined_by command more found None = pure (joins_of found)
joined_by command more found (Some op) =
    λ i. (skip is_newline_token >> command >>= λ c. more (found ++ (op, c) ∷ [])) (next i)

unfoldable pub joined : Parser Command → ℕ → List (Op × Command) → Parser Joined
joined command zero found = joined_by command (λ f. refuse) found None
joined command (suc turns) found = λ i. joined_by command (joined command turns) found (op_next i) i

unfoldable pub joined_all : Parser Command → Parser Joined
joined_all command i = joined command (length i.tokens) [] i

unfoldable pub and_or : Parser Command → Parser AndOr
and_or command = command >>= λ first. joined_all command >>= λ more. pure (Starts first more)

-- after an and-or list: the end of the block, or a separator and further lists
abbrev pub lists_by : Parser Script → List AndOr → (separator ends : Bool) → Parser Script
lists_by more found separator true = skip is_separator >> pure (runs found)
lists_by more found true false = skip is_separator >> more
lists_by more found false false = refuse

unfoldable pub lists : Parser Command → ℕ → List AndOr → Parser Script
lists command zero found = refuse
lists command (suc turns) found =
    and_or command >>= λ list. λ i.
    lists_by (lists command turns (found ++ list ∷ [])) (found ++ list ∷ []) (separator_next i)
    (closes_next (behind is_separator i)) i

unfoldable pub lists_all : Parser Command → Parser Script
lists_all command i = lists command (suc (length i.tokens)) [] i

unfoldable pub block : Parser Command → Parser Script
block command = skip is_separator >> lists_all command

-- after an arm: `fi`, an `else` block, or another arm
abbrev pub more_by : Parser Command → (List (Script × Script) → Parser Arms) → List (Script × Script) →
    Option Reserved → Parser Arms
more_by command more found (Some r.Else) = λ i. (block command >>= λ body. pure (arms_of found (Some body))) (next i)
more_by command more found (Some r.Elif) = λ i. more found (next i)
more_by command more found (Some r.Fi) = pure (arms_of found None)
more_by command more found word = refuse

unfoldable pub arm : Parser Command → Parser (Script × Script)
arm command = do
  cond ← block command
  expect r.Then
  body ← block command
  pure (cond, body)

unfoldable pub arms : Parser Command → ℕ → List (Script × Script) → Parser Arms
arms command zero found = refuse
arms command (suc turns) found =
    arm command >>= λ one. λ i. more_by command (arms command turns) (found ++ one ∷ []) (keyword i) i

unfoldable pub arms_all : Parser Command → Parser Arms
arms_all command i = arms command (suc (length i.tokens)) [] i

unfoldable pub if_command : Parser Command → Parser Command
if_command command = do
  all ← arms_all command
  expect r.Fi
  pure (If all)

unfoldable pub body_of : Parser Command → Parser Script
body_of command = do
  expect r.Do
  body ← block command
  expect r.Done
  pure body

unfoldable pub loop_command : Bool → Parser Command → Parser Command
loop_command until command = do
  cond ← block command
  body ← body_of command
  pure (Loop until cond body)

-- ---- `for`

abbrev pub missing_at : List Token → End → ℕ → SyntaxError
missing_at [] Whole size = MissingWord size
missing_at [] (Refused error) size = error
missing_at (t ∷ tokens) end size = MissingWord t.start

-- why there is no name or no `in` here
unfoldable pub missing : Input → SyntaxError
missing i = missing_at i.tokens i.end i.size

abbrev pub name_first : List Token → Option (List ℕ)
name_first [] = None
name_first (t ∷ tokens) = name_in t

unfoldable pub name_next : Input → Option (List ℕ)
name_next i = name_first i.tokens

abbrev pub name_by : Option (List ℕ) → Parser (List ℕ)
name_by None = λ i. Err (missing i)
name_by (Some name) = λ i. Ok (name, next i)

unfoldable pub name : Parser (List ℕ)
name = λ i. name_by (name_next i) i

abbrev pub in_first : List Token → Bool
in_first [] = false
in_first (t ∷ tokens) = is_in_word t

unfoldable pub in_next : Input → Bool
in_next i = in_first i.tokens

unfoldable pub expect_in : Parser (Unit {0})
expect_in = λ i. if in_next i then Ok (tt, next i) else Err (missing i)

unfoldable pub all_words : Parser (List Word)
all_words = λ i. Ok (map word_of (words i.tokens), behind is_word i)

abbrev pub word_first_of : List Token → Option Token
word_first_of [] = None
word_first_of (t ∷ tokens) = if is_word t then Some t else None

-- the word that comes next
abbrev pub word_ahead : Input → Option Token
word_ahead i = word_first_of i.tokens

-- at least one separator
unfoldable pub separators : Parser (Unit {0})
separators = λ i. if separator_next i then Ok (tt, behind is_separator i) else refuse i

unfoldable pub for_command : Parser Command → Parser Command
for_command command = do
  name ← name
  expect_in
  words ← all_words
  separators
  body ← body_of command
  pure (For name words body)

-- ---- simple commands and assignments, if no reserved word comes next

abbrev pub assigned : Token → Option (List ℕ × List Part) → Result (List (List ℕ × Word)) SyntaxError →
    Result (List (List ℕ × Word)) SyntaxError
assigned t None more = Err (AssignmentBeforeCommand t.start)
assigned t (Some found) (Ok values) = Ok (value_of found ∷ values)
assigned t (Some found) (Err error) = Err error

-- the values of words that are all assignments
unfoldable pub assignments : List Token → Result (List (List ℕ × Word)) SyntaxError
assignments [] = Ok []
assignments (t ∷ tokens) = assigned t (assignment t.parts) (assignments tokens)

abbrev pub values_by : Result (List (List ℕ × Word)) SyntaxError → Parser (List (List ℕ × Word))
values_by (Ok values) = λ i. Ok (values, behind is_word i)
values_by (Err error) = λ i. Err error

-- the values of all words that come next
unfoldable pub all_values : Parser (List (List ℕ × Word))
all_values = λ i. values_by (assignments (words i.tokens)) i

abbrev pub assign_by : Result (List (List ℕ × Word)) SyntaxError → Parser Command
assign_by (Ok values) = λ i. Ok (Assign values, behind is_word i)
assign_by (Err error) = λ i. Err error

abbrev pub simple_by : (is_word is_assignment : Bool) → Parser Command
simple_by false assigns = refuse
simple_by true false = λ i. Ok (Simple (map word_of (words i.tokens)), behind is_word i)
simple_by true true = λ i. assign_by (assignments (words i.tokens)) i

abbrev pub word_first : List Token → Bool
word_first [] = false
word_first (t ∷ tokens) = is_word t

unfoldable pub word_next : Input → Bool
word_next i = word_first i.tokens

abbrev pub assignment_first : List Token → Bool
assignment_first [] = false
assignment_first (t ∷ tokens) = is_some (assignment t.parts)

unfoldable pub assignment_next : Input → Bool
assignment_next i = assignment_first i.tokens

unfoldable pub simple : Parser Command
simple = λ i. simple_by (word_next i) (assignment_next i) i

-- ---- commands

abbrev pub too_deep_at : List Token → SyntaxError
too_deep_at [] = TooDeep 0
too_deep_at (t ∷ tokens) = TooDeep t.start

abbrev pub too_deep : {A : Type 0} → Parser A
too_deep = λ i. Err (too_deep_at i.tokens)

abbrev pub compound : Parser Command → Option Reserved → Parser Command
compound command None = simple
compound command (Some r.If) = λ i. if_command command (next i)
compound command (Some r.While) = λ i. loop_command false command (next i)
compound command (Some r.Until) = λ i. loop_command true command (next i)
compound command (Some r.For) = λ i. for_command command (next i)
compound command (Some word) = refuse

abbrev pub flat : Option Reserved → Parser Command
flat None = simple
flat (Some r.If) = too_deep
flat (Some r.While) = too_deep
flat (Some r.Until) = too_deep
flat (Some r.For) = too_deep
flat (Some word) = refuse

unfoldable pub command : ℕ → Parser Command
command zero = λ i. flat (keyword i) i
command (suc depth) = λ i. compound (command depth) (keyword i) i

-- ---- a whole text

abbrev pub is_empty : List Token → Bool
is_empty [] = true
is_empty (t ∷ tokens) = false

unfoldable pub at_last : Input → Bool
at_last i = is_empty i.tokens

abbrev pub script_by : ℕ → Bool → Parser Script
script_by depth true = pure Empty
script_by depth false = lists_all (command depth)

unfoldable pub script : ℕ → Parser Script
script depth = skip is_separator >> λ i. script_by depth (at_last i) i

abbrev pub finish_at : Script → List Token → End → ℕ → Result Script SyntaxError
finish_at s [] Whole size = Ok s
finish_at s [] (Refused error) size = Err error
finish_at s (t ∷ tokens) end size = Err (Unexpected t.start)

abbrev pub finished : Script → Result (Unit {0}) SyntaxError → Result Script SyntaxError
finished s (Ok u) = Ok s
finished s (Err error) = Err error

-- no token may be left, and no fault
abbrev pub finish : Parsed Script → Result Script SyntaxError
finish (Ok p) = finish_at p.0 p.1.tokens p.1.end p.1.size
finish (Err error) = Err error

unfoldable pub whole : ℕ → Input → Result Script SyntaxError
whole depth i = finish (script depth i)

-- ---- what a function that parses ensures: the outcome of a rule, unless memory runs out

abbrev pub Reads : {X Y : Type 0} → (X → Y) → Parsed Y → Result X SyntaxError → Input → Type 0
Reads view outcome (Ok x) new = outcome ≡ Ok (view x, new)
Reads view outcome (Err e) new = e ≢ Memory → outcome ≡ Err e

-- the same for a function that takes no tokens
abbrev pub Answers : {X Y : Type 0} → (X → Y) → Result Y SyntaxError → Result X SyntaxError → Type 0
Answers view outcome (Ok x) = outcome ≡ Ok (view x)
Answers view outcome (Err e) = e ≢ Memory → outcome ≡ Err e
