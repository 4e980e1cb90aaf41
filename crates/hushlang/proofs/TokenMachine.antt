-- The grammar token by token: what is open, and what may come next. Each token is one step, which no later token
-- changes.
use Rattle.std.specs.Prelude.{ℕ, zero, suc, Bool, true, false, if◌then◌else◌, List, [], ◌∷◌, Option, Some, None, Result, Ok, Err, is_some}
use Rattle.hushlang.specs.Token.{Token, End, Whole, Refused}
use Rattle.hushlang.specs.Grammar.{is_word, is_separator, is_newline_token, reserved_of, op_of, assignment, name_in, is_in_word, closes_at}
use Rattle.hushlang.specs.Parsing.{at_end, missing_at}
use Rattle.hushlang.specs.declared.tree.Op.{Op}
use Rattle.hushlang.specs.declared.words.Reserved.{Reserved}
use Rattle.hushlang.specs.declared.words.Reserved.TheVariants as r
use Rattle.hushlang.specs.declared.token.SyntaxError.{SyntaxError}
use Rattle.hushlang.specs.declared.token.SyntaxError.TheVariants.{Unexpected, MissingWord, AssignmentBeforeCommand, TooDeep}

-- what is open
pub data Frame : Type 0 where
  Condition : Frame
  Consequence : Frame
  Otherwise : Frame
  LoopCondition : Frame
  LoopBody : Frame

-- what may come next
pub data Phase : Type 0 where
  -- the start of a block, after separators
  Start : Phase
  -- a command, possibly after newlines
  Joint : Phase
  -- a command
  Must : Phase
  -- further words of a simple command or of assignments
  Words : (assigns : Bool) → Phase
  -- an operator, or what may come after an and-or list
  After : Phase
  -- after an and-or list: a separator or a closing word
  Behind : Phase
  -- after a separator: a command or a closing word
  Next : Phase
  -- a closing word
  Close : Phase
  -- the parts of a `for`
  Name : Phase
  In : Phase
  Items : Phase
  -- after the words of a `for`
  Separators : Phase
  Separated : Phase

pub record State : Type 0 where
  pub left : ℕ
  pub phase : Phase
  pub open_frames : List Frame

abbrev pub Step : Type 0
Step = Result State SyntaxError

abbrev pub to : ℕ → Phase → List Frame → Step
to d p k = Ok record { left = d; phase = p; open_frames = k }

abbrev pub unexpected : Token → Step
unexpected t = Err (Unexpected t.start)

abbrev pub close_by : ℕ → List Frame → Option Reserved → Token → Step
close_by d (Condition ∷ k) (Some r.Then) t = to d Start (Consequence ∷ k)
close_by d (Consequence ∷ k) (Some r.Elif) t = to d Start (Condition ∷ k)
close_by d (Consequence ∷ k) (Some r.Else) t = to d Start (Otherwise ∷ k)
close_by d (Consequence ∷ k) (Some r.Fi) t = to (suc d) After k
close_by d (Otherwise ∷ k) (Some r.Fi) t = to (suc d) After k
close_by d (LoopCondition ∷ k) (Some r.Do) t = to d Start (LoopBody ∷ k)
close_by d (LoopBody ∷ k) (Some r.Done) t = to (suc d) After k
close_by d k word t = unexpected t

-- a closing word, by what is open
abbrev pub close : ℕ → List Frame → Option Reserved → Token → Step
close d k word t = if closes_at word then close_by d k word t else unexpected t

abbrev pub deeper : ℕ → Phase → Frame → List Frame → Token → Step
deeper zero p f k t = Err (TooDeep t.start)
deeper (suc d) p f k t = to d p (f ∷ k)

abbrev pub first_word : ℕ → List Frame → Bool → Bool → Token → Step
first_word d k false assigns t = unexpected t
first_word d k true assigns t = to d (Words assigns) k

abbrev pub begin : ℕ → List Frame → Option Reserved → Token → Step
begin d k None t = first_word d k (is_word t) (is_some (assignment t.parts)) t
begin d k (Some r.If) t = deeper d Start Condition k t
begin d k (Some r.While) t = deeper d Start LoopCondition k t
begin d k (Some r.Until) t = deeper d Start LoopCondition k t
begin d k (Some r.For) t = deeper d Name LoopCondition k t
begin d k (Some word) t = unexpected t

abbrev pub behind_list : ℕ → List Frame → Bool → Token → Step
behind_list d k true t = to d Next k
behind_list d k false t = close d k (reserved_of t) t

abbrev pub after_command : ℕ → List Frame → Option Op → Token → Step
after_command d k (Some op) t = to d Joint k
after_command d k None t = behind_list d k (is_separator t) t

abbrev pub another : ℕ → List Frame → Bool → Token → Step
another d k true t = close d k (reserved_of t) t
another d k false t = begin d k (reserved_of t) t

abbrev pub further : ℕ → List Frame → (is_word assigns is_assignment : Bool) → Token → Step
further d k true true false t = Err (AssignmentBeforeCommand t.start)
further d k true assigns is t = to d (Words assigns) k
further d k false assigns is t = after_command d k (op_of t) t

abbrev pub named : ℕ → List Frame → Bool → Token → Step
named d k true t = to d In k
named d k false t = Err (MissingWord t.start)

abbrev pub with_in : ℕ → List Frame → Bool → Token → Step
with_in d k true t = to d Items k
with_in d k false t = Err (MissingWord t.start)

abbrev pub item : ℕ → List Frame → (word separator : Bool) → Token → Step
item d k true separator t = to d Items k
item d k false true t = to d Separated k
item d k false false t = unexpected t

-- one token
unfoldable pub step : ℕ → Phase → List Frame → Token → Step
step d Start k t = if is_separator t then to d Start k else begin d k (reserved_of t) t
step d Joint k t = if is_newline_token t then to d Joint k else begin d k (reserved_of t) t
step d Must k t = begin d k (reserved_of t) t
step d (Words assigns) k t = further d k (is_word t) assigns (is_some (assignment t.parts)) t
step d After k t = after_command d k (op_of t) t
step d Behind k t = behind_list d k (is_separator t) t
step d Next k t = if is_separator t then to d Next k else another d k (closes_at (reserved_of t)) t
step d Close k t = close d k (reserved_of t) t
step d Name k t = named d k (is_some (name_in t)) t
step d In k t = with_in d k (is_in_word t) t
step d Items k t = item d k (is_word t) (is_separator t) t
step d Separators k t = item d k false (is_separator t) t
step d Separated k t = if is_separator t then to d Separated k else close d k (reserved_of t) t

-- at the end of the tokens
abbrev pub stops_at : End → Result (Unit {0}) SyntaxError
stops_at Whole = Ok tt
stops_at (Refused error) = Err error

unfoldable pub ends : Phase → List Frame → End → ℕ → Result (Unit {0}) SyntaxError
ends Start [] end size = stops_at end
ends (Words assigns) [] end size = stops_at end
ends After [] end size = stops_at end
ends Behind [] end size = stops_at end
ends Next [] end size = stops_at end
ends Close [] end size = stops_at end
ends Name k end size = Err (missing_at [] end size)
ends In k end size = Err (missing_at [] end size)
ends phase k end size = Err (at_end end size)

abbrev pub goes : Step → (State → Result (Unit {0}) SyntaxError) → Result (Unit {0}) SyntaxError
goes (Ok s) more = more s
goes (Err error) more = Err error

-- all tokens
unfoldable pub run : List Token → End → ℕ → State → Result (Unit {0}) SyntaxError
run [] end size s = ends s.phase s.open_frames end size
run (t ∷ tokens) end size s = goes (step s.left s.phase s.open_frames t) (run tokens end size)
