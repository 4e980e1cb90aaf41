-- The syntax tree of a script, as what it says. Addresses in memory are no part of it.
-- The tree is ours. The commands that it distinguishes are those of the U-Boot documentation, doc/usage/cmdline.
use Rattle.std.specs.Prelude.{ℕ, Bool, true, false, List}
use Rattle.hushlang.specs.declared.tree.Op.{Op}

-- a part of a word
pub data Piece : Type 0 where
  -- bytes as they are
  Bytes : (bytes : List ℕ) → Piece
  -- a pair of quotes
  Mark : Piece
  -- a variable, which is split outside double quotes
  Var : (name : List ℕ) → (split : Bool) → Piece
  -- `$?`
  Status : Piece

abbrev pub Word : Type 0
Word = List Piece

mutual
  -- and-or lists, one after another
  pub data Script : Type 0 where
    Empty : Script
    Runs : (list : AndOr) → (more : Script) → Script

  -- a command, and what is joined to it
  pub data AndOr : Type 0 where
    Starts : (first : Command) → (rest : Joined) → AndOr

  pub data Joined : Type 0 where
    Alone : Joined
    Joins : (op : Op) → (command : Command) → (rest : Joined) → Joined

  pub data Command : Type 0 where
    Simple : (words : List Word) → Command
    Assign : (values : List (List ℕ × Word)) → Command
    If : (arms : Arms) → Command
    Loop : (until : Bool) → (cond body : Script) → Command
    For : (name : List ℕ) → (words : List Word) → (body : Script) → Command

  -- the arms of an `if`, and its `else` block
  pub data Arms : Type 0 where
    NoElse : Arms
    Else : (body : Script) → Arms
    Arm : (cond body : Script) → (more : Arms) → Arms

-- ---- as the grammar makes trees: each condition and each body holds a command, and each `if` has a condition

abbrev mutual
  pub IsProper : Script → Type 0
  IsProper Empty = Unit
  IsProper (Runs list more) = IsProperList list × IsProper more

  pub IsProperList : AndOr → Type 0
  IsProperList (Starts first rest) = IsProperCommand first × IsProperJoined rest

  pub IsProperJoined : Joined → Type 0
  IsProperJoined Alone = Unit
  IsProperJoined (Joins op command rest) = IsProperCommand command × IsProperJoined rest

  pub IsProperCommand : Command → Type 0
  IsProperCommand (Simple words) = Unit
  IsProperCommand (Assign values) = Unit
  IsProperCommand (If arms) = HasArm arms
  IsProperCommand (Loop until cond body) = HoldsCommand cond × HoldsCommand body
  IsProperCommand (For name words body) = HoldsCommand body

  -- the first condition of an `if`, and what follows it
  pub HasArm : Arms → Type 0
  HasArm NoElse = ⊥
  HasArm (Else body) = ⊥
  HasArm (Arm cond body more) = HoldsCommand cond × HoldsCommand body × AreProperArms more

  pub AreProperArms : Arms → Type 0
  AreProperArms NoElse = Unit
  AreProperArms (Else body) = HoldsCommand body
  AreProperArms (Arm cond body more) = HoldsCommand cond × HoldsCommand body × AreProperArms more

  -- at least one command
  pub HoldsCommand : Script → Type 0
  HoldsCommand Empty = ⊥
  HoldsCommand (Runs list more) = IsProperList list × IsProper more

-- ---- the last command of an and-or list

abbrev pub is_compound : Command → Bool
is_compound (Simple words) = false
is_compound (Assign values) = false
is_compound c = true

abbrev pub last_is_compound : Command → Joined → Bool
last_is_compound c Alone = is_compound c
last_is_compound c (Joins op command rest) = last_is_compound command rest

abbrev pub ends_compound : AndOr → Bool
ends_compound (Starts first rest) = last_is_compound first rest
