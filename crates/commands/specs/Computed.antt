-- The commands that a device list may have computed, and how their words are evaluated. After U-Boot 2023.01: doc/usage/cmd/env,
-- "Delete", "Exists" and "Set", and cmd/nvedit.c (`do_env_delete`, `do_env_exists`, `_do_env_set`); cmd/itest.c
-- (`do_itest`); doc/usage/cmd/setexpr, "Description", and cmd/setexpr.c (`do_setexpr`), which decide in the same order in
-- 2025.01. Where words are no call of theirs, U-Boot prints a usage and gives status 1; what it prints is left out (ours).
use Rattle.std.specs.Prelude.{ℕ, ◌+◌, ◌-◌, ◌*◌, ◌/◌, ◌%◌, ◌^◌, ◌==◌, nat_lt, nat_le, bit_and, bit_or, bit_xor, Bool, true, false, not, ◌||◌, List, [], ◌∷◌, length, Option, Some, None, is_some, codes, if◌then◌else◌}
use Rattle.std.specs.Str.{bytes_eq}
use Rattle.std.specs.List.{list_all}
use Rattle.std.specs.Map.{lookup}
use Rattle.text.specs.Bytes as ascii
use Rattle.commands.specs.Verdict.{Text}
use Rattle.commands.specs.KnownCommands.{Known, Env, Itest, SetExpr}
use Rattle.commands.specs.Hexadecimal.{in_word, hexadecimal}
use Rattle.commands.specs.VariableNames.{is_bad_name}

-- the result of the words of a call: `carried` in BuiltInCommands.antt says what each does to the variables
pub data Computed : Type 0 where
  -- a status
  Gives : ℕ → Computed
  -- whether an environment variable is set
  Exists : (name : Text) → Computed
  -- `setenv` with these words
  Sets : List Text → Computed
  -- environment variables are deleted
  Deletes : (names : List Text) → Computed
  -- an environment variable is set to a number, in hexadecimal
  SetsNumber : (name : Text) → ℕ → Computed

-- ---- options

abbrev pub is_option : Text → Bool
is_option [] = false
is_option (b ∷ letters) = b == ascii.minus

-- `-f`, which is for protected variables; the letter may be there more than once, or not at all
abbrev pub forces : Text → Bool
forces [] = true
forces (b ∷ letters) = list_all (λ c. c == ascii.small_f) letters

-- the words after the options, if each option is `-f`
abbrev pub behind_options : List Text → Option (List Text)
behind_options [] = Some []
behind_options (word ∷ words) =
    if is_option word then (if forces word then behind_options words else None) else Some (word ∷ words)

-- ---- `env`

abbrev pub env_exists : List Text → Computed
env_exists [] = Gives 1
env_exists (name ∷ words) = Exists name

abbrev pub with_options : (List Text → Computed) → List Text → Computed
with_options act words = elim (behind_options words) [ Some rest ↦ act rest | None ↦ Gives 1 ]

-- its other subcommands are not computed
abbrev pub env : List Text → Option Computed
env [] = Some (Gives 1)
env (subcommand ∷ words) =
    if bytes_eq subcommand (codes "exists") then Some (env_exists words)
    else (if bytes_eq subcommand (codes "set") then Some (with_options Sets words)
    else (if bytes_eq subcommand (codes "delete") then Some (with_options Deletes words) else None))

-- ---- operands

-- the number that an operand is, unless it is read from memory; `itest` and `setexpr` begin such an operand with `*`
abbrev pub operand : Text → Option ℕ
operand [] = Some 0
operand (b ∷ bytes) = if bytes_eq (b ∷ []) (codes "*") then None else Some (hexadecimal (b ∷ bytes))

-- ---- `itest`, whose numbers have 32 bits

abbrev pub orders : List (Text × (ℕ → ℕ → Bool))
orders =
    (codes "-lt", λ a b. nat_lt a b)
    ∷ (codes "<", λ a b. nat_lt a b)
    ∷ (codes "-gt", λ a b. nat_lt b a)
    ∷ (codes ">", λ a b. nat_lt b a)
    ∷ (codes "-ge", λ a b. nat_le b a)
    ∷ (codes ">=", λ a b. nat_le b a)
    ∷ (codes "-le", λ a b. nat_le a b)
    ∷ (codes "<=", λ a b. nat_le a b)
    ∷ []

abbrev pub equalities : List (Text × (ℕ → ℕ → Bool))
equalities =
    (codes "-eq", λ a b. a == b)
    ∷ (codes "==", λ a b. a == b)
    ∷ (codes "-ne", λ a b. not (a == b))
    ∷ (codes "!=", λ a b. not (a == b))
    ∷ (codes "<>", λ a b. not (a == b))
    ∷ []

-- whether a comparison of a table holds; no other operator holds
abbrev pub holds_in : List (Text × (ℕ → ℕ → Bool)) → (operator : Text) → ℕ → ℕ → Bool
holds_in table operator a b = elim (lookup (bytes_eq operator) table) [ Some compare ↦ compare a b | None ↦ false ]

abbrev pub compared : (operator : Text) → ℕ → ℕ → Bool
compared operator a b = holds_in orders operator a b || holds_in equalities operator a b

abbrev pub is_comparison : (operator : Text) → Bool
is_comparison operator =
    is_some (lookup (bytes_eq operator) orders) || is_some (lookup (bytes_eq operator) equalities)

abbrev pub itest_of : Option ℕ → (operator : Text) → Option ℕ → Option Computed
itest_of None operator b = None
itest_of (Some a) operator None = None
itest_of (Some a) operator (Some b) =
    Some (Gives (if compared operator (a % 2 ^ 32) (b % 2 ^ 32) then 0 else 1))

-- the operator decides first: with another one no operand is read
abbrev pub itest : List Text → Option Computed
itest [] = Some (Gives 1)
itest (a ∷ []) = Some (Gives 1)
itest (a ∷ operator ∷ []) = Some (Gives 1)
itest (a ∷ operator ∷ b ∷ []) =
    if is_comparison operator then itest_of (operand a) operator (operand b) else Some (Gives 1)
itest (a ∷ operator ∷ b ∷ c ∷ words) = Some (Gives 1)

-- ---- `setexpr`: a variable is set to a number, or to the result of an operation on two

-- by 0 nothing is divided
abbrev pub quotient : ℕ → ℕ → Option ℕ
quotient a b = if b == 0 then None else Some (a / b)

abbrev pub remainder : ℕ → ℕ → Option ℕ
remainder a b = if b == 0 then None else Some (a % b)

-- what an operation gives
abbrev pub operations : List (Text × (ℕ → ℕ → Option ℕ))
operations =
    (codes "+", λ a b. Some (in_word (a + b)))
    ∷ (codes "-", λ a b. Some (in_word (a + (2 ^ 64 - b))))
    ∷ (codes "*", λ a b. Some (in_word (a * b)))
    ∷ (codes "/", quotient)
    ∷ (codes "%", remainder)
    ∷ (codes "&", λ a b. Some (bit_and a b))
    ∷ (codes "|", λ a b. Some (bit_or a b))
    ∷ (codes "^", λ a b. Some (bit_xor a b))
    ∷ []

abbrev pub calculated : (operator : Text) → ℕ → ℕ → Option ℕ
calculated operator a b =
    elim (lookup (bytes_eq operator) operations) [ Some operation ↦ operation a b | None ↦ None ]

-- `fmt` makes a text of a format, on boards that have it
abbrev pub is_format : Text → Bool
is_format word = bytes_eq word (codes "fmt")

-- `sub` and `gsub` replace by a regular expression, on boards that have these
abbrev pub replaces : Text → Bool
replaces word = bytes_eq word (codes "sub") || bytes_eq word (codes "gsub")

-- U-Boot sets an empty name, and takes one that starts with `-` for an option of `setenv`: neither is computed. A name
-- with `=` sets nothing, with this status.
abbrev pub not_set : (status : ℕ) → (name : Text) → Option Computed
not_set status [] = None
not_set status (b ∷ name) = if b == ascii.minus then None else Some (Gives status)

abbrev pub sets_number : (refused : ℕ) → (name : Text) → Option ℕ → Option Computed
sets_number refused name None = None
sets_number refused name (Some number) =
    if is_bad_name name then not_set refused name else Some (SetsNumber name number)

-- an operator is looked for when both operands were read; another one gives status 1. The status after an operation is 0,
-- also if nothing was set
abbrev pub operated : (name : Text) → (a : ℕ) → (operator : Text) → Option ℕ → Option Computed
operated name a operator None = None
operated name a operator (Some b) =
    if is_some (lookup (bytes_eq operator) operations) then sets_number 0 name (calculated operator a b)
    else Some (Gives 1)

-- an operator has one byte, or the second operand is not read
abbrev pub setexpr_of : (name : Text) → (a : ℕ) → (operator b : Text) → Option Computed
setexpr_of name a operator b =
    if length operator == 1 then operated name a operator (operand b) else Some (Gives 1)

-- by the number of words after the first operand, which has this number
abbrev pub behind_operand : (name first : Text) → (a : ℕ) → List Text → Option Computed
behind_operand name first a [] = sets_number 1 name (Some a)
behind_operand name first a (operator ∷ []) = Some (Gives 1)
behind_operand name first a (operator ∷ b ∷ []) = if replaces first then None else setexpr_of name a operator b
behind_operand name first a (operator ∷ b ∷ c ∷ []) = if replaces first then None else Some (Gives 1)
behind_operand name first a (operator ∷ b ∷ c ∷ d ∷ words) = Some (Gives 1)

-- the first operand is read before the words are counted; but U-Boot calls `setexpr` with no more than seven words
abbrev pub with_operand : (name first : Text) → List Text → Option Computed
with_operand name first words =
    if nat_lt 5 (length words) then Some (Gives 1)
    else (if is_format first then None
    else elim (operand first) [ Some a ↦ behind_operand name first a words | None ↦ None ])

abbrev pub setexpr : List Text → Option Computed
setexpr [] = Some (Gives 1)
setexpr (name ∷ []) = Some (Gives 1)
setexpr (name ∷ first ∷ words) = with_operand name first words

-- ---- the rows

-- the result of the words of a command, if they can be computed
abbrev pub computes : Known → List Text → Option Computed
computes Env words = env words
computes Itest words = itest words
computes SetExpr words = setexpr words
