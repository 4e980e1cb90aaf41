-- What the built-in and the computed commands do that ask no device and run no text (U-Boot documentation, doc/usage/cmd, on
-- `echo`, `env`, `exit`, `true` and `false`). What the pages leave open is ours.
use Rattle.std.specs.Prelude.{ℕ, ◌+◌, ◌-◌, ◌*◌, nat_le, nat_eq, Bool, false, not, cond, ◌&&◌, List, [], ◌∷◌, ◌++◌, length, Option, Some, None, is_some, bytes_eq, codes}
use Rattle.std.specs.Fmt.{digits}
use Rattle.text.specs.Bytes as ascii
use Rattle.text.specs.Numbers.{are_digits, is_digit}
use Rattle.text.specs.Words.{joined_words}
use Rattle.builtins.specs.Builtins.{Builtin, SetEnv, Run, Test, Echo, True, False, Leave}
use Rattle.commands.specs.Computed.{Computed, Gives, Exists, Sets, Deletes, SetsNumber}
use Rattle.rehearse_terms.specs.State.{Text, Variables, Memory, get, with_value, without, text_with}
use Rattle.commands.specs.VariableNames.{is_bad_name}

-- what a built-in command does with its words
pub data Deed : Type 0 where
  -- it changes the environment, and gives a status
  ChangesVariables : (List Text → Variables → Variables × ℕ) → Deed
  -- it writes a text, with status 0
  WritesText : (List Text → Text) → Deed
  -- it runs the texts of variables
  RunsTexts : Deed
  -- it says whether its words hold, or asks a device
  Tests : Deed
  -- it ends the text that is running
  Exits : Deed

-- `test` with exactly four words, the first `-e`, asks a device
abbrev pub asks_device : List Text → Bool
asks_device words = nat_eq (length words) 4 && elim words [ [] ↦ false | w ∷ ws ↦ bytes_eq w (codes "-e") ]

-- `setenv` and its words: a name alone deletes the variable; the words after the name are its value, joined by spaces
abbrev pub setenv : List Text → Variables → Variables × ℕ
setenv [] variables = (variables, 1)
setenv (name ∷ []) variables = cond (is_bad_name name) (variables, 1) (without variables name, 0)
setenv (name ∷ w ∷ ws) variables =
    cond (is_bad_name name) (variables, 1) (with_value variables name (joined_words (w ∷ ws)), 0)

-- `echo` and its words: they are written, joined by spaces, with a newline, which a first word `-n` leaves out
abbrev pub echo : List Text → Text
echo [] = ascii.newline ∷ []
echo (w ∷ ws) =
    cond (bytes_eq w (codes "-n")) (joined_words ws)
    (joined_words (w ∷ ws) ++ ascii.newline ∷ [])

-- the number up to 255 that digits spell after the digits of n
abbrev pub decimal_from : ℕ → Text → Option ℕ
decimal_from n [] = cond (nat_le n 255) (Some n) None
decimal_from n (b ∷ bs) = cond (is_digit b) (decimal_from (n * 10 + (b - ascii.digit_zero)) bs) None

-- the status with which `exit` and its words end a text: 0 without a word or with a negative number, else the number
abbrev pub exit_status : List Text → Option ℕ
exit_status [] = Some 0
exit_status ([] ∷ []) = None
exit_status ((b ∷ bs) ∷ []) =
    cond (nat_eq b ascii.minus && not (nat_eq (length bs) 0) && are_digits bs) (Some 0) (decimal_from 0 (b ∷ bs))
exit_status (w ∷ v ∷ ws) = None

-- ---- computed commands

-- the variables without these names; the status is 1 if one of them is not set, else the one before
abbrev pub deletions : (status : ℕ) → (names : List Text) → Variables → Variables × ℕ
deletions status [] variables = (variables, status)
deletions status (name ∷ names) variables =
    deletions (cond (is_some (get variables name)) status 1) names (without variables name)

-- what a computed call does to the variables of the environment, and its status
abbrev pub carried : Computed → Variables → Variables × ℕ
carried (Gives status) variables = (variables, status)
carried (Exists name) variables = (variables, cond (is_some (get variables name)) 0 1)
carried (Sets words) variables = setenv words variables
carried (Deletes names) variables = deletions 0 names variables
carried (SetsNumber name number) variables = (with_value variables name (digits 16 false number), 0)

-- ---- the rows

-- a status, whatever the words are
abbrev pub gives : ℕ → List Text → Variables → Variables × ℕ
gives status words variables = (variables, status)

abbrev pub deed_of : Builtin → Deed
deed_of SetEnv = ChangesVariables setenv
deed_of Run = RunsTexts
deed_of Test = Tests
deed_of Echo = WritesText echo
deed_of True = ChangesVariables (gives 0)
deed_of False = ChangesVariables (gives 1)
deed_of Leave = Exits

abbrev pub changed_by : (Variables → Variables × ℕ) → Memory → Memory
changed_by change m = let after = change m.environment in record m { environment = after.0; status = after.1 }

abbrev pub variables_changed : (List Text → Variables → Variables × ℕ) → List Text → Memory → Memory
variables_changed change words = changed_by (change words)

abbrev pub text_written : (List Text → Text) → List Text → Memory → Memory
text_written written words m = record m { text = text_with (written words) m.text; status = 0 }
