-- What is reported of each text. Ours; the faults are those of the language.
use Rattle.std.specs.Prelude.{◌≡◌, ◌⊎◌, ◌==◌, ◌&&◌, ◌++◌, ℕ, [], Bool, true, false, not, List, length, map, Option, Some, None, Result, Ok, Err, codes, if◌then◌else◌}
use Rattle.std.specs.List.{flat_map, list_all, list_any}
use Rattle.envimage.specs.Data.{Pair}
use Rattle.envtools.specs.Printing.{all_found}
use Rattle.hushlang.specs.Tree.{Script}
use Rattle.hushlang.specs.declared.token.SyntaxError.{SyntaxError}
use Rattle.hushlang.specs.declared.token.SyntaxError.TheVariants.{OpenQuote, LoneBackslash, OpenBrace, BadVariable, SingleAmp, SinglePipe, Unexpected, MissingWord, AssignmentBeforeCommand, TooDeep, Memory}
use Rattle.hushcheck.specs.Names.{Text, read_by, run_by_text}
use Rattle.hushcheck.specs.Order.{AreTurns, IsOrder, Turn, name_of, text_of}
use Rattle.hushcheck.specs.Places.{lines_at}
use Rattle.hushcheck.specs.Calls.{calls_of, files_by_text, found_lines}
use Rattle.hushcheck.specs.Unset.{Used, has_unset, set_names, unset_lines, used_by, used_by_text}
use Rattle.hushcheck.specs.Warnings.{blocks_of}
use Rattle.hushcheck.specs.WarningsByShell.{warnings_by}
use Rattle.rehearse_terms.specs.declared.shell.Shell.{Shell}
use Rattle.hushcheck.specs.Rules.{Rules}
use Rattle.text.specs.Escapes.{word_form}

-- the byte at which a text is refused
abbrev pub byte_of : SyntaxError → ℕ
byte_of (OpenQuote at) = at
byte_of (LoneBackslash at) = at
byte_of (OpenBrace at) = at
byte_of (BadVariable at) = at
byte_of (SingleAmp at) = at
byte_of (SinglePipe at) = at
byte_of (Unexpected at) = at
byte_of (MissingWord at) = at
byte_of (AssignmentBeforeCommand at) = at
byte_of (TooDeep at) = at
byte_of Memory = 0

-- what is wrong there, in a text of this many bytes, in which these words are after blocks without a command
abbrev pub what_of : (size : ℕ) → (blocks : List ℕ) → SyntaxError → Text
what_of size blocks (OpenQuote at) = codes "the quote is not closed"
what_of size blocks (LoneBackslash at) = codes "the backslash is the last byte"
what_of size blocks (OpenBrace at) = codes "the brace is not closed"
what_of size blocks (BadVariable at) = codes "the braces hold no name"
what_of size blocks (SingleAmp at) = codes "a single &"
what_of size blocks (SinglePipe at) = codes "a single |"
what_of size blocks (Unexpected at) =
    if at == size then codes "unexpected end of the text"
    else (if list_any (λ place. place == at) blocks then codes "the block before this word is empty: write true in it"
    else codes "unexpected token")
what_of size blocks (MissingWord at) = codes "a word is missing"
what_of size blocks (AssignmentBeforeCommand at) = codes "an assignment before the command"
what_of size blocks (TooDeep at) = codes "nested too deep"
what_of size blocks Memory = codes "out of memory"

-- the place at which a text is refused, and what is wrong there
abbrev pub fault_lines : (name text : Text) → SyntaxError → Text
fault_lines name text error = lines_at name text (byte_of error) (what_of (length text) (blocks_of text) error)

-- what U-Boot's shells read otherwise in a text, well-formed or not
abbrev pub warning_lines : Option Shell → (name text : Text) → Text
warning_lines shell name text = found_lines name text (warnings_by shell text)

-- The lines of a text that was read, or refused, and then its warnings. What is reported of the calls comes last.
abbrev pub lines_read : Rules → (name text : Text) → Result Script SyntaxError → Text
lines_read rules name text (Ok script) =
    word_form name ++ codes ": ok\n" ++ warning_lines rules.shell name text
    ++ found_lines name text (calls_of rules.devices text script).found
lines_read rules name text (Err error) = fault_lines name text error ++ warning_lines rules.shell name text

abbrev pub lines_of_text : Rules → (name text : Text) → Text
lines_of_text rules name text = lines_read rules name text (read_by rules.shell text)

-- the lines of a turn: those of a variable, or of a file
abbrev pub lines_of_value : Rules → Text → Option Text → Text
lines_of_value rules name None = word_form name ++ codes ": not set\n"
lines_of_value rules name (Some text) = lines_of_text rules name text

abbrev pub lines_of : Rules → List Pair → Turn → Text
lines_of rules env turn = lines_of_value rules (name_of turn) (text_of rules env turn)

-- there is a warning of the text
abbrev pub is_warned : Rules → (text : Text) → Bool
is_warned rules text = not (length (warnings_by rules.shell text) == 0)

-- the text is well-formed, the device list lacks no command of it, and if a warning is a fault, it has none
abbrev pub is_fine_read : Rules → (text : Text) → Result Script SyntaxError → Bool
is_fine_read rules text (Ok script) =
    not (calls_of rules.devices text script).lacks && not (rules.strict && is_warned rules text)
is_fine_read rules text (Err error) = false

abbrev pub is_fine_text : Rules → (text : Text) → Bool
is_fine_text rules text = is_fine_read rules text (read_by rules.shell text)

-- a variable that is not set has no text that could be wrong
abbrev pub is_fine_value : Rules → Option Text → Bool
is_fine_value rules None = true
is_fine_value rules (Some text) = is_fine_text rules text

abbrev pub is_fine : Rules → List Pair → Turn → Bool
is_fine rules env turn = is_fine_value rules (text_of rules env turn)

-- the lines of what is reached, in its order; whether all is well: it was so far, and each text that is
-- reached is fine; and what the texts use, after what was used before
pub record TakesTurns (rules : Rules) (env : List Pair) (before : List Used) (asked called : List Text) (so_far : Bool)
    (told : Text) (sound : Bool) (used : List Used) : Type 0 where
  pub order : List Turn
  pub is_order : IsOrder rules env asked called order
  pub told_is : told ≡ flat_map (lines_of rules env) order
  pub sound_is : sound ≡ (so_far && list_all (is_fine rules env) order)
  pub used_is : used ≡ before ++ flat_map (used_by rules env) order

-- what nothing sets of what the texts use, and whether there is such a variable
abbrev pub last_lines : List Pair → List Used → Text
last_lines env used = unset_lines (set_names env used) used

abbrev pub lacks_set : List Pair → List Used → Bool
lacks_set env used = has_unset (set_names env used) used

-- The lines of what is reached, in its order, and after them what nothing sets.
pub record AreLines (rules : Rules) (env : List Pair) (before : List Used) (asked called : List Text) (order : List Turn)
    (told : Text) : Type 0 where
  pub is_order : IsOrder rules env asked called order
  pub told_is : told ≡ flat_map (lines_of rules env) order
      ++ last_lines env (before ++ flat_map (used_by rules env) order)

-- These lines, and whether all is well: it was so far, each text that is reached is fine, and if a warning is a fault,
-- something sets each variable that is read.
pub record ChecksNames (rules : Rules) (env : List Pair) (before : List Used) (asked called : List Text) (so_far : Bool)
    (told : Text) (sound : Bool) : Type 0 where
  pub order : List Turn
  pub lines : AreLines rules env before asked called order told
  pub sound_is : sound ≡ ((so_far && list_all (is_fine rules env) order)
      && not (rules.strict && lacks_set env (before ++ flat_map (used_by rules env) order)))

-- the same where each name that is asked for has to be set
abbrev pub Checks : Rules → List Pair → (asked : List Text) → (told : Text) → (sound : Bool) → Type 0
Checks rules env asked told sound = ChecksNames rules env [] asked [] (all_found env asked) told sound

-- What is said of a check that does not end: the lines of the variables and files whose turn has come.
pub record BeginsTurns (rules : Rules) (env : List Pair) (asked called : List Text) (told : Text) : Type 0 where
  pub turns : List Turn
  pub are_turns : AreTurns rules env asked called turns
  pub told_is : told ≡ flat_map (lines_of rules env) turns

-- Or all lines, if it ends within those of what nothing sets.
abbrev pub BeginsNames : Rules → List Pair → (before : List Used) → (asked called : List Text) → (told : Text) → Type 0
BeginsNames rules env before asked called told =
    BeginsTurns rules env asked called told ⊎ ((order : List Turn) × AreLines rules env before asked called order told)

abbrev pub BeginsCheck : Rules → List Pair → (asked : List Text) → (told : Text) → Type 0
BeginsCheck rules env asked told = BeginsNames rules env [] asked [] told

-- ---- a script that is no variable's text

-- what has its turn after a script: the names that are asked for, and then those that the script runs
abbrev pub behind_script : Rules → (text : Text) → (asked : List Text) → List Text
behind_script rules text asked = asked ++ run_by_text rules.shell text

-- The lines of the script under its name, then those of the names after it and of the files that it leads to; and whether all
-- is well: each name that is asked for is set, and each text is fine, that of the script too.
pub record ChecksScript (rules : Rules) (env : List Pair) (name text : Text) (asked : List Text) (told : Text) (sound : Bool) :
    Type 0 where
  pub rest : Text
  pub told_is : told ≡ lines_of_text rules name text ++ rest
  pub checks : ChecksNames rules env (used_by_text rules name text) (behind_script rules text asked)
      (files_by_text rules text) (all_found env asked && is_fine_text rules text) rest sound

-- what is reported if that does not end
pub record BeginsScript (rules : Rules) (env : List Pair) (name text : Text) (asked : List Text) (told : Text) : Type 0 where
  pub rest : Text
  pub told_is : told ≡ lines_of_text rules name text ++ rest
  pub begins : BeginsNames rules env (used_by_text rules name text) (behind_script rules text asked)
      (files_by_text rules text) rest

-- ---- which names are asked for

-- the names that the call gives, and with `--all` every variable after them, in the environment's order
abbrev pub asked_names : (all : Bool) → List Pair → (given : List Text) → List Text
asked_names true env given = given ++ map (λ p. p.0) env
asked_names false env given = given
