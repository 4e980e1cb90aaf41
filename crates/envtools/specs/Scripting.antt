-- What a script of changes does to an environment.
use Rattle.std.specs.Prelude.{◌≡◌, ℕ, ◌+◌, ◌==◌, ◌||◌, not, Bool, List, [], ◌∷◌, ◌++◌, take, drop, Option, None, Some, Result, Ok, Err, if◌then◌else◌}
use Rattle.std.specs.List.{position_or_len}
use Rattle.text.specs.Bytes as ascii
use Rattle.envimage.specs.Data.{Pair}
use Rattle.text.specs.Lines.{numbered_lines}
use Rattle.text.specs.Words.{is_space, cut_front, cut_behind}
use Rattle.envtools.specs.Environment.{changed_to, is_name, is_value}
use Rattle.envtools.specs.declared.script.ScriptError.{ScriptError}
use Rattle.envtools.specs.declared.script.ScriptError.TheVariants.{BadName, BadValue, Memory}

-- a blank or `=`
abbrev pub ends_name : ℕ → Bool
ends_name b = (b == ascii.equals) || is_space b

abbrev pub is_return : ℕ → Bool
is_return b = b == ascii.carriage_return

-- The name before the first blank or `=`, and what follows that byte and the blanks after it.
abbrev pub name_and_value : List ℕ → List ℕ × List ℕ
name_and_value text = let len = position_or_len ends_name text in
    (take len text, cut_front is_space (drop (len + 1) text))

-- a line that has only blanks is skipped
abbrev pub change_of : List ℕ → Option (List ℕ × List ℕ)
change_of [] = None
change_of (b ∷ bs) = Some (name_and_value (b ∷ bs))

-- and so is one that starts with `#`
abbrev pub uncommented : List ℕ → Option (List ℕ × List ℕ)
uncommented [] = None
uncommented (b ∷ bs) = if b == ascii.hash then None else change_of (cut_front is_space (b ∷ bs))

-- the change that a line makes, without the carriage returns at the end of the line: a name and its new value
abbrev pub line_change : List ℕ → Option (List ℕ × List ℕ)
line_change line = uncommented (cut_behind is_return line)

-- the environment after a line, or the line's fault
abbrev pub after_line : List Pair → ℕ → Option (List ℕ × List ℕ) → Result (List Pair) ScriptError
after_line env number None = Ok env
after_line env number (Some change) =
    if not (is_name change.0) then Err (BadName number)
    else (if not (is_value change.1) then Err (BadValue number) else Ok (changed_to env change.0 change.1))

-- the environment that a script reaches, and the fault at which it stops
pub record Reached : Type 0 where
  pub env : List Pair
  pub fault : Option ScriptError

abbrev pub go_on : Result (List Pair) ScriptError → List Pair → (List Pair → Reached) → Reached
go_on (Ok next) env more = more next
go_on (Err fault) env more = record { env = env; fault = Some fault }

-- the lines one after another, up to the first faulty one
abbrev pub scripted_lines : List Pair → List (ℕ × List ℕ) → Reached
scripted_lines env [] = record { env = env; fault = None }
scripted_lines env (l ∷ ls) = go_on (after_line env l.0 (line_change l.1)) env (λ next. scripted_lines next ls)

abbrev pub scripted : List Pair → List ℕ → Reached
scripted env text = scripted_lines env (numbered_lines text)

-- ---- what the calls answer

-- one line: done, or refused and nothing changed
abbrev pub AppliesLine : List Pair → ℕ → Option (List ℕ × List ℕ) → List Pair → Result (Unit {0}) ScriptError → Type 0
AppliesLine old number change new (Ok u) = after_line old number change ≡ Ok new
AppliesLine old number change new (Err (BadName n)) = (after_line old number change ≡ Err (BadName n)) × (new ≡ old)
AppliesLine old number change new (Err (BadValue n)) = (after_line old number change ≡ Err (BadValue n)) × (new ≡ old)
AppliesLine old number change new (Err Memory) = new ≡ old

-- the environment after the lines before a refused one; none of these lines is faulty
pub record StoppedBehind (old : List Pair) (text : List ℕ) (new : List Pair) : Type 0 where
  pub before : List (ℕ × List ℕ)
  pub refused : ℕ × List ℕ
  pub after : List (ℕ × List ℕ)
  pub whole : numbered_lines text ≡ before ++ refused ∷ after
  pub reached : scripted_lines old before ≡ record { env = new; fault = None }

abbrev pub AppliesScript : List Pair → List ℕ → List Pair → Result (Unit {0}) ScriptError → Type 0
AppliesScript old text new (Ok u) = scripted old text ≡ record { env = new; fault = None }
AppliesScript old text new (Err (BadName n)) = scripted old text ≡ record { env = new; fault = Some (BadName n) }
AppliesScript old text new (Err (BadValue n)) = scripted old text ≡ record { env = new; fault = Some (BadValue n) }
AppliesScript old text new (Err Memory) = StoppedBehind old text new
