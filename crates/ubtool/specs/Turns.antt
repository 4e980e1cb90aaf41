-- The alternatives of a device list, in turn: where a list has several and none is named, each is gone through as if it were
-- named. Ours.
use Rattle.std.specs.Prelude.{◌≡◌, ℕ, ◌+◌, List, [], ◌∷◌, ◌++◌, length, Option, Some, None, Result, Ok, Err}
use Rattle.std.specs.List.{AllByRecursion, enumerate_from, flat_map}
use Rattle.board_start.specs.Boards.{OfStart}
use Rattle.board_start.specs.Start.{Start, given_line, start_of}
use Rattle.board_start.specs.declared.start_error.StartError.TheVariants.{Alternatives}
use Rattle.rehearse_terms.specs.State.{Text}
use Rattle.ubtool.specs.Beginning.{Beginning, NoBeginning, OfBoard}
use Rattle.tool_words.specs.declared.ask.Taking.{Taking}
use Rattle.ubtool.specs.Given.{Given}
use Rattle.ubtool.specs.declared.rehearsal_error.RehearsalError.{RehearsalError}
use Rattle.ubtool.specs.declared.rehearsal_error.RehearsalError.TheVariants.{Memory, Start as CannotStart}

-- how many alternatives are gone through, if they are
abbrev pub turns_of : Result Beginning NoBeginning → Option ℕ
turns_of (Err (OfBoard (OfStart (Alternatives count)))) = Some count
turns_of answer = None

-- what is given, with the alternative of this number named
abbrev pub named : Given → (number : ℕ) → Given
named g number = record g { taking = record g.taking { alternative = Some number } }

-- the lines of one alternative after the line that names it, if there are any
abbrev pub headed : Start → (place : ℕ) → (lines : Text) → Text
headed start place [] = []
headed start place (b ∷ lines) = given_line start place ++ b ∷ lines

-- The first so many alternatives have these parts, and this text of them.
pub record AreInTurn {A : Type 0} (IsPart : Given → A → Type 0) (lines_in : A → Text) (g : Given) (count : ℕ)
    (parts : List A) (text : Text) : Type 0 where
  pub start : Start
  pub start_is : start_of g.device_list.text ≡ Ok start
  pub each : length parts ≡ count
  pub so : AllByRecursion (λ p. IsPart (named g (p.0 + 1)) p.1) (enumerate_from 0 parts)
  pub whole : text ≡ flat_map (λ p. headed start p.0 (lines_in p.1)) (enumerate_from 0 parts)

-- what a list says of the start, if it is right; memory may run out before that is known
abbrev pub IsStart : Text → Result Start RehearsalError → Type 0
IsStart text (Ok start) = start_of text ≡ Ok start
IsStart text (Err Memory) = Unit {0}
IsStart text (Err error) = ⊥

-- how a list is taken, with the alternative of this number named
abbrev pub taken_by : Taking → (number : ℕ) → Taking
taken_by taking number = record taking { alternative = Some number }

-- how many alternatives a refusal names
abbrev pub turns_told : RehearsalError → Option ℕ
turns_told (CannotStart (Alternatives count)) = Some count
turns_told error = None
