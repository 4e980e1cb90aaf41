-- What the cutters of the program show, and what a step of them gives.
use Rattle.std.specs.Prelude.{◌≡◌, ℕ, ◌<◌, ◌≤◌, List, [], ◌∷◌, length, drop, Option, Some, None, Result, Ok, Err}
use Rattle.hushlang.specs.Token as spec
use Rattle.hushlang.specs.Tokenizing as reading
use Rattle.hushlang.specs.Tokenizing.{Goes, Vanishes, Ends, Fails, Seen, Takes, Refuses, in_front, row}
use Rattle.hushlang.specs.declared.word_parts.Mode.{Mode}
use Rattle.hushlang.specs.declared.token.SyntaxError.{SyntaxError}
use Rattle.hushlang.specs.declared.word_parts.Part.{Part}
use Rattle.hushlang.specs.declared.word_parts.Part.TheVariants as code
use Rattle.hushlang.specs.declared.word_parts.Step.{Step}
use Rattle.hushlang.specs.declared.word_parts.Step.TheVariants as steps

abbrev pub part : Part → spec.Part
part (code.Plain b) = spec.Plain b
part (code.Kept b) = spec.Kept b
part code.Mark = spec.Mark
part (code.Var name split) = spec.Var name.now split
part code.Status = spec.Status

-- what a step of the program says
abbrev pub step : Result Step SyntaxError → reading.Step
step (Ok (steps.Part found skip mode)) = Goes mode skip (part found ∷ [])
step (Ok (steps.Pass skip mode)) = Goes mode skip []
step (Ok steps.Vanish) = Vanishes
step (Ok steps.End) = Ends
step (Err error) = Fails error

-- it skips no more bytes than there are after the first
abbrev pub StaysWithin : ℕ → Result Step SyntaxError → Type 0
StaysWithin size (Ok (steps.Part found skip mode)) = skip ≤ size
StaysWithin size (Ok (steps.Pass skip mode)) = skip ≤ size
StaysWithin size (Ok steps.Vanish) = 1 ≤ size
StaysWithin size (Ok steps.End) = Unit {0}
StaysWithin size (Err error) = Unit {0}

-- a place in a text, from which the parts of a word are cut, and the place where the last piece before it stops
pub record Place : Type 0 where
  pub source : List ℕ
  pub mode : Mode
  pub stop : ℕ
  pub at : ℕ

-- the parts to come, and where they stop
abbrev pub to_come : Place → Seen
to_come p = row p.mode p.stop 0 p.at (drop p.at p.source)

-- the first of the parts to come, and the rest of them; if there is none, the end, and the same again later
abbrev pub Cuts : Place → Result (Option Part) SyntaxError → Place → Type 0
Cuts old (Ok (Some found)) new = (to_come old ≡ in_front (part found ∷ []) (to_come new)) × (old.at < new.at)
    × (new.at ≤ length old.source)
Cuts old (Ok None) new = (to_come old ≡ Takes new.stop []) × (to_come new ≡ to_come old)
Cuts old (Err error) new = (to_come old ≡ Refuses error) × (to_come new ≡ to_come old)

-- where a row stops, or what refuses it
abbrev pub stop_of : Seen → Result ℕ SyntaxError
stop_of (Takes stop parts) = Ok stop
stop_of (Refuses error) = Err error

-- nothing in it is refused
abbrev pub IsTaken : Seen → Type 0
IsTaken (Takes stop parts) = Unit {0}
IsTaken (Refuses error) = ⊥
